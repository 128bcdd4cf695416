-- What is put so far and the hops that are left make the whole.
use Rattle.std.proofs.Common.{◌≡◌}
use Rattle.std.specs.Slice.Iter.{chunks_exact_rest, chunks_exact_size}
use Rattle.text.specs.Text.{hops_in}
use Rattle.text.specs.Room.{put}
use Rattle.text.proofs.buffer.Text.push_hops.Given as goal

abbrev pub invariant-loop-hop : goal.invariant-loop-hop
invariant-loop-hop l =
    (chunks_exact_size l.hop-iterator ≡ 4)
    × (put l.self (hops_in (chunks_exact_rest l.hop-iterator)) ≡ put l.initial.self (hops_in l.hops))
