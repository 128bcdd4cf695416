-- `walk::hops::put_hop` meets its contract: its four stores are one hop laid in.
use Rattle.std.proofs.Common.{◌∙◌, ◌≡◌, ◌/◌, ◌%◌, sym, arith}
use Rattle.numbers.proofs.Laid.{put_four}
use Rattle.walk.proofs.HopsLaws.{put_room, put_none}
use Rattle.walk.proofs.hops.put_hop.Goals as goal

pub returns-then-k-buffer : goal.returns-then-k-buffer
returns-then-k-buffer c =
    let high : c.args.index / 256 % 256 ≡ c.args.index / 256 = omega arith in
    rw (c.to_le_bytes.ensures, high) (put_four _ _ _ _ _ _ (omega arith) ∙ sym (put_room _ _ _ c.if-k-buffer.true))

pub returns-else-k-buffer : goal.returns-else-k-buffer
returns-else-k-buffer c = sym (put_none _ _ _ c.if-k-buffer.false)
