use Rattle.std.proofs.Common.{arith, rules, ◌∙◌, ◌+◌}
use Rattle.numbers.proofs.NumbersLaws.{copy_turn, copy_end, byte_past}
use Rattle.numbers.proofs.numbers.put_bytes.Goals as goal

pub loop-k-preserved : goal.loop-k-preserved
loop-k-preserved c =
    let past = byte_past c.args.s.now (c.args.from + c.loop-k.k) c.saturating_add.ensures (search rules) in
    copy_turn c.loop-k.invariant (omega arith) (c.byte_or_0.ensures ∙ past)

pub returns : goal.returns
returns c = copy_end c.loop-k.invariant (omega arith)
