use Rattle.std.proofs.Common.{arith}
use Rattle.text.proofs.Placing as placing
use Rattle.text.proofs.put.put_word.Goals as goal

pub returns-then-at-gt4096 : goal.returns-then-at-gt4096
returns-then-at-gt4096 c = placing.put_past _ _ _ (λ l. omega (arith, l, c.told-out, c.if-at-gt4096.true))

pub returns : goal.returns
returns c =
    placing.put_word _ _ _ _ _ _ (omega (arith, c.told-out, c.if-at-gt4096.false)) (rw c.told-out c.min-fitting.ensures) (omega arith)
    c.copy_from_slice.ensures.after
