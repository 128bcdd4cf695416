-- The bytes from k on are still owed.
use Rattle.numbers.proofs.NumbersLaws.{Copied}
use Rattle.numbers.proofs.numbers.put_bytes.Given as goal

abbrev pub invariant-loop-k : goal.invariant-loop-k
invariant-loop-k l = Copied l.fn.b l.at l.n l.s l.from l.b l.k
