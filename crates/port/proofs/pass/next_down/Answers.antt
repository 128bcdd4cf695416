use Rattle.port.proofs.PassLaws.{next_child, next_alone}
use Rattle.port.proofs.pass.next_down.Goals as goal

pub returns-in-Some : goal.returns-in-Some
returns-in-Some c = next_child _ _ _ {c = c.in-Some.c} (cc) (cc)

pub returns-in-None : goal.returns-in-None
returns-in-None c = next_alone _ _ _ (cc) (cc)
