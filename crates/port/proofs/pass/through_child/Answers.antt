use Rattle.port.proofs.PassLaws.{child_not, child_end, child_on, child_stuck}
use Rattle.port.proofs.pass.through_child.Goals as goal

pub returns-then-not-covers : goal.returns-then-not-covers
returns-then-not-covers c = child_not _ _ _ (cc) (cc)

pub returns-then-is : goal.returns-then-is
returns-then-is c = child_end _ _ _ (cc) (cc) (cc)

pub returns-in-Some : goal.returns-in-Some
returns-in-Some c = child_on _ _ _ (cc) {q = c.in-Some.q} (cc) (cc) (cc)

pub returns-in-None : goal.returns-in-None
returns-in-None c = child_stuck _ _ _ (cc) (cc) (cc) (cc)
