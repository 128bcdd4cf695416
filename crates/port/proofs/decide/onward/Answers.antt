use Rattle.port.proofs.DecideLaws.{onward_host, onward_past}
use Rattle.port.proofs.decide.onward.Goals as goal

pub returns-then-is : goal.returns-then-is
returns-then-is c = onward_host _ _ _ (cc) (cc)

pub returns-else-is : goal.returns-else-is
returns-else-is c = onward_past _ _ _ (cc) (cc)
