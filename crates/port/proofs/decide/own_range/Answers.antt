use Rattle.port.proofs.DecideLaws.{own_up, own_undefined}
use Rattle.port.proofs.decide.own_range.Goals as goal

pub returns-then-on : goal.returns-then-on
returns-then-on c = own_up _ _ _ (cc) (cc)

pub returns-else-on : goal.returns-else-on
returns-else-on c = own_undefined _ _ _ (cc) (cc)
