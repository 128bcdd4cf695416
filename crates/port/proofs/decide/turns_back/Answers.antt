use Rattle.port.proofs.DecideLaws.{back_on, back_off}
use Rattle.port.proofs.decide.turns_back.Goals as goal

pub returns-then-on : goal.returns-then-on
returns-then-on c = back_on _ _ _ (cc) (cc)

pub returns-else-on : goal.returns-else-on
returns-else-on c = back_off _ _ _ (cc) (cc)
