use Rattle.port.proofs.DecideLaws.{sent_top, sent_on}
use Rattle.port.proofs.decide.sent_up.Goals as goal

pub returns-then-is : goal.returns-then-is
returns-then-is c = sent_top _ _ _ _ (cc) (cc)

pub returns-else-is : goal.returns-else-is
returns-else-is c = sent_on _ _ _ _ (cc) (cc)
