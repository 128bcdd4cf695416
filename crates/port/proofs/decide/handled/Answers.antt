use Rattle.port.proofs.DecideLaws.{handled_direct, handled_redirect, handled_violation}
use Rattle.port.proofs.decide.handled.Goals as goal

pub returns-in-Direct : goal.returns-in-Direct
returns-in-Direct c = handled_direct _ _ _ _ (cc) (cc)

pub returns-in-Redirect : goal.returns-in-Redirect
returns-in-Redirect c = handled_redirect _ _ _ _ (cc) (cc)

pub returns-in-Violation : goal.returns-in-Violation
returns-in-Violation c = handled_violation _ _ _ _ (cc) (cc)
