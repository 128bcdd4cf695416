use Rattle.port.proofs.DecideLaws.{request_blocked, completion_free}
use Rattle.port.proofs.decide.blocks.Goals as goal

pub returns-then-query : goal.returns-then-query
returns-then-query c = request_blocked _ _ (cc) (cc)

pub returns-else-query : goal.returns-else-query
returns-else-query c = completion_free _ _ (cc) (cc)
