use Rattle.port.proofs.DecideLaws.{source_checked, source_unchecked}
use Rattle.port.proofs.decide.bad_source.Goals as goal

pub returns-then-validated : goal.returns-then-validated
returns-then-validated c = source_checked _ _ _ (cc) (cc)

pub returns-else-validated : goal.returns-else-validated
returns-else-validated c = source_unchecked _ _ _ (cc) (cc)
