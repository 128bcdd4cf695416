use Rattle.port.proofs.DecideLaws.{translation_checked, translation_unchecked}
use Rattle.port.proofs.decide.bad_translation.Goals as goal

pub returns-then-checked : goal.returns-then-checked
returns-then-checked c = translation_checked _ _ _ (cc) (cc)

pub returns-else-checked : goal.returns-else-checked
returns-else-checked c = translation_unchecked _ _ _ (cc) (cc)
