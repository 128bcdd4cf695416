use Rattle.cover.proofs.CoverLaws.{entry_yes, entry_no}
use Rattle.cover.proofs.Query.is_entry.Goals as goal

pub returns-then-is : goal.returns-then-is
returns-then-is c = entry_yes _ _ _ (cc) (cc)

pub returns-else-is : goal.returns-else-is
returns-else-is c = entry_no _ _ _ (cc) (cc)
