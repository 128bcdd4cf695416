use borrow.Author.Tests.{ne_eqb}
use Rattle.cover.proofs.CoverLaws.{way_yes, way_no}
use Rattle.cover.proofs.Visit.is_way_on.Goals as goal

pub returns-then-parent-self : goal.returns-then-parent-self
returns-then-parent-self c = way_yes _ _ _ _ (cc) (cc)

pub returns-else-parent-self : goal.returns-else-parent-self
returns-else-parent-self c = way_no _ _ _ _ (λ e. c.if-parent-self.false (cc)) (ne_eqb _ _ c.if-parent-self.false)
