use Rattle.std.proofs.Common.{rules, refl}
use Rattle.rules.proofs.Ranges.{any_below_from}
use Rattle.records.proofs.SiblingsLaws.{no_conflict}
use Rattle.records.proofs.siblings.Next.has_conflict.Goals as goal

pub returns : goal.returns
returns c =
    any_below_from c.any.ensures.ran refl (λ j l. no_conflict _ _ j (c.first_sibling.ensures.none_before j l)) (search rules)
