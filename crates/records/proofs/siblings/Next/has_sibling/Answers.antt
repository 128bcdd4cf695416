use Rattle.std.proofs.Common.{rules, refl}
use Rattle.rules.proofs.Ranges.{any_below_from}
use Rattle.records.proofs.siblings.Next.has_sibling.Goals as goal

pub returns : goal.returns
returns c = any_below_from c.any.ensures.ran refl c.first_sibling.ensures.none_before (search rules)
