use Rattle.std.proofs.Common.{rules, refl}
use Rattle.rules.specs.Records.{ranges_fine}
use Rattle.rules.proofs.Ranges.{all_below_from_range}
use Rattle.records.proofs.ranges.ranges_fine.Goals as goal

pub returns : goal.returns
unfolding ranges_fine
returns c = all_below_from_range c.all.ensures.ran refl (search rules)
