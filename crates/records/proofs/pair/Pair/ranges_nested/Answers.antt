use Rattle.std.proofs.Common.{rules, refl}
use Rattle.rules.proofs.Ranges.{all_below_from_range}
use Rattle.records.proofs.pair.Pair.ranges_nested.Goals as goal

pub returns : goal.returns
returns c = all_below_from_range c.all.ensures.ran refl (search rules)
