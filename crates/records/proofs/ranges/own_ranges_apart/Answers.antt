use Rattle.std.proofs.Common.{not, ap, rules, refl}
use Rattle.rules.specs.Records.{own_ranges_apart}
use Rattle.rules.proofs.Ranges.{any_below_from_range}
use Rattle.records.proofs.ranges.own_ranges_apart.Goals as goal

pub returns : goal.returns
unfolding own_ranges_apart
returns c = ap not (any_below_from_range c.any.ensures.ran refl (search rules))
