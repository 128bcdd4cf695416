use Rattle.std.proofs.Common.{◌∙◌, rules, refl}
use Rattle.rules.specs.Records.{ranges_meet}
use Rattle.rules.proofs.Ranges.{any_below_from_range}
use Rattle.records.proofs.RangesLaws.{windows_decide}
use Rattle.records.proofs.pair.Pair.ranges_meet.Goals as goal

pub returns-then-is_bridge-2 : goal.returns-then-is_bridge-2
returns-then-is_bridge-2 c =
    any_below_from_range c.any.ensures.ran refl (search rules)
    ∙ windows_decide _ _ _ c.requires.one (search rules) (search rules) (search rules)

pub returns : goal.returns
unfolding ranges_meet
returns c = any_below_from_range c.any-2.ensures.ran refl (search rules)
