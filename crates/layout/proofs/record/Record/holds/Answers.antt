use Rattle.std.proofs.Common.{rules, refl}
use Rattle.rules.specs.Fabric.{holds}
use Rattle.rules.proofs.Ranges.{any_below_from_range}
use Rattle.layout.proofs.record.Record.holds.Goals as goal

pub returns : goal.returns
unfolding holds
returns c = any_below_from_range c.any.ensures.ran refl (search rules)
