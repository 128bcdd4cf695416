-- `walk::up::port_above` meets its contract: two steps up.
use Rattle.std.proofs.Common.{rules}
use Rattle.rules.specs.Fabric.{shape_of}
use Rattle.walk.proofs.up.port_above.Goals as goal

pub returns : goal.returns
unfolding shape_of
returns c = search rules
