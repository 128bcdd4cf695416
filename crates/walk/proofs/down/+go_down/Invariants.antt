-- The records left above the index fall at each call.
use Rattle.std.proofs.Common.{◌-◌}
use Rattle.rules.specs.Snapshot.{count}
use Rattle.walk.proofs.down.+go_down.Given as goal

abbrev pub decreases-go_down : goal.decreases-go_down
decreases-go_down l = count l.visit.query.bytes.now - l.visit.node
