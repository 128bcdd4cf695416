-- `walk::hops::Trail::put` meets its contract: one hop more is counted, and laid in where it has room.
use Rattle.std.proofs.Common.{refl}
use Rattle.walk.specs.Hops.{puts}
use Rattle.walk.proofs.hops.Trail.put.Goals as goal

pub returns : goal.returns
unfolding puts
returns c = record { same_buffer = refl; counted = refl; laid = rw c.from.ensures at c.put_hop.ensures }
