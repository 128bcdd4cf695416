-- `walk::up::go_up` meets its contract: each move of the decision, up or to an end.
use Rattle.walk.proofs.UpLaws.{no_root, lower, peer_here, peer_room, goes_up, goes_across, goes_back, stops, stops_beyond}
use Rattle.walk.proofs.up.go_up.Goals as goal

pub port_above-p-requires : goal.port_above-p-requires
port_above-p-requires c = search no_root

pub loop-action-smaller : goal.loop-action-smaller
loop-action-smaller c = search lower

pub loop-action-preserved : goal.loop-action-preserved
loop-action-preserved c = search goes_up

pub invariant_of-go_down : goal.invariant_of-go_down
invariant_of-go_down c = search peer_here

pub go_down-requires : goal.go_down-requires
go_down-requires c = search peer_room

pub returns-in-Across : goal.returns-in-Across
returns-in-Across c = search goes_across

pub returns-in-Reflect : goal.returns-in-Reflect
returns-in-Reflect c = search goes_back

pub returns-in-Stop : goal.returns-in-Stop
returns-in-Stop c = search stops

pub returns-in-Beyond : goal.returns-in-Beyond
returns-in-Beyond c = search stops_beyond
