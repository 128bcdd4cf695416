-- `walk::down::go_down` meets its contract: what the decision at the port leads to, hop by hop.
use Rattle.walk.proofs.DownLaws.{into_here, into_falls, into_room, goes_into, lands_below, stays_alone}
use Rattle.walk.proofs.down.+go_down.Goals as goal

pub invariant_of-below : goal.invariant_of-below
invariant_of-below t c = search into_here

pub go_down-requires : goal.go_down-requires
go_down-requires t c = (search into_falls, search into_room)

pub returns-in-Into : goal.returns-in-Into
returns-in-Into t c = search goes_into

pub returns-in-Lands : goal.returns-in-Lands
returns-in-Lands t c = search lands_below

pub returns-in-Alone : goal.returns-in-Alone
returns-in-Alone t c = search stays_alone
