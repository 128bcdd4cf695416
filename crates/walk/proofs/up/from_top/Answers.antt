-- `walk::up::from_top` meets its contract: down the root port that was found, or nowhere.
use Rattle.std.proofs.Common.{arith}
use Rattle.walk.proofs.UpLaws.{entry_here, enters, enters_nowhere}
use Rattle.walk.proofs.up.from_top.Goals as goal

pub go_down-requires : goal.go_down-requires
go_down-requires c = search (entry_here, arith)

pub returns-in-Some : goal.returns-in-Some
returns-in-Some c = search enters

pub returns-in-None : goal.returns-in-None
returns-in-None c = search enters_nowhere
