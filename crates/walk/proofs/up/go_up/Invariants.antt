-- What comes of the way from the port that is reached comes of the whole; the index falls at each turn.
use Rattle.walk.proofs.UpLaws.{Going}
use Rattle.walk.proofs.up.go_up.Given as goal

abbrev pub invariant-loop-action : goal.invariant-loop-action
invariant-loop-action l = Going l.query.bytes.now l.query.tlp l.initial.p l.initial.trail l.p l.trail

abbrev pub decreases-loop-action : goal.decreases-loop-action
decreases-loop-action l = l.p
