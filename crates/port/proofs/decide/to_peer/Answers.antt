use Rattle.rules.specs.Decide.{to_peer}
use Rattle.port.proofs.decide.to_peer.Goals as goal

pub returns : goal.returns
unfolding to_peer
returns c = cc
