use Rattle.port.proofs.DecideLaws.{past_unclaimed, past_on}
use Rattle.port.proofs.decide.past_parent.Goals as goal

pub returns-then-covers : goal.returns-then-covers
returns-then-covers c = past_unclaimed _ _ _ c.parent-above.ensures.node (cc) (cc)

pub returns-else-covers : goal.returns-else-covers
returns-else-covers c = past_on _ _ _ c.parent-above.ensures.node (cc) (cc)
