use Rattle.port.proofs.DecideLaws.{top_blocks, top_reflects}
use Rattle.port.proofs.decide.at_the_top.Goals as goal

pub returns-then-blocks : goal.returns-then-blocks
returns-then-blocks c = top_blocks _ _ _ (cc) (cc)

pub returns-else-blocks : goal.returns-else-blocks
returns-else-blocks c = top_reflects _ _ _ (cc) (cc)
