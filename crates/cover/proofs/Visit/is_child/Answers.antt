use Rattle.rules.specs.Fabric.{shape_of}
use Rattle.rules.specs.Cover.{is_child}
use Rattle.cover.proofs.Visit.is_child.Goals as goal

pub returns : goal.returns
unfolding is_child shape_of
returns c = cc
