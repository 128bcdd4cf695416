use Rattle.std.proofs.Common.{◌<◌, arith}
use Rattle.cover.proofs.CoverLaws.{parent_lower}
use Rattle.cover.proofs.Visit.parent.Goals as goal

pub at-requires : goal.at-requires
at-requires c =
    let l : c.parent.result < c.args.self.node =
    parent_lower c.args.self.query.bytes.now c.args.self.node c.args.self.query.accepted c.args.self.present c.requires (cc) in
    omega (arith, c.args.self.present)

pub returns-clause-lower : goal.returns-clause-lower
returns-clause-lower c =
    let l : c.parent.result < c.args.self.node =
    parent_lower c.args.self.query.bytes.now c.args.self.node c.args.self.query.accepted c.args.self.present c.requires (cc) in
    omega (arith, c.at.ensures.node)
