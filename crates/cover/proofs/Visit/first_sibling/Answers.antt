use Rattle.cover.proofs.CoverLaws.{siblings_behind}
use Rattle.cover.proofs.Visit.first_sibling.Goals as goal

pub returns-else-is : goal.returns-else-is
returns-else-is c =
    siblings_behind c.args.self.query.bytes.now c.args.self.node c.args.self.query.accepted c.args.self.present c.parent.ensures.node c.parent.ensures.lower
