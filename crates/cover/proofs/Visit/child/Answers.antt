use Rattle.std.proofs.Common.{rules, ◌∙◌, refl}
use Rattle.rules.proofs.Ranges.{find_from_range}
use Rattle.cover.proofs.CoverLaws.{child_found}
use Rattle.cover.proofs.Visit.child.Goals as goal

pub returns-clause-value : goal.returns-clause-value
returns-clause-value c =
    find_from_range _ c.find.ensures.ran refl (search rules)
    ∙ child_found c.args.self.query.bytes.now c.args.self.query.tlp c.args.self.node c.count.ensures
