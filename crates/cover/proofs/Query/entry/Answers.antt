use Rattle.std.proofs.Common.{rules, ◌∙◌, refl}
use Rattle.rules.proofs.Ranges.{find_from_range}
use Rattle.cover.proofs.CoverLaws.{entry_found}
use Rattle.cover.proofs.Query.entry.Goals as goal

pub returns-clause-value : goal.returns-clause-value
returns-clause-value c =
    find_from_range _ c.find.ensures.ran refl (search rules) ∙ entry_found c.args.self.bytes.now c.args.self.tlp c.count.ensures
