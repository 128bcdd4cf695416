use Rattle.std.proofs.Common.{rules, ◌∙◌, refl}
use Rattle.rules.proofs.Ranges.{any_below_from_range}
use Rattle.cover.proofs.CoverLaws.{used_decide}
use Rattle.cover.proofs.Visit.covers_address.Goals as goal

pub returns : goal.returns
returns c =
    any_below_from_range c.any.ensures.ran refl (search rules)
    ∙ used_decide c.args.self.query.bytes.now c.args.self.node c.args.address c.args.self.query.accepted c.args.self.present
    c.record-record.ensures.bytes c.record-record.ensures.index c.ranges_used.ensures
