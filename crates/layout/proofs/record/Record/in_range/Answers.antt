use Rattle.std.proofs.Common.{◌∙◌}
use Rattle.layout.proofs.RangeLaws.{in_range_lem}
use Rattle.layout.proofs.record.Record.in_range.Goals as goal

pub returns : goal.returns
returns c = c.contains.ensures ∙ in_range_lem c.args.self.bytes.now c.args.self.index c.args.a c.args.k c.range.ensures.first c.range.ensures.last
