use Rattle.std.proofs.Common.{rules, refl}
use Rattle.rules.proofs.Ranges.{any_below_from_range}
use Rattle.records.proofs.RangesLaws.{closed_overlaps_none}
use Rattle.records.proofs.pair.Pair.overlaps.Goals as goal

pub returns-then-is_open : goal.returns-then-is_open
returns-then-is_open c = any_below_from_range c.any.ensures.ran refl (search rules)

pub returns-else-is_open : goal.returns-else-is_open
returns-else-is_open c =
    let p = c.args.self in
    closed_overlaps_none p.one.bytes.now p.one.index c.args.k p.other.index c.args.n
    c.range.ensures.first c.range.ensures.last c.is_open.ensures c.if-is_open.false
