use Rattle.std.proofs.Common.{rules}
use Rattle.records.proofs.SiblingsLaws.{earlier_ranges}
use Rattle.records.proofs.FaultyLaws.{alone_ranges}
use Rattle.records.proofs.siblings.Next.conflict.Goals as goal

pub conflict-requires-clause-one : goal.conflict-requires-clause-one
conflict-requires-clause-one c = search (rules, alone_ranges)

pub conflict-requires-clause-other : goal.conflict-requires-clause-other
conflict-requires-clause-other c =
    let n = c.args.self.node in
    rw (c.earlier.ensures.bytes, c.earlier.ensures.index) (earlier_ranges n.bytes.now c.args.j c.args.self.earlier c.requires)
