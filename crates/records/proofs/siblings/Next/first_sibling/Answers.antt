use Rattle.std.proofs.Common.{arith, sym}
use Rattle.records.proofs.ParentsLaws.{lower}
use Rattle.records.proofs.SiblingsLaws.{behind_parent}
use Rattle.records.proofs.FaultyLaws.{alone_parent}
use Rattle.records.proofs.siblings.Next.first_sibling.Goals as goal

pub invariant_of-above : goal.invariant_of-above
invariant_of-above c = let n = c.args.self.node in record { placed = alone_parent n.bytes.now n.index c.args.self.alone }

pub overflow_add-result : goal.overflow_add-result
overflow_add-result c =
    let n = c.args.self.node in
    let stands = alone_parent n.bytes.now n.index c.args.self.alone in
    omega (arith, c.in-Some.ensures.index, lower n.bytes.now n.index stands (sym c.in-Some.ensures.root))

pub returns-in-Some : goal.returns-in-Some
returns-in-Some c =
    let n = c.args.self.node in
    let stands = alone_parent n.bytes.now n.index c.args.self.alone in
    behind_parent n.bytes.now n.index (sym c.in-Some.ensures.root) c.in-Some.ensures.index (omega arith) stands c.args.self.earlier
