use Rattle.records.proofs.FaultyLaws.{fine_so, fine_not}
use Rattle.records.proofs.faulty.fine.Goals as goal

pub returns-then-fine_alone : goal.returns-then-fine_alone
returns-then-fine_alone c = fine_so c.args.r.bytes.now c.args.r.index c.fine_alone.ensures c.if-fine_alone.true c.apart.ensures

pub returns-else-fine_alone : goal.returns-else-fine_alone
returns-else-fine_alone c = fine_not c.args.r.bytes.now c.args.r.index c.fine_alone.ensures c.if-fine_alone.false
