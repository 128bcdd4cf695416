use Rattle.config.proofs.ListLaws.{Walking}
use Rattle.config.proofs.image.Image.find.Given as goal

abbrev pub invariant-loop : goal.invariant-loop
invariant-loop l = Walking l.self.bytes.now l.at l.counter
