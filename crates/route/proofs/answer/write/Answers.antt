-- `route::answer::write` meets its contract: all hops have room, and 257 are the most.
use Rattle.route.proofs.AnswerLaws.{count_fits, writes}
use Rattle.route.proofs.answer.write.Goals as goal

pub overflow_cast-result : goal.overflow_cast-result
overflow_cast-result c = record { fits = search count_fits }

pub returns : goal.returns
returns c = search writes
