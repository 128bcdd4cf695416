-- `route::answer::finish` meets its contract: refusal 7 where the hops have no room, and else the hops.
use Rattle.route.proofs.AnswerLaws.{room_enough, finish_fits, finish_full}
use Rattle.route.proofs.answer.finish.Goals as goal

pub returns-then-not-has_room : goal.returns-then-not-has_room
returns-then-not-has_room c = search finish_full

pub write-requires : goal.write-requires
write-requires c = search room_enough

pub returns : goal.returns
returns c = search finish_fits
