-- `route::answer::has_room` meets its contract: by the count, but where there is room for the most.
use Rattle.route.proofs.AnswerLaws.{room_counted, room_for_most}
use Rattle.route.proofs.answer.has_room.Goals as goal

pub returns-then-room-ge-ROOM_FOR_ALL : goal.returns-then-room-ge-ROOM_FOR_ALL
returns-then-room-ge-ROOM_FOR_ALL c = search room_for_most

pub returns : goal.returns
returns c = search room_counted
