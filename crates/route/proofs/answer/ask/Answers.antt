-- `route::answer::ask` meets its contract: refusals 5 to 7.
use Rattle.route.proofs.AnswerLaws.{ask_stray, ask_bad, ask_good}
use Rattle.route.proofs.answer.ask.Goals as goal

pub returns-then-not-is_origin : goal.returns-then-not-is_origin
returns-then-not-is_origin c = search ask_stray

pub returns-in-None : goal.returns-in-None
returns-in-None c = search ask_bad

pub returns-in-Some : goal.returns-in-Some
returns-in-Some c = search ask_good
