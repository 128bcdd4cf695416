-- `route::answer::route` meets its contract: refusals 1 to 4, and then the query's.
use Rattle.std.proofs.lemmas.Result.{err_from_is_err_and}
use Rattle.route.proofs.AnswerLaws.{route_refused, route_asked}
use Rattle.route.proofs.answer.route.Goals as goal

pub returns-in_err-fabric : goal.returns-in_err-fabric
returns-in_err-fabric c =
    let p = err_from_is_err_and c.from_residual.result c.from_residual.ensures.1 in
    rw (p.1, p.2) (route_refused _ _ _ _ _ c.in_err-fabric.ensures.refused)

pub returns : goal.returns
returns c = route_asked _ _ _ _ _ c.in_ok-fabric.ensures.bytes c.in_ok-fabric.ensures.accepted c.ask.ensures
