-- A refusal, or a route with its hops.
use Rattle.std.proofs.Common.{arith, refl, ◌≡◌}
use Rattle.rules.specs.Word.{number_of}
use Rattle.text.specs.Text.{refusal_text, answer_text}
use Rattle.report.specs.Framing.{snapshot_of, answer_to}
use Rattle.report.proofs.Telling.{trip_begins, trip_few, trip_room, trip_hops, refused_answer, ended_answer}
use Rattle.report.proofs.tell.Goals as goal

pub slice_bounds-hops-end : goal.slice_bounds-hops-end
slice_bounds-hops-end c = search trip_room

pub slice_bounds-push_trip-end : goal.slice_bounds-push_trip-end
slice_bounds-push_trip-end c = search trip_hops

pub push_trip-requires : goal.push_trip-requires
push_trip-requires c = search trip_begins

pub returns-in-Err-clause-line : goal.returns-in-Err-clause-line
returns-in-Err-clause-line c =
    let is : refusal_text (number_of c.in-Err.refused.why) c.in-Err.refused.index ≡ answer_text (snapshot_of c.args.input.now) (answer_to c.args.input.now)
    = search refused_answer in
    rw (← is) c.push_refusal.ensures.line

pub returns-in-Err-clause-short : goal.returns-in-Err-clause-short
returns-in-Err-clause-short c =
    let is : refusal_text (number_of c.in-Err.refused.why) c.in-Err.refused.index ≡ answer_text (snapshot_of c.args.input.now) (answer_to c.args.input.now)
    = search refused_answer in
    let short = c.push_refusal.ensures.short in
    rw (← is) (omega arith)

pub returns-in-Ok-clause-line : goal.returns-in-Ok-clause-line
returns-in-Ok-clause-line c =
    let is = ended_answer _ _ c.requires.0 c.requires.1 c.le-time.ensures c.le-origin.ensures _ refl c.route.ensures c.in-Ok.is in
    rw (← is) c.push_trip.ensures.line

pub returns-in-Ok-clause-short : goal.returns-in-Ok-clause-short
returns-in-Ok-clause-short c =
    let is = ended_answer _ _ c.requires.0 c.requires.1 c.le-time.ensures c.le-origin.ensures _ refl c.route.ensures c.in-Ok.is in
    let few = trip_few _ _ _ _ _ c.route.ensures c.in-Ok.is in
    let size = trip_hops _ _ _ _ _ c.route.ensures c.in-Ok.is in
    let short = c.push_trip.ensures.short in
    rw (← is) (omega arith)
