use Rattle.port.proofs.DecideLaws.{step_1, step_2, step_3, step_4, steps_5_and_6}
use Rattle.port.proofs.decide.decide.Goals as goal

pub returns-then-bad_source : goal.returns-then-bad_source
returns-then-bad_source c = step_1 _ _ _ (cc) (cc)

pub returns-then-bad_translation : goal.returns-then-bad_translation
returns-then-bad_translation c = step_2 _ _ _ (cc) (cc) (cc)

pub returns-then-covers : goal.returns-then-covers
returns-then-covers c = step_3 _ _ _ (cc) (cc) (cc) (cc)

pub returns-in-Some : goal.returns-in-Some
returns-in-Some c = step_4 _ _ _ (cc) (cc) {q = c.in-Some.q} (cc) (cc) (cc)

pub returns-in-None : goal.returns-in-None
returns-in-None c = steps_5_and_6 _ _ _ (cc) (cc) (cc) (cc) (cc)
