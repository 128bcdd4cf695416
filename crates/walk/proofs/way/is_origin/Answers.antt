-- `walk::way::is_origin` meets its contract: refusal 5.
use Rattle.std.proofs.Common.{rules, tests}
use Rattle.rules.specs.Refuse.{is_origin}
use Rattle.walk.proofs.way.is_origin.Goals as goal

pub returns-then-o-eq-COMPLEX : goal.returns-then-o-eq-COMPLEX
unfolding is_origin
returns-then-o-eq-COMPLEX c = search (tests, rules)

pub returns-then-o-count : goal.returns-then-o-count
unfolding is_origin
returns-then-o-count c = search (tests, rules)

pub returns-else-o-count : goal.returns-else-o-count
unfolding is_origin
returns-else-o-count c = search (tests, rules)
