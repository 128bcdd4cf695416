-- A worked case: what is put in, and what must come out of the whole answer, the refusals, the record rules and the route.
use Rattle.std.specs.Prelude.{◌≡◌, List, [], ◌∷◌, ℕ}
use Rattle.rules.specs.declared.Outcome.{Outcome}
use Rattle.rules.specs.Route.{Hop, Trip}
use Rattle.rules.specs.Bound.{room_for_all}
use Rattle.rules.specs.Refuse.{Result, answered, result}

pub record Case : Type 0 where
  pub snapshot : List ℕ
  pub header : List ℕ
  pub wanted : Result Trip

abbrev pub case : List ℕ → List ℕ → Result Trip → Case
case s h r = record { snapshot = s; header = h; wanted = r }

abbrev pub ends : Outcome → List Hop → Result Trip
ends end hops = answered (record { end = end; hops = hops })

-- the answer to the case's query from origin 4 at time 0, with room for 257 hops
abbrev pub given : Case → Result Trip
given c = result c.snapshot 0 4 c.header room_for_all

-- each case of the list comes out as wanted
abbrev pub Every : List Case → Type 0
Every [] = Unit {0}
Every (c ∷ l) = (given c ≡ c.wanted) × Every l
