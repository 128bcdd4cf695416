-- What an answer promises, and the parts of it that a function of their own works out.
use Rattle.std.specs.Prelude.{◌≡◌, List, [], ◌∷◌, ℕ}
use Rattle.rules.specs.declared.Tlp.{Tlp}
use Rattle.rules.specs.Fabric.{shape_of, setting_of}
use Rattle.rules.specs.Route.{Trip, route}
use Rattle.rules.specs.Refuse.{Result, answered, through, unless, fits, query_gates, routed, written}
use Rattle.rules.specs.Word.{Answer, answer_fields, result_fields}

-- The answer a has the numbers of the result x, and the buffer b ends as x leaves it.
pub record Answers (x : Result Trip) (b : List ℕ) (a : Answer) (b₁ : List ℕ) : Type 0 where
  pub says : answer_fields a ≡ result_fields x
  pub leaves : b₁ ≡ written x b

-- the way of a TLP from origin o
abbrev pub trip : List ℕ → Tlp → ℕ → Trip
trip s t o = route (shape_of s) (setting_of s) t o

-- refusal 7, of a way that is known
abbrev pub finished : Trip → ℕ → Result Trip
finished r room = through (unless (fits r room) 7 ∷ []) (answered r)

-- refusals 5 to 7
abbrev pub asked : List ℕ → ℕ → List ℕ → ℕ → Result Trip
asked s o h room = through (query_gates s o h) (finished (routed s o h) room)
