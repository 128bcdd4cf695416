-- Hops laid into a buffer, one after the other.
use Rattle.std.specs.Prelude.{cond, List, [], ◌∷◌, ℕ, ◌+◌, ◌*◌, ◌/◌, ltb, length}
use Rattle.rules.specs.Route.{Hop, hop_bytes}
use Rattle.rules.specs.Bytes.{laid}

-- b with hop number k, where there is room for it
unfoldable pub put_at : List ℕ → ℕ → Hop → List ℕ
put_at b k h = cond (ltb k (length b / 4)) (laid b (4 * k) (hop_bytes (h ∷ []))) b

-- b with these hops from number k on, each where there is room for it
unfoldable pub puts : List ℕ → ℕ → List Hop → List ℕ
puts b k [] = b
puts b k (h ∷ l) = puts (put_at b k h) (k + 1) l
