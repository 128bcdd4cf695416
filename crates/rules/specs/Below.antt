-- Tests over the numbers below a bound, and the first number that passes one: what the loops over records, ranges and bits work out.
use Rattle.std.specs.Prelude.{Bool, true, false, cond, ◌&&◌, ◌||◌, List, [], ◌∷◌, ℕ, zero, suc}
use Rattle.std.specs.Prelude.{Option, Some, None}

-- every test of a written list passes
abbrev pub all_of : List Bool → Bool
all_of [] = true
all_of (b ∷ l) = b && all_of l

-- f passes at each number below n
unfoldable pub all_below : ℕ → (ℕ → Bool) → Bool
all_below zero f = true
all_below (suc n) f = all_below n f && f n

-- f passes at some number below n
unfoldable pub any_below : ℕ → (ℕ → Bool) → Bool
any_below zero f = false
any_below (suc n) f = any_below n f || f n

-- the first of the k numbers from i on at which f passes
unfoldable pub find_from : (ℕ → Bool) → ℕ → ℕ → Option ℕ
find_from f zero i = None
find_from f (suc k) i = cond (f i) (Some i) (find_from f k (suc i))

-- goes on with what was found, or else
abbrev pub among : {A : Type 0} → Option ℕ → (ℕ → A) → A → A
among (Some i) f z = f i
among None f z = z
