-- The laws of any_below, all_below and find_from; what iterators promise of them is said in Ranges.antt.
use mathlib.Core.Path.{◌≡◌, refl, sym, ◌∙◌, ap, subst}
use mathlib.Core.Bool.{Bool, true, false, ◌&&◌, ◌||◌}
use Prim.Native.Nat.{ℕ, zero, suc, ◌+◌, ◌-◌, ◌≤◌, ◌<◌}
use native.Mathlib.Nat.{not-suc-le-zero}
use native.Mathlib.Numerals.{add-one}
use native.Mathlib.Omega.{arith}
use Rattle.rules.specs.Below.{all_below, any_below, find_from}
use Rattle.rules.proofs.Logic.{contradiction, both, either, or_case, or_left, or_right, same_test}
use Rattle.std.specs.Prelude.{Some, None}

-- any_below

pub any_none : (f : ℕ → Bool) → any_below 0 f ≡ false
unfolding any_below
any_none f = refl

-- where some number passes, one can be named
pub record Witness (n : ℕ) (f : ℕ → Bool) : Type 0 where
  pub which : ℕ
  pub below : which < n
  pub passes : f which ≡ true

pub any_some : (n : ℕ) (f : ℕ → Bool) → any_below n f ≡ true → Witness n f
unfolding any_below
any_some zero f h = contradiction h refl
any_some (suc n) f h =
    or_case (any_below n f) (f n) h
    (λ p. let s : Witness n f = any_some n f p in record { which = s.which; below = omega arith; passes = s.passes })
    (λ q. record { which = n; below = omega arith; passes = q })

pub some_any : (n : ℕ) (f : ℕ → Bool) (j : ℕ) → j < n → f j ≡ true → any_below n f ≡ true
unfolding any_below
some_any zero f j l h = absurd (not-suc-le-zero l)
some_any (suc n) f j l h = or_case_lt (some_any n f j) h
  where
    or_case_lt : (j < n → f j ≡ true → any_below n f ≡ true) → f j ≡ true → (any_below n f || f n) ≡ true
    or_case_lt ih p = either (f n) (λ q. or_right (any_below n f) (f n) q) (λ q. or_left (any_below n f) (f n) (ih (strict q p) p))
      where
        strict : f n ≡ false → f j ≡ true → j < n
        strict q p =
            let d : j ≡ n → ⊥ = λ (e : j ≡ n). contradiction p (ap f e ∙ q) in omega (arith, d)

pub any_false : (n : ℕ) (f : ℕ → Bool) → any_below n f ≡ false → (j : ℕ) → j < n → f j ≡ false
any_false n f h j l = either (f j) (λ p. contradiction (some_any n f j l p) h) (λ q. q)

-- numbers at which the test fails may be left out
pub any_cut : (f : ℕ → Bool) (m n : ℕ) → m ≤ n → ((j : ℕ) → m ≤ j → j < n → f j ≡ false) → any_below n f ≡ any_below m f
any_cut f m n l h = same_test (any_below n f) (any_below m f) (λ p. low (any_some n f p)) (λ p. all (any_some m f p))
  where
    low : Witness n f → any_below m f ≡ true
    low w =
        let d : m ≤ w.which → ⊥ = λ (a : m ≤ w.which). contradiction w.passes (h w.which a w.below) in
        some_any m f w.which (omega (arith, d)) w.passes

    all : Witness m f → any_below n f ≡ true
    all w = some_any n f w.which (omega arith) w.passes

pub any_miss : (f : ℕ → Bool) (n : ℕ) → ((j : ℕ) → j < n → f j ≡ false) → any_below n f ≡ false
any_miss f n h = any_cut f 0 n (omega arith) (λ j a b. h j b) ∙ any_none f

-- one test for another
pub any_same : (f g : ℕ → Bool) (n : ℕ) → ((j : ℕ) → j < n → f j ≡ g j) → any_below n f ≡ any_below n g
unfolding any_below
any_same f g zero h = refl
any_same f g (suc n) h = rw (any_same f g n (λ j b. h j (omega arith)), h n (omega arith))

-- all_below

pub all_none : (f : ℕ → Bool) → all_below 0 f ≡ true
unfolding all_below
all_none f = refl

pub all_turn : (f : ℕ → Bool) (j : ℕ) {ok b : Bool} → ok ≡ all_below j f → b ≡ f j → (ok && b) ≡ all_below (j + 1) f
unfolding all_below
all_turn f j p q = rw (add-one, p, q)

pub all_at : (n : ℕ) (f : ℕ → Bool) → all_below n f ≡ true → (j : ℕ) → j < n → f j ≡ true
unfolding all_below
all_at zero f h j l = absurd (not-suc-le-zero l)
all_at (suc n) f h j l = at_or_below (all_at n f (both (all_below n f) (f n) h).0 j) (both (all_below n f) (f n) h).1
  where
    at_or_below : (j < n → f j ≡ true) → f n ≡ true → f j ≡ true
    at_or_below ih p = either (f j) (λ q. q) (λ q. ih (strict q))
      where
        strict : f j ≡ false → j < n
        strict q = let d : j ≡ n → ⊥ = λ (e : j ≡ n). contradiction p (sym (ap f e) ∙ q) in omega (arith, d)

-- find_from: k numbers from i on, as what is left of n

pub find_miss : (f : ℕ → Bool) (n i : ℕ) → i < n → f i ≡ false → find_from f (n - i) i ≡ find_from f (n - (i + 1)) (i + 1)
unfolding find_from
find_miss f n i l h =
    let e : suc (n - (i + 1)) ≡ n - i = omega arith in
    subst (λ (k : ℕ). find_from f k i ≡ find_from f (n - (i + 1)) (i + 1)) e step
  where
    step : find_from f (suc (n - (i + 1))) i ≡ find_from f (n - (i + 1)) (i + 1)
    step = rw (h, add-one)

-- what is found is in range and passes
pub record Hit (f : ℕ → Bool) (k i j : ℕ) : Type 0 where
  pub from : i ≤ j
  pub below : j < i + k
  pub passes : f j ≡ true

pub find_in : (f : ℕ → Bool) (k i j : ℕ) → find_from f k i ≡ Some j → Hit f k i j
unfolding find_from
find_in f zero i j h = let z : ◌≡◌ {A = ℕ} 0 1 = cc in absurd (omega arith)
find_in f (suc k) i j h =
    either (f i)
    (λ p.
    let e : Some i ≡ Some j = sym (rw p) ∙ h in
    let same : i ≡ j = cc in record { from = omega arith; below = omega arith; passes = subst (λ (m : ℕ). f m ≡ true) same p })
    (λ q.
    let e : find_from f k (suc i) ≡ Some j = sym (rw q) ∙ h in
    let r : Hit f k (suc i) j = find_in f k (suc i) j e in
    record { from = omega arith; below = omega arith; passes = r.passes })

-- where nothing is found nothing passes
pub find_none : (f : ℕ → Bool) (k i : ℕ) → find_from f k i ≡ None → (j : ℕ) → i ≤ j → j < i + k → f j ≡ false
unfolding find_from
find_none f zero i h j a b = absurd (omega arith)
find_none f (suc k) i h j a b = go (f i) refl (find_none f k (suc i))
  where
    go : (b : Bool) → f i ≡ b → (find_from f k (suc i) ≡ None → (j : ℕ) → suc i ≤ j → j < suc i + k → f j ≡ false) → f j ≡ false
    go true p ih = let e : Some i ≡ None = sym (rw p) ∙ h in let z : ◌≡◌ {A = ℕ} 0 1 = cc in absurd (omega arith)
    go false q ih =
        either (f j) (λ p. ih (sym (rw q) ∙ h) j (strict p) (omega arith)) (λ r. r)
      where
        strict : f j ≡ true → suc i ≤ j
        strict p = let d : i ≡ j → ⊥ = λ (e : i ≡ j). contradiction p (sym (ap f e) ∙ q) in omega (arith, d)

-- one test for another
pub find_same : (f g : ℕ → Bool) (k i : ℕ) → ((j : ℕ) → i ≤ j → j < i + k → f j ≡ g j) → find_from f k i ≡ find_from g k i
unfolding find_from
find_same f g zero i h = refl
find_same f g (suc k) i h =
    rw (h i (omega arith) (omega arith), find_same f g k (suc i) (λ j a b. h j (omega arith) (omega arith)))

-- a search over n numbers, where n is m, starts as one over m
pub find_all : (f : ℕ → Bool) (n m : ℕ) → n ≡ m → find_from f (n - 0) 0 ≡ find_from f m 0
find_all f n m e = let z : n - 0 ≡ m = omega arith in ap (λ (k : ℕ). find_from f k 0) z

pub find_after : (f : ℕ → Bool) (n m i : ℕ) → n ≡ m → find_from f (n - i) i ≡ find_from f (m - i) i
find_after f n m i e = ap (λ (k : ℕ). find_from f (k - i) i) e

-- a search may begin behind numbers that fail
pub find_behind : (f : ℕ → Bool) (n from : ℕ) → from ≤ n → ((j : ℕ) → j < from → f j ≡ false)
    → find_from f (n - from) from ≡ find_from f n 0
find_behind f n zero l h = let z : n - 0 ≡ n = omega arith in ap (λ (k : ℕ). find_from f k 0) z
find_behind f n (suc i) l h =
    let e : find_from f (n - i) i ≡ find_from f (n - (i + 1)) (i + 1) = find_miss f n i (omega arith) (h i (omega arith)) in
    sym (rw add-one at e) ∙ find_behind f n i (omega arith) (λ j m. h j (omega arith))
