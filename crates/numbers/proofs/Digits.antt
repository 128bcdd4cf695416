-- Counts of binary digits: one digit set is a power of two, and trailing zeros say by which powers of two a number is divided.
--
use mathlib.Core.Path.{◌≡◌, refl, sym, ◌∙◌, ap, ap₂, subst}
use mathlib.Core.Bool.{Bool, true, false, ◌&&◌}
use mathlib.Core.Logic.{◌⊎◌, ⊎_elim}
use Prim.Native.Nat.{ℕ, zero, suc, ◌+◌, ◌-◌, ◌*◌, ◌^◌, ◌/◌, ◌%◌, ◌≤◌, ◌<◌, zero-le}
use native.Mathlib.Nat.{not-suc-le-zero, eq-zero-or-pos, mod-one}
use native.Mathlib.Numerals.{add-one}
use native.Mathlib.Omega.{arith}
use lib.Dec.{eqb, leb}
use lib.Count.{ones, ones_in, ones_step, ones_cat, ones-le, count_trailing_zeros, under}
use lib.Pow.{pow_pos, pow_mono, mod-pow-add}
use borrow.Author.Tests.{eqb-true, eq-eqb, leb-true, le-leb, lt-leb}
use Rattle.rules.specs.Below.{any_below}
use Rattle.rules.specs.Records.{power_of_two, sized, span_fine}
use Rattle.rules.proofs.Logic.{either, same_test, and_right_false}
use Rattle.rules.proofs.Loops.{Witness, any_some, some_any}

-- the count of ones

no_digit : (b n : ℕ) → n < 2 ^ b → ones n ≡ 0 → n ≡ 0
no_digit zero n h e = omega arith
no_digit (suc b) n h e =
    let step : ones n ≡ n % 2 + ones (n / 2) = ones_step n in
    let bound : n / 2 < 2 ^ b = omega arith in
    let half : n / 2 ≡ 0 = no_digit b (n / 2) bound (omega arith) in omega arith

record Power (b n : ℕ) : Type 0 where
  exponent : ℕ
  below : exponent < b
  is : n ≡ 2 ^ exponent

one_digit : (b n : ℕ) → n < 2 ^ b → ones n ≡ 1 → Power b n
one_digit zero n h e = absurd (omega (arith, ones-le 0 n h))
one_digit (suc b) n h e = ⊎_elim (even (one_digit b (n / 2))) odd (eq-zero-or-pos (n % 2))
  where
    step : ones n ≡ n % 2 + ones (n / 2)
    step = ones_step n

    bound : n / 2 < 2 ^ b
    bound = omega arith

    even : (n / 2 < 2 ^ b → ones (n / 2) ≡ 1 → Power b (n / 2)) → n % 2 ≡ 0 → Power (suc b) n
    even ih z =
        let w : Power b (n / 2) = ih bound (omega (arith, step)) in
        record { exponent = suc w.exponent; below = omega arith; is = omega arith }

    odd : 0 < n % 2 → Power (suc b) n
    odd o =
        let half : n / 2 ≡ 0 = no_digit b (n / 2) bound (omega (arith, step)) in
        record { exponent = 0; below = omega arith; is = omega (arith, step) }

ones_pow : (e : ℕ) → ones (2 ^ e) ≡ 1
unfolding ones ones_in
ones_pow e = let one : 1 * 2 ^ e + 0 ≡ 2 ^ e = omega arith in sym (ap ones one) ∙ ones_cat e 1 0 (pow_pos e)

power_law : (n : ℕ) → n < 2 ^ 64 → eqb (ones n) 1 ≡ power_of_two n
power_law n h =
    same_test (eqb (ones n) 1) (power_of_two n)
    (λ p. let w : Power 64 n = one_digit 64 n h (eqb-true (ones n) 1 p) in
    some_any 64 (λ k. eqb n (2 ^ k)) w.exponent w.below (eq-eqb n (2 ^ w.exponent) w.is))
    (λ q. let w : Witness 64 (λ k. eqb n (2 ^ k)) = any_some 64 (λ k. eqb n (2 ^ k)) q in
    eq-eqb (ones n) 1 (ap ones (eqb-true n (2 ^ w.which) w.passes) ∙ ones_pow w.which))

-- trailing zeros

trailing_pow : (k j : ℕ) → j < k → count_trailing_zeros k (2 ^ j) ≡ j
unfolding count_trailing_zeros
trailing_pow zero j h = absurd (not-suc-le-zero h)
trailing_pow (suc k) zero h = refl
trailing_pow (suc k) (suc j) h =
    let low : 2 ^ suc j % 2 ≡ 0 = omega arith in
    let high : 2 ^ suc j / 2 ≡ 2 ^ j = omega arith in
    ap₂ (λ (d n : ℕ). under d (count_trailing_zeros k n)) low high ∙ ap suc (trailing_pow k j (omega arith))

-- one digit off a number and one off a power of two
mod_step : (n j : ℕ) → n % 2 ^ suc j ≡ n / 2 % 2 ^ j * 2 + n % 2
mod_step n j = sym (ap (λ (e : ℕ). n % 2 ^ e) (add-one j)) ∙ mod-pow-add n j 1

divides : (k n j : ℕ) → j ≤ count_trailing_zeros k n → n % 2 ^ j ≡ 0
unfolding count_trailing_zeros
divides k n zero h = mod-one n
divides zero n (suc j) h = absurd (not-suc-le-zero h)
divides (suc k) n (suc j) h = go (n % 2) refl h (divides k (n / 2) j)
  where
    go : (d : ℕ) → n % 2 ≡ d → suc j ≤ under d (count_trailing_zeros k (n / 2))
        → (j ≤ count_trailing_zeros k (n / 2) → n / 2 % 2 ^ j ≡ 0) → n % 2 ^ suc j ≡ 0
    go zero e l ih = omega (arith, mod_step n j, ih (omega arith))
    go (suc d) e l ih = absurd (not-suc-le-zero l)

divided : (k n j : ℕ) → j ≤ k → n % 2 ^ j ≡ 0 → j ≤ count_trailing_zeros k n
unfolding count_trailing_zeros
divided k n zero l h = zero-le
divided zero n (suc j) l h = absurd (not-suc-le-zero l)
divided (suc k) n (suc j) l h = go (n % 2) refl (divided k (n / 2) j (omega arith))
  where
    step : n % 2 ^ suc j ≡ n / 2 % 2 ^ j * 2 + n % 2
    step = mod_step n j

    go : (d : ℕ) → n % 2 ≡ d → (n / 2 % 2 ^ j ≡ 0 → j ≤ count_trailing_zeros k (n / 2)) → suc j ≤ under d (count_trailing_zeros k (n / 2))
    go zero e ih = let m : j ≤ count_trailing_zeros k (n / 2) = ih (omega (arith, step)) in omega arith
    go (suc d) e ih = absurd (omega (arith, step))

-- a multiple of 2 ^ j has j trailing zeros or more
align_law : (j n : ℕ) → j < 64 → leb (count_trailing_zeros 64 (2 ^ j)) (count_trailing_zeros 64 n) ≡ eqb (n % 2 ^ j) 0
align_law j n h =
    ap (λ (t : ℕ). leb t (count_trailing_zeros 64 n)) (trailing_pow 64 j h)
    ∙ same_test (leb j (count_trailing_zeros 64 n)) (eqb (n % 2 ^ j) 0)
    (λ p. eq-eqb (n % 2 ^ j) 0 (divides 64 n j (leb-true j (count_trailing_zeros 64 n) p)))
    (λ q. le-leb j (count_trailing_zeros 64 n) (divided 64 n j (omega arith) (eqb-true (n % 2 ^ j) 0 q)))

-- the tests of the code, for a length that fits its type
pub sized_law : (n f : ℕ) → n < 2 ^ 64 → (eqb (ones n) 1 && leb 128 n && leb (count_trailing_zeros 64 n) (count_trailing_zeros 64 f)) ≡ sized n f
unfolding sized
sized_law n f h =
    ap (λ (p : Bool). p && leb 128 n && leb (count_trailing_zeros 64 n) (count_trailing_zeros 64 f)) (power_law n h)
    ∙ either (power_of_two n) (λ p. power (any_some 64 (λ k. eqb n (2 ^ k)) p)) (λ q. rw q)
  where
    power : Witness 64 (λ k. eqb n (2 ^ k))
        → (power_of_two n && leb 128 n && leb (count_trailing_zeros 64 n) (count_trailing_zeros 64 f))
        ≡ (power_of_two n && leb 128 n && leb n (2 ^ 63) && eqb (f % n) 0)
    power w = join (power_of_two n && leb 128 n) (le-leb n (2 ^ 63) bounded) aligned
      where
        is : n ≡ 2 ^ w.which
        is = eqb-true n (2 ^ w.which) w.passes

        bounded : n ≤ 2 ^ 63
        bounded = subst (λ (x : ℕ). x ≤ 2 ^ 63) (sym is) (pow_mono {i = w.which} {j = 63} (omega (arith, w.below)))

        aligned : leb (count_trailing_zeros 64 n) (count_trailing_zeros 64 f) ≡ eqb (f % n) 0
        aligned =
            subst (λ (x : ℕ). leb (count_trailing_zeros 64 x) (count_trailing_zeros 64 f) ≡ eqb (f % x) 0) (sym is) (align_law w.which f w.below)

        join : (a : Bool) {t x y : Bool} → t ≡ true → x ≡ y → (a && x) ≡ (a && t && y)
        join true e q = rw (e, q)
        join false e q = refl

-- .. where the first two decide
pub sized_then : (n f : ℕ) → n < 2 ^ 64 → (ones n ≡ 1) × (128 ≤ n) → leb (count_trailing_zeros 64 n) (count_trailing_zeros 64 f) ≡ sized n f
sized_then n f h p =
    sym (rw (eq-eqb (ones n) 1 p.0, le-leb 128 n p.1) refl) ∙ sized_law n f h

pub sized_else : (n f : ℕ) → n < 2 ^ 64 → ((ones n ≡ 1) × (n < 128)) ⊎ (ones n ≡ 1 → ⊥) → false ≡ sized n f
sized_else n f h p = ⊎_elim few short p
  where
    short : (ones n ≡ 1 → ⊥) → false ≡ sized n f
    short q = either (eqb (ones n) 1) (λ t. absurd (q (eqb-true (ones n) 1 t))) (λ t. sym (rw t refl) ∙ sized_law n f h)

    few : (ones n ≡ 1) × (n < 128) → false ≡ sized n f
    few q = sym (rw (eq-eqb (ones n) 1 q.0, lt-leb 128 n q.1) refl) ∙ sized_law n f h

-- a length of 2 ^ 64 is no power of two to 2 ^ 63
whole : (n f : ℕ) → n ≡ 2 ^ 64 → sized n f ≡ false
unfolding sized any_below
whole n f e = rw e

-- a range turned round, one of every address, and the rest
pub turned_span : (f l : ℕ) → (f ≤ l → ⊥) → false ≡ span_fine f l
unfolding span_fine
turned_span f l h = sym (rw (lt-leb f l (omega (arith, h))) refl)

pub whole_span : (f l : ℕ) → l - f ≡ 0xFFFF_FFFF_FFFF_FFFF → false ≡ span_fine f l
unfolding span_fine
whole_span f l e = sym (and_right_false (leb f l) (sized (l - f + 1) f) (whole (l - f + 1) f (omega arith)))

-- .. which is what a sum that does not fit says of two addresses
pub wide_span : (f l : ℕ) → l < 2 ^ 64 → (l - f + 1 < 2 ^ 64 → ⊥) → false ≡ span_fine f l
wide_span f l fits h = whole_span f l (omega (arith, h))

pub sized_span : (f l n : ℕ) → f ≤ l → n ≡ l - f + 1 → sized n f ≡ span_fine f l
unfolding span_fine
sized_span f l n h e = rw (e, le-leb f l h)

-- what `span_fine` comes to, at each of its returns
pub ruleset spans = (turned_span, wide_span, sized_span)
