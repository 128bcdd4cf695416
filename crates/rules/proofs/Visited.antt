-- The walk of the extended capabilities has steps enough: an image has 960 offsets, and no walk visits more. With more steps it comes
-- to the same, so that "already visited" alone ends a walk that would go round.
use mathlib.Core.Path.{◌≡◌, refl, ◌∙◌, ap}
use mathlib.Core.Bool.{true, false, cond}
use mathlib.Core.List.{List, [], ◌∷◌}
use Prim.Native.Nat.{ℕ, zero, suc, ◌+◌, ◌*◌, ◌%◌, ◌≤◌, ◌<◌}
use native.Mathlib.Omega.{arith}
use lib.Dec.{eqb, leb}
use lib.ListN.{length}
use borrow.Author.Tests.{eqb-true, eqb-false, leb-true, leb-false}
use Rattle.rules.specs.Properties.{AreBytes}
use Rattle.rules.specs.Image.{image_size, next_offset, is_acs, list_start, is_offset, is_among, follow, enough_steps, acs_structure}
use Rattle.rules.proofs.Logic.{either, both, or_false}

-- multiples of 4 from 100h on, below a bound, none of them twice
abbrev Apart : ℕ → List ℕ → Type 0
Apart bound [] = Unit {0}
Apart bound (x ∷ l) = (is_offset x ≡ true) × ((x < bound) × ((is_among x l ≡ false) × Apart bound l))

-- a list without an offset
without : ℕ → List ℕ → List ℕ
without x [] = []
without x (y ∷ l) = cond (eqb x y) (without x l) (y ∷ without x l)

still_not : (z x : ℕ) (l : List ℕ) → is_among z l ≡ false → is_among z (without x l) ≡ false
unfolding is_among without
still_not z x [] h = h
still_not z x (y ∷ l) h =
    let p = or_false (eqb z y) (is_among z l) h in
    either (eqb x y) (λ e. rw e (still_not z x l p.1)) (λ e. rw (e, p.0) (still_not z x l p.1))

not_there : (x : ℕ) (l : List ℕ) → is_among x l ≡ false → without x l ≡ l
unfolding is_among without
not_there x [] h = refl
not_there x (y ∷ l) h =
    let p = or_false (eqb x y) (is_among x l) h in rw p.0 (ap (λ (m : List ℕ). y ∷ m) (not_there x l p.1))

-- at most one is taken out
one_less : (bound x : ℕ) (l : List ℕ) → Apart bound l → length l ≤ suc (length (without x l))
unfolding without
one_less bound x [] h = omega arith
one_less bound x (y ∷ l) (v, (b, (n, h))) =
    either (eqb x y)
    (λ e.
    let m : without y l ≡ l = not_there y l n in
    let f : x ≡ y = eqb-true x y e in
    let k : length (without x l) ≡ length l = ap (λ (z : ℕ). length (without z l)) f ∙ ap length m in rw e (omega arith))
    (λ e. rw e (let k = one_less bound x l h in omega arith))

-- the highest offset taken out
lower : (k : ℕ) (l : List ℕ) → Apart (list_start + 4 * suc k) l → Apart (list_start + 4 * k) (without (list_start + 4 * k) l)
unfolding without
lower k [] h = tt
lower k (y ∷ l) (v, (b, (n, h))) =
    either (eqb (list_start + 4 * k) y) (λ e. rw e (lower k l h))
    (λ e.
    rw e (
      v,
      (
        let f : y % 4 ≡ 0 = eqb-true (y % 4) 0 (both (leb list_start y) (eqb (y % 4) 0) v).1 in
            below y f b (eqb-false (list_start + 4 * k) y e),
        (still_not y (list_start + 4 * k) l n, lower k l h),
      ),
    ))
  where
    below : (z : ℕ) → z % 4 ≡ 0 → z < list_start + 4 * suc k → (list_start + 4 * k ≡ z → ⊥) → z < list_start + 4 * k
    below z f l ne =
        either (leb (list_start + 4 * k) z)
        (λ p. absurd (ne (let q = leb-true (list_start + 4 * k) z p in omega arith)))
        (λ p. leb-false (list_start + 4 * k) z p)

-- so there are no more than the bound leaves room for
few : (k : ℕ) (l : List ℕ) → Apart (list_start + 4 * k) l → length l ≤ k
few zero [] h = omega arith
few zero (y ∷ l) (v, (b, h)) =
    let p : list_start ≤ y = leb-true list_start y (both (leb list_start y) (eqb (y % 4) 0) v).0 in absurd (omega arith)
few (suc k) l h =
    let m = few k (without (list_start + 4 * k) l) (lower k l h) in
    let n = one_less (list_start + 4 * suc k) (list_start + 4 * k) l h in omega arith

module _ (image : List ℕ) (are : AreBytes image) where
  next_below : (at : ℕ) → next_offset image at < image_size
  next_below at = let a = are (at + 2) in let b = are (at + 2 + 1) in omega arith

  more_steps : (n steps : ℕ) (visited : List ℕ) (at : ℕ) → Apart image_size visited → at < image_size → enough_steps ≤ steps + length visited
      → follow image (steps + n) visited at ≡ follow image steps visited at
  unfolding follow
  more_steps n zero visited at h b l = absurd (let m = few 960 visited h in omega arith)
  more_steps n (suc steps) visited at h b l =
      let e : suc steps + n ≡ suc (steps + n) = omega arith in
      rw e
      (either (eqb at 0) (λ p. rw p) (λ some.
      either (is_offset at) (λ fine.
      either (is_among at visited) (λ p. rw (some, fine, p)) (λ new.
      either (is_acs image at) (λ p. rw (some, fine, new, p)) (λ other.
      rw (some, fine, new, other)
      (more_steps n steps (at ∷ visited) (next_offset image at) (fine, (b, (new, h))) (next_below at) (omega arith)))))
      (λ q. rw (some, q))))

  pub enough_steps_lem : (n : ℕ) → follow image (enough_steps + n) [] list_start ≡ acs_structure image
  unfolding acs_structure
  enough_steps_lem n = more_steps n enough_steps [] list_start tt (omega arith) (omega arith)
