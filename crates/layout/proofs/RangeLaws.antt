-- A closed range has no address between its ends, so that the ends alone decide.
use mathlib.Core.Path.{◌≡◌, ◌∙◌, ap₂}
use mathlib.Core.List.{List}
use mathlib.Core.Bool.{true, ◌&&◌, not}
use Prim.Native.Nat.{ℕ}
use native.Mathlib.Omega.{arith}
use lib.Dec.{eqb, leb}
use borrow.Author.Tests.{eqb-true, leb-true}
use Rattle.rules.specs.Snapshot.{first, last, closed}
use Rattle.rules.specs.Fabric.{in_range}
use Rattle.rules.proofs.Logic.{both, and_both, either, same_test}

pub ends_decide : (f l a : ℕ) → (leb f a && leb a l) ≡ (not (closed f l) && (leb f a && leb a l))
ends_decide f l a =
    same_test (leb f a && leb a l) (not (closed f l) && (leb f a && leb a l))
    (λ h. and_both {a = not (closed f l)} (opened (both (leb f a) (leb a l) h)) h)
    (λ h. (both (not (closed f l)) (leb f a && leb a l) h).1)
  where
    opened : (leb f a ≡ true) × (leb a l ≡ true) → not (closed f l) ≡ true
    opened h = either (closed f l) (λ p. absurd (empty (both (eqb f 1) (eqb l 0) p))) (λ q. rw q)
      where
        empty : (eqb f 1 ≡ true) × (eqb l 0 ≡ true) → ⊥
        empty p = omega (arith, eqb-true f 1 p.0, eqb-true l 0 p.1, leb-true f a h.0, leb-true a l h.1)

pub in_range_lem : (s : List ℕ) (i a k : ℕ) {f l : ℕ} → f ≡ first s i k → l ≡ last s i k → (leb f a && leb a l) ≡ in_range s i a k
unfolding in_range
in_range_lem s i a k p q = ap₂ (λ (f l : ℕ). leb f a && leb a l) p q ∙ ends_decide (first s i k) (last s i k) a
