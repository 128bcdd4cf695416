-- A closed range overlaps none, and of a bridge no range but the two windows is open.
use mathlib.Core.Path.{◌≡◌, sym, ◌∙◌, ap₂}
use mathlib.Core.Bool.{Bool, true, false, not}
use mathlib.Core.List.{List}
use Prim.Native.Nat.{ℕ, ◌≤◌, ◌<◌}
use native.Mathlib.Omega.{arith}
use borrow.Author.Tests.{le-ltb}
use Rattle.rules.specs.Below.{any_below}
use Rattle.rules.specs.Snapshot.{kind, first, last, closed, is_open, is_bridge}
use Rattle.rules.specs.Records.{range_fine, ranges_fine, overlap, ranges_meet}
use Rattle.rules.proofs.Logic.{contradiction, either, and_left_false, and_right_false}
use Rattle.rules.proofs.Loops.{any_cut, any_same, any_miss, all_at}

-- a closed range overlaps none
closed_none : (s : List ℕ) (i k j n : ℕ) → is_open s i k ≡ false → any_below n (overlap s i k j) ≡ false
unfolding overlap
closed_none s i k j n e = any_miss (overlap s i k j) n (λ m l. and_left_false (is_open s i k) _ e)

pub closed_overlaps_none : (s : List ℕ) (i k j n : ℕ) {f l : ℕ} {o : Bool} → f ≡ first s i k → l ≡ last s i k → o ≡ not (closed f l) → o ≡ false
    → o ≡ any_below n (overlap s i k j)
closed_overlaps_none s i k j n ef el eo off = off ∙ sym (closed_none s i k j n (ap₂ (λ x y. not (closed x y)) (sym ef) (sym el) ∙ sym eo ∙ off))

-- Of a bridge whose ranges are fine ranges 2 to 5 are closed,
module _ (s : List ℕ) (i : ℕ) (fine : ranges_fine s i ≡ true) (bridge : is_bridge (kind s i) ≡ true) where
  window_closed : (k : ℕ) → 2 ≤ k → k < 6 → is_open s i k ≡ false
  unfolding ranges_fine range_fine
  window_closed k a b =
      either (is_open s i k) (λ o. contradiction (all_at 6 (range_fine s i) fine k b) (shut o)) (λ q. q)
    where
      shut : is_open s i k ≡ true → range_fine s i k ≡ false
      shut o = either (closed (first s i k) (last s i k)) (λ p. contradiction o (rw p)) (λ q. rw (q, bridge, le-ltb k 2 a))

-- so that of two bridges the windows decide.
module _ (s : List ℕ) (i j : ℕ) where
  pub windows_decide : ranges_fine s i ≡ true → ranges_fine s j ≡ true → is_bridge (kind s i) ≡ true → is_bridge (kind s j) ≡ true
      → any_below 2 (λ k. any_below 2 (overlap s i k j)) ≡ ranges_meet s i j
  unfolding ranges_meet overlap
  windows_decide fi fj bi bj =
      sym
      (any_cut (λ k. any_below 6 (overlap s i k j)) 2 6 (omega arith) (λ k a b. closed_none s i k j 6 (window_closed s i fi bi k a b))
      ∙ any_same (λ k. any_below 6 (overlap s i k j)) (λ k. any_below 2 (overlap s i k j)) 2
      (λ k l. any_cut (overlap s i k j) 2 6 (omega arith) (λ m a b. other k m (window_closed s j fj bj m a b))))
    where
      other : (k m : ℕ) → is_open s j m ≡ false → overlap s i k j m ≡ false
      other k m e = and_right_false (is_open s i k) _ (and_left_false (is_open s j m) _ e)
