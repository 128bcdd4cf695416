-- A test that `find` asks over a range may rest on its answers at the numbers before: J x is what these give, once the test comes to x.
use mathlib.Core.Path.{◌≡◌, refl, sym, ◌∙◌, ap, subst}
use mathlib.Core.List.{List, [], ◌∷◌}
use Prim.Native.Nat.{ℕ, ◌+◌, ◌<◌}
use native.Mathlib.Omega.{arith}
use Rattle.std.specs.Prelude.{Some}
use Rattle.std.specs.Iterator.{CallableAtEachTurn, Yields}
use Rattle.std.specs.List.{FoldsTo}
use Rattle.std.specs.declared.ops.Range.{Range}
use Rattle.std.proofs.iter.Yields.{nat_range_steps}

module _ {P : Type 0} (R : P → ℕ → P → Type 0) (Q : P → ℕ → Type 0) (J : ℕ → Type 0) {n : ℕ} {p : P}
    (keeps : (x : ℕ) (q : P) → x < n → J x → R p x q → (q ≡ p) × J (x + 1)) (asks : (x : ℕ) → x < n → J x → Q p x) where
  turns : (xs : List ℕ) (s t : Range ℕ) (q : P) (x : ℕ) (u : Range ℕ) → s.end ≡ n → J s.start → Yields nat_range_steps s xs t → FoldsTo R p xs q
      → nat_range_steps t (Some x) u → Q q x
  turns [] s t q x u e j y c m =
      let place : s.start ≡ x = ap (λ (k : Range ℕ). k.start) y ∙ sym m.1.1 in
      let stop : t.end ≡ n = ap (λ (k : Range ℕ). k.end) (sym y) ∙ e in
      subst (λ k. Q k x) c (asks x (omega (arith, m.1.0, m.1.1, stop)) (subst J place j))
  turns (z ∷ xs) s t q x u e j y c m =
      let place : s.start ≡ z = sym y.1.1.1 in
      let next : z + 1 ≡ y.0.start = omega (arith, y.1.1.1, y.1.1.2) in
      let kept = keeps z c.0 (omega (arith, y.1.1.0, y.1.1.1, e)) (subst J place j) c.1 in
      turns xs y.0 t q x u (y.1.0 ∙ e) (subst J next kept.1) y.2 (subst (λ k. FoldsTo R k xs q) kept.0 c.2) m

  pub callable_in_range : J 0 → CallableAtEachTurn nat_range_steps R Q (record { start = 0; end = n }) p
  callable_in_range j = record { at = λ xs t q x u y c m. turns xs (record { start = 0; end = n }) t q x u refl j y c m }
