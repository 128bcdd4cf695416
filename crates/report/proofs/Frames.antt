-- How an input is framed, from the tests of the code; and what the lengths of a whole input tell.
use mathlib.Core.Path.{◌≡◌, refl, sym, ◌∙◌, ap}
use mathlib.Core.Bool.{Bool, true, false, cond}
use mathlib.Core.List.{List}
use Prim.Native.Nat.{ℕ, ◌+◌, ◌-◌, ◌≤◌, ◌<◌}
use native.Mathlib.Omega.{arith}
use lib.Dec.{eqb}
use lib.ListN.{length}
use borrow.Author.Tests.{eq-eqb, ne_eqb, eqb-true, eqb-false}
use Rattle.std.specs.Prelude.{Option, None, Some}
use Rattle.std.specs.Bool.{then_some}
use Rattle.rules.specs.Bytes.{byte, le}
use Rattle.rules.proofs.Logic.{either}
use Rattle.report.specs.Framing.{whole, framed, snapshot_length, snapshot_end, header_start, header_length}

module _ (b : List ℕ) where
  broken : (length b ≡ header_start b + header_length b → ⊥) → None ≡ framed b
  unfolding framed whole
  broken ne = rw (ne_eqb (length b) (header_start b + header_length b) ne) refl

  pub framed_short : length b < 13 → None ≡ framed b
  framed_short l = broken (λ e. omega arith)

  module _ (n : ℕ) (hn : n ≡ le 2 b 0) where
    same_place : n + 12 ≡ snapshot_end b + 10
    same_place = omega arith

    same_byte : byte b (n + 12) ≡ header_length b
    same_byte = ap (byte b) same_place

    pub framed_cut : length b ≤ n + 12 → None ≡ framed b
    framed_cut l = broken (λ e. omega arith)

    whole_tested : n + 12 < length b → eqb (length b - (n + 12)) (byte b (n + 12) + 1) ≡ whole b
    unfolding whole
    whole_tested l =
        let s : byte b (n + 12) ≡ header_length b = same_byte in
        either (eqb (length b - (n + 12)) (byte b (n + 12) + 1))
        (λ p.
        let e = eqb-true (length b - (n + 12)) (byte b (n + 12) + 1) p in
        p ∙ sym (eq-eqb (length b) (header_start b + header_length b) (omega arith)))
        (λ q.
        let ne = eqb-false (length b - (n + 12)) (byte b (n + 12) + 1) q in
        q ∙ sym (ne_eqb (length b) (header_start b + header_length b) (λ e. ne (omega arith))))

    some_tested : (t : Bool) → then_some t n ≡ cond t (Some n) None
    some_tested true = refl
    some_tested false = refl

    pub framed_whole : n + 12 < length b → then_some (eqb (length b - (n + 12)) (byte b (n + 12) + 1)) n ≡ framed b
    unfolding framed
    framed_whole l =
        some_tested (eqb (length b - (n + 12)) (byte b (n + 12) + 1))
        ∙ rw (whole_tested l) (ap (λ (m : ℕ). cond (whole b) (Some m) None) hn)

-- what the code learns of a frame
frame_case : (t : Bool) (m n : ℕ) → cond t (Some m) None ≡ Some n → (t ≡ true) × (m ≡ n)
frame_case true m n e = (refl, (cc))
frame_case false m n e = let z : ◌≡◌ {A = ℕ} 0 1 = cc in absurd (omega arith)

module _ (b : List ℕ) (n : ℕ) {f : Option ℕ} (hf : f ≡ framed b) (g : f ≡ Some n) where
  pub framed_is_whole : whole b ≡ true
  unfolding framed
  framed_is_whole = (frame_case (whole b) (snapshot_length b) n (sym hf ∙ g)).0

  pub framed_length : length b ≡ header_start b + header_length b
  unfolding whole
  framed_length = eqb-true (length b) (header_start b + header_length b) framed_is_whole

  pub framed_snapshot : n ≡ snapshot_length b
  unfolding framed
  framed_snapshot = sym (frame_case (whole b) (snapshot_length b) n (sym hf ∙ g)).1

pub framed_broken : (b : List ℕ) {f : Option ℕ} → f ≡ framed b → f ≡ None → whole b ≡ false
unfolding framed
framed_broken b hf g = go (whole b) (snapshot_length b) (sym hf ∙ g)
  where
    go : (t : Bool) (m : ℕ) → cond t (Some m) None ≡ None → t ≡ false
    go true m e = let z : ◌≡◌ {A = ℕ} 0 1 = cc in absurd (omega arith)
    go false m e = refl
