-- What is put at a place of a buffer.
use mathlib.Core.Path.{◌≡◌, refl, sym, ◌∙◌, ap, subst}
use mathlib.Core.List.{List}
use Prim.Native.Nat.{ℕ, ◌+◌, ◌-◌, ◌≤◌, min}
use native.Mathlib.Omega.{arith}
use lib.ListN.{length, take}
use lib.Seq.{take_all, length-take-le}
use borrow.Rule.Slice.PartMut.{put_mid}
use Rattle.rules.specs.Bytes.{laid}
use Rattle.numbers.proofs.Laid.{put_laid, length_laid}
use Rattle.text.specs.Put.{Put}

-- nothing, past the end
pub put_past : (b w : List ℕ) (at : ℕ) → (at ≤ length b → ⊥) → Put (length w) b at w at b
put_past b w at h =
    record {
      kept = refl;
      short = omega arith;
      moves = λ l. absurd (h (omega (arith, l)));
      bytes = λ l. absurd (h (omega (arith, l)));
    }

-- as many of the bytes of w as there is room for
pub put_word : (b w y : List ℕ) (at n m : ℕ) → at ≤ length b → n ≡ min (length w) (length b - at) → m ≡ n → y ≡ take n w
    → Put (length w) b at w (at + n) (put_mid at m b y)
put_word b w y at n m room e s t =
    let size : length y ≡ n = ap length t ∙ length-take-le n w (omega (arith, e)) in
    let put : put_mid at m b y ≡ laid b at y = put_laid b at m y (s ∙ sym size) (omega (arith, e, size)) in
    record {
      kept = ap length put ∙ length_laid b at y (omega (arith, e, size));
      short = omega arith;
      moves = λ l. omega (arith, e, l);
      bytes = λ l. put ∙ ap (laid b at) (t ∙ take_all n w (omega (arith, e, l)));
    }

-- where the text is no longer than that
pub tight : {m n : ℕ} {b : List ℕ} {at : ℕ} {x : List ℕ} {next : ℕ} {after : List ℕ}
    → length x ≤ m → Put n b at x next after → Put m b at x next after
tight l p = record { kept = p.kept; short = l; moves = p.moves; bytes = p.bytes }

-- the same text by another name
pub named : {m : ℕ} {b : List ℕ} {at : ℕ} {x y : List ℕ} {next : ℕ} {after : List ℕ}
    → x ≡ y → Put m b at x next after → Put m b at y next after
named {m} {b} {at} {x} {y} {next} {after} e p = subst (λ (z : List ℕ). Put m b at z next after) e p
