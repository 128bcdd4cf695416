-- A big-endian number byte by byte, shifted in from the right.
use mathlib.Core.Path.{◌≡◌, refl, sym, ◌∙◌, ap₂}
use mathlib.Core.List.{List, [], ◌∷◌, ◌++◌}
use Prim.Native.Nat.{ℕ, zero, suc, ◌+◌, ◌-◌, ◌*◌, ◌%◌, ◌^◌, ◌≤◌, ◌<◌}
use native.Mathlib.Nat.{zero-add, pow-suc, pow-le-pow_right}
use native.Mathlib.Numerals.{add-one}
use native.Mathlib.Omega.{arith}
use lib.ListN.{length, take, drop}
use Rattle.std.specs.Int.Bits.{bit_or}
use Rattle.std.proofs.lemmas.Grind.{common_steps, or_after_shift}
use Rattle.std.proofs.lemmas.List.{get_or-take, get_or-drop}
use Rattle.rules.specs.Bytes.{byte, be}

-- What eight bytes or fewer come to; more would not fit 64 bits.
pub record Sum (bytes : List ℕ) (sum : ℕ) : Type 0 where
  pub says : length bytes ≤ 8 → (sum ≡ be (length bytes) bytes 0) × (sum < 256 ^ length bytes)

pub sum_none : Sum [] 0
unfolding be
sum_none = record { says = λ l. (refl, omega arith) }

-- the same bytes at two places give the same number
same_be : (n : ℕ) (b c : List ℕ) (i j : ℕ) → ((k : ℕ) → k < n → byte b (i + k) ≡ byte c (j + k)) → be n b i ≡ be n c j
unfolding be
same_be zero b c i j h = refl
same_be (suc n) b c i j h = ap₂ (λ (x y : ℕ). 256 * x + y) (same_be n b c i j (λ k l. h k (omega arith))) (h n (omega arith))

be_push : (ys : List ℕ) (x : ℕ) → be (length ys + 1) (ys ++ (x ∷ [])) 0 ≡ 256 * be (length ys) ys 0 + x
unfolding be
be_push ys x =
    rw add-one
    (ap₂ (λ (a b : ℕ). 256 * a + b)
    (same_be (length ys) (ys ++ (x ∷ [])) ys 0 0 (λ k l. grind (arith, common_steps)))
    (grind (arith, common_steps)))

pub sum_more : (ys : List ℕ) (a x b : ℕ) → Sum ys a → x < 256 → b ≡ bit_or (a * 256 % 2 ^ 64) x → Sum (ys ++ (x ∷ [])) b
sum_more ys a x b s l e = record { says = says }
  where
    long : length (ys ++ (x ∷ [])) ≡ length ys + 1
    long = grind (arith, common_steps)

    says : length (ys ++ (x ∷ [])) ≤ 8 → (b ≡ be (length (ys ++ (x ∷ []))) (ys ++ (x ∷ [])) 0) × (b < 256 ^ length (ys ++ (x ∷ [])))
    says few =
        let h = s.says (omega (arith, long)) in
        let m : 256 ^ length ys ≤ 256 ^ 7 = pow-le-pow_right (omega arith) {j = 7} (omega (arith, long)) in
        let p : a * 256 < 2 ^ 64 = omega (arith, h.1) in
        let v : b ≡ 256 * a + x = e ∙ or_after_shift a 256 (2 ^ 64) x refl l p ∙ omega arith in
        (v ∙ rw (long, h.0) (sym (be_push ys x)), rw (long, add-one, pow-suc) (omega (arith, h.1)))

pub sum_all : (s : List ℕ) (at n : ℕ) {r : ℕ} → n ≤ 8 → at + n ≤ length s → Sum (take (at + n - at) (drop at s)) r → r ≡ be n s at
sum_all s at n few l sum =
    let m : at + n - at ≡ n = omega arith in
    let long : length (take n (drop at s)) ≡ n = grind (arith, common_steps) in
    (rw m at sum.says (omega arith)).0 ∙ rw long (same_be n (take n (drop at s)) s 0 at same)
  where
    same : (k : ℕ) → k < n → byte (take n (drop at s)) (0 + k) ≡ byte s (at + k)
    same k l = rw zero-add (get_or-take n (drop at s) k 0 l ∙ get_or-drop at s k 0)
