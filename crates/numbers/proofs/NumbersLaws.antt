-- Numbers in what is left of a buffer, the bytes of a number, bytes filled up with zeros, and runs of zeros.
use mathlib.Core.Path.{◌≡◌, refl, sym, ◌∙◌, ap}
use mathlib.Core.Bool.{Bool, true, ◌&&◌}
use mathlib.Core.List.{List, [], ◌∷◌, ◌++◌}
use mathlib.Core.Logic.{⊎_elim}
use Prim.Native.Nat.{ℕ, zero, suc, ◌+◌, ◌-◌, ◌^◌, ◌≤◌, ◌<◌, min}
use native.Mathlib.Omega.{arith}
use lib.Dec.{eqb}
use lib.ListN.{length, set, length-set, take, drop}
use lib.Seq.{sets}
use Rattle.std.specs.Int.{w64, to_le_bytes}
use Rattle.std.proofs.Math.Nat.{div-div-eq-div-mul}
use Rattle.std.proofs.lemmas.Bool.{cases_lt}
use Rattle.std.proofs.lemmas.List.{take_rest, length-take-le, length-drop, length_push}
use Rattle.std.proofs.lemmas.List.{get_or-take, get_or-drop, get_or_append_left, get_or_past, get_or_push}
use Rattle.rules.specs.Below.{all_below}
use Rattle.rules.specs.Bytes.{byte, le, le_bytes, bytes_from, laid}
use Rattle.rules.specs.Records.{zeros}
use Rattle.rules.proofs.Loops.{all_none, all_turn}

-- a number reads the same in what is left of a buffer
le_rest : (s : List ℕ) (at w i : ℕ) → le w (drop at s) i ≡ le w s (at + i)
le_rest s at zero i = refl
le_rest s at (suc w) i = let e : at + (i + 1) ≡ at + i + 1 = omega arith in rw (get_or-drop at s i 0, le_rest s at w (i + 1), e)

pub le_from : (s : List ℕ) (at w : ℕ) → le w (take (length s - at) (drop at s)) 0 ≡ le w s at
le_from s at w = let z : at + 0 ≡ at = omega arith in ap (λ (l : List ℕ). le w l 0) (take_rest s at) ∙ le_rest s at w 0 ∙ rw z

-- std's bytes of a number are those of the documents
pub eight_bytes : (x : ℕ) → to_le_bytes w64 x ≡ le_bytes 8 x
unfolding le_bytes
eight_bytes x = simp div-div-eq-div-mul

-- one byte is laid
one_laid : (b : List ℕ) (at k v : ℕ) (l : List ℕ) → sets b (at + k) (v ∷ l) ≡ sets (set b (at + k) v) (at + (k + 1)) l
one_laid b at k v l = let e : at + (k + 1) ≡ suc (at + k) = omega arith in rw e

-- The first k of n bytes of s are copied, and the rest is owed.
pub record Copied (b₀ : List ℕ) (at n : ℕ) (s : List ℕ) (from : ℕ) (b : List ℕ) (k : ℕ) : Type 0 where
  pub upto : k ≤ n
  pub size : length b ≡ length b₀
  pub owes : laid b (at + k) (bytes_from (n - k) s (from + k)) ≡ laid b₀ at (bytes_from n s from)

pub copy_begin : (b₀ : List ℕ) (at n : ℕ) (s : List ℕ) (from : ℕ) → Copied b₀ at n s from b₀ 0
copy_begin b₀ at n s from =
    let e : at + 0 ≡ at = omega arith in
    let f : from + 0 ≡ from = omega arith in
    let g : n - 0 ≡ n = omega arith in record { upto = omega arith; size = refl; owes = rw (e, f, g) }

module _ {b₀ b s : List ℕ} {at n from k : ℕ} (c : Copied b₀ at n s from b k) where
  pub copy_turn : {v : ℕ} → k < n → v ≡ byte s (from + k) → Copied b₀ at n s from (set b (at + k) v) (k + 1)
  unfolding laid bytes_from
  copy_turn l e =
      let m : n - k ≡ suc (n - (k + 1)) = omega arith in
      let f : from + (k + 1) ≡ from + k + 1 = omega arith in
      record {
        upto = omega arith;
        size = length-set b (at + k) _ ∙ c.size;
        owes = rw (e, f) (sym (one_laid b at k (byte s (from + k)) (bytes_from (n - (k + 1)) s (from + k + 1)))
            ∙ ap (λ (j : ℕ). sets b (at + k) (bytes_from j s (from + k))) (sym m) ∙ c.owes);
      }

  pub copy_end : n ≤ k → b ≡ laid b₀ at (bytes_from n s from)
  unfolding laid bytes_from
  copy_end l = let e : 0 ≡ n - k = omega arith in ap (λ (j : ℕ). sets b (at + k) (bytes_from j s (from + k))) e ∙ c.owes

-- a byte at a place that fits no number is past the end, at the largest number too
pub byte_past : (s : List ℕ) (i : ℕ) {m : ℕ} → m ≡ min i (2 ^ 64 - 1) → length s < 2 ^ 64 → byte s m ≡ byte s i
byte_past s i {m} e l =
    ⊎_elim
    (λ h. let f : m ≡ i = omega arith in rw f)
    (λ h. get_or_past s m 0 (omega arith) ∙ sym (get_or_past s i 0 (omega arith)))
    (cases_lt i (2 ^ 64 - 1))

-- one test for another
all_same : (f g : ℕ → Bool) (n : ℕ) → ((j : ℕ) → j < n → f j ≡ g j) → all_below n f ≡ all_below n g
unfolding all_below
all_same f g zero h = refl
all_same f g (suc n) h = rw (all_same f g n (λ j l. h j (omega arith)), h n (omega arith))

-- all of these bytes are zero: of none, of one more, and of a part
abbrev pub blank : List ℕ → Bool
blank ys = all_below (length ys) (λ k. eqb (byte ys k) 0)

pub blank_none : true ≡ blank []
blank_none = sym (all_none (λ k. eqb (byte [] k) 0))

pub blank_more : (ys : List ℕ) (y : ℕ) {a b : Bool} → a ≡ blank ys → b ≡ (a && eqb y 0) → b ≡ blank (ys ++ y ∷ [])
blank_more ys y {a} {b} p e =
    e ∙ rw (length_push ys y) (all_turn longer (length ys) (p ∙ all_same (λ k. eqb (byte ys k) 0) longer (length ys) before) last)
  where
    longer : ℕ → Bool
    longer k = eqb (byte (ys ++ y ∷ []) k) 0

    before : (j : ℕ) → j < length ys → eqb (byte ys j) 0 ≡ longer j
    before j l = ap (λ (x : ℕ). eqb x 0) (sym (get_or_append_left ys (y ∷ []) 0 j l))

    last : eqb y 0 ≡ longer (length ys)
    last = ap (λ (x : ℕ). eqb x 0) (sym (get_or_push ys y 0 (length ys) refl))

pub blank_part : (s : List ℕ) (at n : ℕ) → at + n ≤ length s → blank (take (at + n - at) (drop at s)) ≡ zeros s at n
blank_part s at n room = rw size (all_same (λ k. eqb (byte part k) 0) (λ k. eqb (byte s (at + k)) 0) n item)
  where
    part : List ℕ
    part = take (at + n - at) (drop at s)

    size : length (take (at + n - at) (drop at s)) ≡ n
    size = length-take-le (at + n - at) (drop at s) (simp length-drop (omega arith)) ∙ omega arith

    item : (k : ℕ) → k < n → eqb (byte part k) 0 ≡ eqb (byte s (at + k)) 0
    item k l = ap (λ (x : ℕ). eqb x 0) (get_or-take (at + n - at) (drop at s) k 0 (omega arith) ∙ get_or-drop at s k 0)
