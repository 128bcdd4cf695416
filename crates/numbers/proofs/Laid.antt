-- Bytes laid into a buffer: what the buffer then holds, stores as bytes laid in, and bytes laid in side by side.
use mathlib.Core.Path.{◌≡◌, refl, sym, ◌∙◌, ap}
use mathlib.Core.List.{List, [], ◌∷◌, ◌++◌, append_assoc, append-nil}
use Prim.Native.Nat.{ℕ, suc, ◌+◌, ◌-◌, ◌≤◌}
use native.Mathlib.Omega.{arith}
use lib.ListN.{length, take, drop, set, length-append, length-drop, drop_of_length-le}
use lib.Seq.{sets, sets-eq, take_all, drop-drop, take_at, drop_at, length-take-le}
use borrow.Rule.Slice.PartMut.{put_mid}
use Rattle.rules.specs.Bytes.{laid}

-- a buffer with x laid in is as long as before, has x after what stood before it, and the rest as it was
module _ (b : List ℕ) (at : ℕ) (x : List ℕ) (room : at + length x ≤ length b) where
  split : laid b at x ≡ (take at b ++ x) ++ drop (at + length x) b
  unfolding laid
  split = sets-eq x b at room

  pub laid_split : laid b at x ≡ take at b ++ (x ++ drop (at + length x) b)
  laid_split = split ∙ append_assoc (take at b) x (drop (at + length x) b)

  length_head : length (take at b ++ x) ≡ at + length x
  length_head = length-append (take at b) x ∙ ap (λ (n : ℕ). n + length x) (length-take-le at b (omega arith))

  pub length_laid : length (laid b at x) ≡ length b
  length_laid = ap length split ∙ simp (length-append, length-drop) (omega (arith, length-take-le at b (omega arith)))

  pub take_laid : take (at + length x) (laid b at x) ≡ take at b ++ x
  take_laid = rw split (take_at (take at b ++ x) (drop (at + length x) b) (at + length x) length_head)

  drop_head : drop (at + length x) (laid b at x) ≡ drop (at + length x) b
  drop_head = rw split (drop_at (take at b ++ x) (drop (at + length x) b) (at + length x) length_head)

  pub drop_laid : (m : ℕ) → drop (at + length x + m) (laid b at x) ≡ drop (at + length x + m) b
  drop_laid m = sym (drop-drop m (at + length x) (laid b at x)) ∙ ap (drop m) drop_head ∙ drop-drop m (at + length x) b

-- a part that is written anew
pub put_laid : (b : List ℕ) (at k : ℕ) (x : List ℕ) → k ≡ length x → at + length x ≤ length b → put_mid at k b x ≡ laid b at x
put_laid b at k x e room = rw (e, drop-drop (length x) at b) (sym (laid_split b at x room))

-- four stores at the start of a list that has room for them
four_sets : (l : List ℕ) (w x y z : ℕ) → 4 ≤ length l → set (set (set (set l 0 w) 1 x) 2 y) 3 z ≡ w ∷ x ∷ y ∷ z ∷ drop 4 l
four_sets [] w x y z h = absurd (omega arith)
four_sets (a ∷ []) w x y z h = absurd (omega arith)
four_sets (a ∷ b ∷ []) w x y z h = absurd (omega arith)
four_sets (a ∷ b ∷ c ∷ []) w x y z h = absurd (omega arith)
four_sets (a ∷ b ∷ c ∷ d ∷ l) w x y z h = refl

-- the part from `at` on comes back with its first four bytes stored
pub put_four : (b : List ℕ) (at w x y z : ℕ) → at + 4 ≤ length b
    → put_mid at (length b - at) b (set (set (set (set (take (length b - at) (drop at b)) 0 w) 1 x) 2 y) 3 z) ≡ laid b at (w ∷ x ∷ y ∷ z ∷ [])
put_four b at w x y z h =
    rw (
      take_all (length b - at) (drop at b) (simp length-drop (omega arith)),
      four_sets (drop at b) w x y z (simp length-drop (omega arith)),
      drop-drop 4 at b,
      drop_of_length-le (drop at b) {i = length b - at} (simp length-drop (omega arith)),
      append-nil (drop (at + 4) b),
    ) (sym (laid_split b at (w ∷ x ∷ y ∷ z ∷ []) h))

-- nothing laid in
pub laid_none : (b : List ℕ) (at : ℕ) → laid b at [] ≡ b
unfolding laid
laid_none b at = refl

-- one byte laid in is one store
pub laid_one : (b : List ℕ) (at x : ℕ) → set b at x ≡ laid b at (x ∷ [])
unfolding laid
laid_one b at x = refl

-- laid in side by side
pub laid_both : (x y b : List ℕ) (at : ℕ) → laid (laid b at x) (at + length x) y ≡ laid b at (x ++ y)
unfolding laid
laid_both [] y b at = let e : at + 0 ≡ at = omega arith in rw e
laid_both (v ∷ x) y b at =
    let e : at + suc (length x) ≡ suc at + length x = omega arith in
    ap (λ (n : ℕ). sets (sets (set b at v) (suc at) x) n y) e ∙ laid_both x y (set b at v) (suc at)
