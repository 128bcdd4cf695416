-- Texts put one after the other are their joined text put at once.
use mathlib.Core.Path.{◌≡◌, refl, ◌∙◌, ap}
use mathlib.Core.List.{List, [], ◌∷◌, ◌++◌, append_assoc, append-nil}
use Prim.Native.Nat.{ℕ, zero, suc, ◌+◌, ◌-◌, ◌≤◌, min}
use native.Mathlib.Omega.{arith}
use lib.ListN.{length, take, length-append, length-take}
use lib.Seq.{take_all}
use Rattle.text.specs.Room.{put, room}

take_none : (n : ℕ) → take {A = ℕ} n [] ≡ []
take_none zero = refl
take_none (suc n) = refl

take_append : (n : ℕ) (x y : List ℕ) → take n (x ++ y) ≡ take n x ++ take (n - length x) y
take_append n [] y = let e : n - 0 ≡ n = omega arith in rw (e, take_none n) refl
take_append zero (a ∷ x) y = let e : 0 - suc (length x) ≡ 0 = omega arith in rw e refl
take_append (suc n) (a ∷ x) y =
    let e : suc n - suc (length x) ≡ n - length x = omega arith in rw e (ap (λ (l : List ℕ). a ∷ l) (take_append n x y))

take_least : (n : ℕ) (x : List ℕ) → take (min (length x) n) x ≡ take n x
take_least zero x = let e : min (length x) 0 ≡ 0 = omega arith in rw e refl
take_least (suc n) [] = let e : min 0 (suc n) ≡ 0 = omega arith in rw e refl
take_least (suc n) (a ∷ x) =
    let e : min (suc (length x)) (suc n) ≡ suc (min (length x) n) = omega arith in rw e (ap (λ (l : List ℕ). a ∷ l) (take_least n x))

pub put_none : (t : List ℕ) → put t [] ≡ t
unfolding put
put_none t = rw take_none (append-nil t)

-- a text with room for it has all of x
pub put_whole : (t x : List ℕ) → length t + length x ≤ room → put t x ≡ t ++ x
unfolding put
put_whole t x l = ap (λ (y : List ℕ). t ++ y) (take_all (room - length t) x (omega arith))

-- a full text stays as it is
pub put_full : (t x : List ℕ) → length t ≡ room → put t x ≡ t
unfolding put
put_full t x l = let e : room - length t ≡ 0 = omega arith in rw e (append-nil t)

-- as many of the bytes of x as there is room for
pub put_fitting : (t x : List ℕ) {n : ℕ} → n ≡ min (length x) (room - length t) → put t x ≡ t ++ take n x
unfolding put
put_fitting t x e = rw (e, take_least) refl

-- one text, and then another
pub put_both : (t x y : List ℕ) → put (put t x) y ≡ put t (x ++ y)
unfolding put
put_both t x y =
    let n = room - length t in
    let left : room - length (t ++ take n x) ≡ n - length x = simp (length-append, length-take) (omega arith) in
    rw (left, take_append n x y) (append_assoc t (take n x) (take (n - length x) y))

pub then : (t x y : List ℕ) {mid new : List ℕ} → mid ≡ put t x → new ≡ put mid y → new ≡ put t (x ++ y)
then t x y p q = q ∙ rw p (put_both t x y)
