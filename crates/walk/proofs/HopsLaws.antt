-- Hops laid into a buffer: one hop is its four bytes, and hops one after the other are theirs.
use mathlib.Core.Path.{◌≡◌, refl, sym, ◌∙◌}
use mathlib.Core.List.{List, [], ◌∷◌, ◌++◌, append_assoc}
use Prim.Native.Nat.{ℕ, suc, ◌+◌, ◌*◌, ◌/◌, ◌≤◌, ◌<◌}
use native.Mathlib.Omega.{arith}
use lib.Dec.{ltb}
use lib.ListN.{length, take, drop, take-append-drop}
use borrow.Author.Tests.{lt-ltb, le-ltb, ltb-true}
use Rattle.rules.proofs.Logic.{either}
use Rattle.rules.specs.Route.{Hop, hop_bytes}
use Rattle.rules.specs.Bytes.{laid}
use Rattle.numbers.proofs.Laid.{length_laid, take_laid, drop_laid}
use Rattle.walk.specs.Hops.{put_at, puts}

pub put_room : (b : List ℕ) (k : ℕ) (h : Hop) → k < length b / 4 → put_at b k h ≡ laid b (4 * k) (hop_bytes (h ∷ []))
unfolding put_at
put_room b k h l = rw (lt-ltb k (length b / 4) l)

pub put_none : (b : List ℕ) (k : ℕ) (h : Hop) → length b / 4 ≤ k → put_at b k h ≡ b
unfolding put_at
put_none b k h l = rw (le-ltb k (length b / 4) l)

-- one hop more before hops whose bytes are known
step : (b : List ℕ) (k n : ℕ) (x : Hop) (rest : List ℕ) → 4 * (k + suc n) ≤ length b
    → take (4 * (k + 1)) (put_at b k x) ++ (rest ++ drop (4 * (k + 1 + n)) (put_at b k x))
    ≡ take (4 * k) b ++ (hop_bytes (x ∷ []) ++ (rest ++ drop (4 * (k + suc n)) b))
step b k n x rest h =
    let e1 : 4 * (k + 1) ≡ 4 * k + 4 = omega arith in
    let e2 : 4 * (k + 1 + n) ≡ 4 * k + 4 + 4 * n = omega arith in
    let e3 : 4 * (k + suc n) ≡ 4 * k + 4 + 4 * n = omega arith in
    let r : 4 * k + 4 ≤ length b = omega arith in
    rw
    (put_room b k x (omega arith), e1, e2, e3, take_laid b (4 * k) (hop_bytes (x ∷ [])) r, drop_laid b (4 * k) (hop_bytes (x ∷ [])) r (4 * n))
    (append_assoc (take (4 * k) b) (hop_bytes (x ∷ [])) (rest ++ drop (4 * k + 4 + 4 * n) b))

pub length_put : (b : List ℕ) (k : ℕ) (x : Hop) → length (put_at b k x) ≡ length b
unfolding put_at
length_put b k x =
    either (ltb k (length b / 4))
    (λ p. let l : k < length b / 4 = ltb-true k (length b / 4) p in rw p (length_laid b (4 * k) (hop_bytes (x ∷ [])) (omega arith)))
    (λ q. rw q)

pub length_puts : (hs : List Hop) (b : List ℕ) (k : ℕ) → length (puts b k hs) ≡ length b
unfolding puts
length_puts [] b k = refl
length_puts (x ∷ hs) b k = length_puts hs (put_at b k x) (k + 1) ∙ length_put b k x

-- hops from number k on, where all have room, are their bytes from 4 * k on and nothing else
pub puts_room : (hs : List Hop) (b : List ℕ) (k : ℕ) → 4 * (k + length hs) ≤ length b
    → puts b k hs ≡ take (4 * k) b ++ (hop_bytes hs ++ drop (4 * (k + length hs)) b)
unfolding puts
puts_room [] b k h = let e : k + 0 ≡ k = omega arith in rw e (sym (take-append-drop (4 * k) b))
puts_room (x ∷ hs) b k h =
    puts_room hs (put_at b k x) (k + 1) (let e : length (put_at b k x) ≡ length b = length_put b k x in omega arith)
    ∙ step b k (length hs) x (hop_bytes hs) h
