-- The hops of a hop buffer as text: one more, how long they are, and those that the bytes of hops give.
use mathlib.Core.Path.{◌≡◌, refl}
use mathlib.Core.List.{List, [], ◌∷◌, ◌++◌}
use Prim.Native.Nat.{ℕ, ◌+◌, ◌*◌, ◌/◌, ◌%◌, ◌≤◌, ◌<◌}
use native.Mathlib.Omega.{arith}
use lib.ListN.{length, length-append}
use lib.Seq.{get_or-append-add}
use Rattle.rules.specs.Bytes.{byte, le}
use Rattle.rules.specs.Route.{Hop, hop, hop_bytes}
use Rattle.text.specs.Text.{number, hop_text, hops_text, hops_in}
use Rattle.text.specs.Room.{put}
use Rattle.text.proofs.Decimals.{number_short, named_twice_short}
use Rattle.text.proofs.Putting.{put_none, put_both}

-- the first hop, and then the rest
first_hop : (h rest : List ℕ) → length h ≡ 4 → hops_in (h ++ rest) ≡ hop_text (hop (le 2 h 0) (byte h 2)) ++ hops_in rest
unfolding hops_in
first_hop [] rest l = absurd (omega arith)
first_hop (a ∷ []) rest l = absurd (omega arith)
first_hop (a ∷ b ∷ []) rest l = absurd (omega arith)
first_hop (a ∷ b ∷ c ∷ []) rest l = absurd (omega arith)
first_hop (a ∷ b ∷ c ∷ d ∷ []) rest l = let e : b + 256 * 0 ≡ b = omega arith in rw e refl
first_hop (a ∷ b ∷ c ∷ d ∷ f ∷ h) rest l = absurd (omega arith)

no_hop : (rest : List ℕ) → length rest < 4 → hops_in rest ≡ []
unfolding hops_in
no_hop [] l = refl
no_hop (a ∷ []) l = refl
no_hop (a ∷ b ∷ []) l = refl
no_hop (a ∷ b ∷ c ∷ []) l = refl
no_hop (a ∷ b ∷ c ∷ d ∷ rest) l = absurd (omega arith)

-- the loop puts the first hop, and leaves the rest
pub hop_put : (t h rest left : List ℕ) {i : ℕ} {new : List ℕ} → left ≡ h ++ rest → length h ≡ 4 → i ≡ le 2 h 0
    → new ≡ put t (hop_text (hop i (byte h 2))) → put new (hops_in rest) ≡ put t (hops_in left)
hop_put t h rest left e l f p =
    rw (p, f, e, first_hop h rest l) (put_both t (hop_text (hop (le 2 h 0) (byte h 2))) (hops_in rest))

pub hops_put : (t rest : List ℕ) → length rest < 4 → put t (hops_in rest) ≡ t
hops_put t rest l = rw (no_hop rest l) (put_none t)

pub hop_short : (i a : ℕ) → length (number i) ≤ 5 → length (number a) ≤ 5 → length (hop_text (hop i a)) ≤ 12
unfolding hop_text
hop_short i a l r = named_twice_short (32 ∷ []) (58 ∷ []) i a l r

-- twelve bytes at most for four
pub hops_short : (b : List ℕ) → ((i : ℕ) → byte b i < 256) → length (hops_in b) ≤ 3 * length b
unfolding hops_in
hops_short [] f = omega arith
hops_short (x ∷ []) f = omega arith
hops_short (x ∷ y ∷ []) f = omega arith
hops_short (x ∷ y ∷ z ∷ []) f = omega arith
hops_short (x ∷ y ∷ z ∷ w ∷ b) f =
    let low = f 0 in
    let high = f 1 in
    let action = f 2 in
    let h = hop_short (x + 256 * y) z (number_short (x + 256 * y) (omega arith)) (number_short z (omega arith)) in
    let rest = hops_short b (λ i. rw (← get_or-append-add (x ∷ y ∷ z ∷ w ∷ []) b i 0) (f (4 + i))) in
    rw (length-append (hop_text (hop (x + 256 * y) z)) (hops_in b)) (omega arith)

pub hops_told : (hs : List Hop) → hops_in (hop_bytes hs) ≡ hops_text hs
unfolding hops_in hops_text
hops_told [] = refl
hops_told (h ∷ hs) = let e : h.index % 256 + 256 * (h.index / 256) ≡ h.index = omega arith in rw (e, hops_told hs) refl

-- four bytes a hop
pub length_hop_bytes : (hs : List Hop) → length (hop_bytes hs) ≡ 4 * length hs
length_hop_bytes [] = refl
length_hop_bytes (h ∷ hs) = let e = length_hop_bytes hs in omega arith
