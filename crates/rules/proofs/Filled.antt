-- A filled record: byte by byte, and that its windows keep the rule for windows.
use mathlib.Core.Path.{◌≡◌, refl, sym, ◌∙◌, ap}
use mathlib.Core.Bool.{true, ◌||◌, not}
use mathlib.Core.List.{List, [], ◌∷◌}
use Prim.Native.Nat.{ℕ, zero, suc, ◌+◌, ◌*◌, ◌/◌, ◌%◌, ◌^◌, ◌≤◌, ◌<◌}
use native.Mathlib.Omega.{arith}
use lib.Dec.{eqb, leb, ltb}
use lib.ListN.{length, set, length-set, get_or-append}
use lib.Seq.{length-sets, get_or-set_same, get_or-set_other, get_or-append-add}
use borrow.Author.Tests.{eqb-true, leb-true, leb-false, ltb-false, eq-eqb, le-leb, lt-ltb}
use Rattle.rules.specs.declared.Range.{Range}
use Rattle.rules.specs.Bytes.{byte, le, le_bytes, bytes_from, laid, within}
use Rattle.rules.specs.Snapshot.{base, kind, first, last, closed, is_bridge}
use Rattle.rules.specs.Records.{window_fine, range_fine}
use Rattle.rules.specs.Properties.{AreBytes}
use Rattle.rules.specs.Image.{primary_bus, secondary_bus, subordinate_bus, memory_window, prefetchable_window, acs_structure, part_of}
use Rattle.rules.specs.Image.{window, upper_half, base_address, limit_address}
use Rattle.rules.specs.Fill.{record_size, range_bytes, filled_fields, fill_all, filled, is_other, ByteByByte, Holds}
use Rattle.rules.proofs.Logic.{either, contradiction, or_right}

-- a byte before, among and behind the bytes laid in
laid_before : (x r : List ℕ) (from k : ℕ) → k < from → byte (laid r from x) k ≡ byte r k
unfolding laid
laid_before [] r from k l = refl
laid_before (v ∷ x) r from k l =
    laid_before x (set r from v) (suc from) k (omega arith) ∙ get_or-set_other r from k v 0 (λ e. absurd (omega arith))

laid_behind : (x r : List ℕ) (from k : ℕ) → from + length x ≤ k → byte (laid r from x) k ≡ byte r k
unfolding laid
laid_behind [] r from k l = refl
laid_behind (v ∷ x) r from k l =
    laid_behind x (set r from v) (suc from) k (omega arith) ∙ get_or-set_other r from k v 0 (λ e. absurd (omega arith))

laid_at : (x r : List ℕ) (from j : ℕ) → from + length x ≤ length r → j < length x → byte (laid r from x) (from + j) ≡ byte x j
unfolding laid
laid_at [] r from j room l = absurd (omega arith)
laid_at (v ∷ x) r from zero room l =
    let e : from + 0 ≡ from = omega arith in
    rw e (laid_before x (set r from v) (suc from) from (omega arith) ∙ get_or-set_same r from v 0 (omega arith))
laid_at (v ∷ x) r from (suc j) room l =
    let e : from + suc j ≡ suc from + j = omega arith in
    let n : length (set r from v) ≡ length r = length-set r from v in
    rw e (laid_at x (set r from v) (suc from) j (omega arith) (omega arith))

length_after : (x r : List ℕ) (from : ℕ) → length (laid r from x) ≡ length r
unfolding laid
length_after x r from = length-sets r from x

length_bytes : (n : ℕ) (b : List ℕ) (i : ℕ) → length (bytes_from n b i) ≡ n
unfolding bytes_from
length_bytes zero b i = refl
length_bytes (suc n) b i = ap suc (length_bytes n b (i + 1))

bytes_at : (n : ℕ) (b : List ℕ) (i k : ℕ) → k < n → byte (bytes_from n b i) k ≡ byte b (i + k)
unfolding bytes_from
bytes_at zero b i k l = absurd (omega arith)
bytes_at (suc n) b i zero l = let e : i + 0 ≡ i = omega arith in rw e
bytes_at (suc n) b i (suc k) l = let e : i + suc k ≡ i + 1 + k = omega arith in rw e (bytes_at n b (i + 1) k (omega arith))

laid_outside : (x r : List ℕ) (from k : ℕ) → (from ≤ k → k < from + length x → ⊥) → byte (laid r from x) k ≡ byte r k
laid_outside x r from k out =
    either (leb from k)
    (λ p. either (leb (from + length x) k)
    (λ q. laid_behind x r from k (leb-true (from + length x) k q))
    (λ q. absurd (out (leb-true from k p) (leb-false (from + length x) k q))))
    (λ q. laid_before x r from k (leb-false from k q))

length_digits : (n x : ℕ) → length (le_bytes n x) ≡ n
unfolding le_bytes
length_digits zero x = refl
length_digits (suc n) x = ap suc (length_digits n (x / 256))

length_range : (w : Range) → length (range_bytes w) ≡ 16
unfolding range_bytes le_bytes
length_range w = refl

-- what a byte that is filled in no field is not
record Other (k : ℕ) : Type 0 where
  not_own : k ≡ 4 → ⊥
  not_low : 6 ≤ k → k ≤ 11 → ⊥
  not_high : 16 ≤ k → k ≤ 79 → ⊥

other : (k : ℕ) → is_other k ≡ true → Other k
other k h =
    record {
      not_own = λ e. contradiction h (rw (eq-eqb k 4 e));
      not_low = λ a b. contradiction h (either (eqb k 4) (λ p. rw p) (λ p. rw (p, le-leb 6 k a, le-leb k 11 b)));
      not_high = λ a b.
          contradiction h
          (either (eqb k 4) (λ p. rw p)
          (λ p. either (within 6 k 11) (λ q. rw (p, q)) (λ q. rw (p, q, le-leb 16 k a, le-leb k 79 b))));
    }

module _ (image acs r : List ℕ) (size : length r ≡ record_size) where
  abbrev r₁ : List ℕ
  r₁ = laid r 4 (primary_bus image ∷ [])

  abbrev r₂ : List ℕ
  r₂ = laid r₁ 6 (secondary_bus image ∷ subordinate_bus image ∷ [])

  abbrev r₃ : List ℕ
  r₃ = laid r₂ 8 (bytes_from 2 acs 4)

  abbrev r₄ : List ℕ
  r₄ = laid r₃ 10 (bytes_from 2 acs 6)

  abbrev r₅ : List ℕ
  r₅ = laid r₄ 16 (bytes_from 32 acs 8)

  abbrev r₆ : List ℕ
  r₆ = laid r₅ 48 (range_bytes (memory_window image))

  abbrev r₇ : List ℕ
  r₇ = laid r₆ 64 (range_bytes (prefetchable_window image))

  size₁ : length r₁ ≡ record_size
  size₁ = length_after _ r 4 ∙ size

  size₂ : length r₂ ≡ record_size
  size₂ = length_after _ r₁ 6 ∙ size₁

  size₃ : length r₃ ≡ record_size
  size₃ = length_after _ r₂ 8 ∙ size₂

  size₄ : length r₄ ≡ record_size
  size₄ = length_after _ r₃ 10 ∙ size₃

  size₅ : length r₅ ≡ record_size
  size₅ = length_after _ r₄ 16 ∙ size₄

  size₆ : length r₆ ≡ record_size
  size₆ = length_after _ r₅ 48 ∙ size₅

  size₇ : length r₇ ≡ length r
  size₇ = length_after _ r₆ 64 ∙ size₆ ∙ sym size

  -- bytes below a field are as the fields before it left them
  below₄₈ : (k : ℕ) → k < 48 → byte r₇ k ≡ byte r₅ k
  below₄₈ k l = laid_before _ r₆ 64 k (omega arith) ∙ laid_before _ r₅ 48 k l

  below₁₆ : (k : ℕ) → k < 16 → byte r₇ k ≡ byte r₄ k
  below₁₆ k l = below₄₈ k (omega arith) ∙ laid_before _ r₄ 16 k l

  below₈ : (k : ℕ) → k < 8 → byte r₇ k ≡ byte r₂ k
  below₈ k l = below₁₆ k (omega arith) ∙ laid_before _ r₃ 10 k (omega arith) ∙ laid_before _ r₂ 8 k l

  outside : (k : ℕ) → Other k → byte r₇ k ≡ byte r k
  outside k o =
      let m : length (range_bytes (memory_window image)) ≡ 16 = length_range (memory_window image) in
      let w : length (range_bytes (prefetchable_window image)) ≡ 16 = length_range (prefetchable_window image) in
      let n : length (bytes_from 32 acs 8) ≡ 32 = length_bytes 32 acs 8 in
      let c : length (bytes_from 2 acs 4) ≡ 2 = length_bytes 2 acs 4 in
      let d : length (bytes_from 2 acs 6) ≡ 2 = length_bytes 2 acs 6 in
      laid_outside _ r₆ 64 k (λ a b. o.not_high (omega arith) (omega arith))
      ∙ laid_outside _ r₅ 48 k (λ a b. o.not_high (omega arith) (omega arith))
      ∙ laid_outside _ r₄ 16 k (λ a b. o.not_high (omega arith) (omega arith))
      ∙ laid_outside _ r₃ 10 k (λ a b. o.not_low (omega arith) (omega arith))
      ∙ laid_outside _ r₂ 8 k (λ a b. o.not_low (omega arith) (omega arith))
      ∙ laid_outside _ r₁ 6 k (λ a b. o.not_low (omega arith) (omega arith))
      ∙ laid_outside _ r 4 k (λ a b. o.not_own (omega arith))

  in_bytes : (n from : ℕ) (b : List ℕ) (i k : ℕ) → from + n ≤ length b → k < n
      → byte (laid b from (bytes_from n acs i)) (from + k) ≡ byte acs (i + k)
  in_bytes n from b i k room l =
      let e : length (bytes_from n acs i) ≡ n = length_bytes n acs i in
      laid_at (bytes_from n acs i) b from k (omega arith) (omega arith) ∙ bytes_at n acs i k l

  in_range : (w : Range) (from : ℕ) (b : List ℕ) (k : ℕ) → from + 16 ≤ length b → k < 16
      → byte (laid b from (range_bytes w)) (from + k) ≡ byte (range_bytes w) k
  in_range w from b k room l =
      let e : length (range_bytes w) ≡ 16 = length_range w in laid_at (range_bytes w) b from k (omega arith) (omega arith)

  pub byte_by_byte : ByteByByte image acs r (fill_all (filled_fields image acs) r)
  byte_by_byte =
      record {
        size = size₇;
        own = below₈ 4 (omega arith) ∙ laid_before _ r₁ 6 4 (omega arith) ∙ laid_at _ r 4 0 (omega (arith, size)) (omega arith);
        secondary = below₈ 6 (omega arith) ∙ laid_at _ r₁ 6 0 (omega (arith, size₁)) (omega arith);
        subordinate = below₈ 7 (omega arith) ∙ laid_at _ r₁ 6 1 (omega (arith, size₁)) (omega arith);
        capability = λ k l.
            below₁₆ (8 + k) (omega arith) ∙ laid_before _ r₃ 10 (8 + k) (omega arith) ∙ in_bytes 2 8 r₂ 4 k (omega (arith, size₂)) l;
        control = λ k l. below₁₆ (10 + k) (omega arith) ∙ in_bytes 2 10 r₃ 6 k (omega (arith, size₃)) l;
        vector = λ k l. below₄₈ (16 + k) (omega arith) ∙ in_bytes 32 16 r₄ 8 k (omega (arith, size₄)) l;
        memory = λ k l.
            laid_before _ r₆ 64 (48 + k) (omega arith) ∙ in_range (memory_window image) 48 r₅ k (omega (arith, size₅)) l;
        prefetchable = λ k l. in_range (prefetchable_window image) 64 r₆ k (omega (arith, size₆)) l;
        others = λ k h. outside k (other k h);
      }

pub filled_byte_by_byte : (image r : List ℕ) → length r ≡ record_size → ByteByByte image (part_of image (acs_structure image)) r (filled image r)
unfolding filled
filled_byte_by_byte image r size = byte_by_byte image (part_of image (acs_structure image)) r size

-- a number read back from its bytes
read_back : (n x : ℕ) (b : List ℕ) (i : ℕ) → x < 256 ^ n → ((j : ℕ) → j < n → byte b (i + j) ≡ byte (le_bytes n x) j) → le n b i ≡ x
unfolding le_bytes
read_back zero x b i l h = omega arith
read_back (suc n) x b i l h =
    let e : i + 0 ≡ i = omega arith in
    let low : byte b i ≡ x % 256 = sym (ap (byte b) e) ∙ h 0 (omega arith) in
    let high : le n b (i + 1) ≡ x / 256 =
    read_back n (x / 256) b (i + 1) (omega arith)
    (λ j m. let f : i + 1 + j ≡ i + suc j = omega arith in ap (byte b) f ∙ h (suc j) (omega arith)) in
    omega arith

-- a window of these edges is closed, or as a bridge wants it
window_keeps : (k base limit : ℕ) → k < 2 → base % 0x100000 ≡ 0 → limit % 0x100000 ≡ 0xFFFFF → (k ≡ 0 → limit < 0x100000000)
    → (closed (window base limit).first (window base limit).last || window_fine k (window base limit).first (window base limit).last) ≡ true
unfolding window
window_keeps k base limit h a b c =
    either (ltb limit base) (λ p. rw p)
    (λ q. rw q (or_right (closed base limit) (window_fine k base limit) (open_fine (ltb-false limit base q))))
  where
    low : (not (eqb k 0) || ltb limit 0x100000000) ≡ true
    low = either (eqb k 0) (λ p. rw (p, lt-ltb limit 0x100000000 (c (eqb-true k 0 p)))) (λ q. rw q)

    open_fine : base ≤ limit → window_fine k base limit ≡ true
    open_fine l = rw (lt-ltb k 2 h, le-leb base limit l, eq-eqb (base % 0x100000) 0 a, eq-eqb (limit % 0x100000) 0xFFFFF b, low)

-- both ends of a window are below 2^64 where base and limit are
window_below : (base limit : ℕ) → base < 256 ^ 8 → limit < 256 ^ 8 → ((window base limit).first < 256 ^ 8) × ((window base limit).last < 256 ^ 8)
unfolding window
window_below base limit a b = either (ltb limit base) (λ p. rw p (omega arith, omega arith)) (λ q. rw q (a, b))

-- the two ends of a range, read where its bytes stand
module _ (w : Range) (b : List ℕ) (i : ℕ) (same : (j : ℕ) → j < 16 → byte b (i + j) ≡ byte (range_bytes w) j) where
  first_back : w.first < 256 ^ 8 → le 8 b i ≡ w.first
  unfolding range_bytes
  first_back l =
      read_back 8 w.first b i l
      (λ j m. same j (omega arith) ∙ get_or-append (le_bytes 8 w.first) (le_bytes 8 w.last) 0 j (rw (length_digits 8 w.first) m))

  last_back : w.last < 256 ^ 8 → le 8 b (i + 8) ≡ w.last
  unfolding range_bytes
  last_back l =
      read_back 8 w.last b (i + 8) l
      (λ j m.
      let e : i + 8 + j ≡ i + (8 + j) = omega arith in
      let f : length (le_bytes 8 w.first) + j ≡ 8 + j = ap (λ (n : ℕ). n + j) (length_digits 8 w.first) in
      ap (byte b) e ∙ same (8 + j) (omega arith) ∙ sym (ap (byte (range_bytes w)) f)
      ∙ get_or-append-add (le_bytes 8 w.first) (le_bytes 8 w.last) j 0)

module _ (image : List ℕ) (are : AreBytes image) where
  two_below : (at : ℕ) → le 2 image at < 0x10000
  two_below at = let a = are at in let b = are (at + 1) in omega arith

  upper_below : (at : ℕ) → upper_half image at < 2 ^ 32
  unfolding upper_half
  upper_below at =
      let a = are at in
      let b = are (at + 1) in
      let c = are (at + 1 + 1) in
      let d = are (at + 1 + 1 + 1) in
      either (eqb (le 2 image 0x24 % 16) 0) (λ p. rw p (omega arith)) (λ q. rw q (omega arith))

  -- A range of record i of s that has a window's bytes keeps the rule for windows.
  keeps : (s : List ℕ) (i k low high : ℕ) → is_bridge (kind s i) ≡ true → k < 2 → low % 0x100000 ≡ 0 → high % 0x100000 ≡ 0xFFFFF
      → (k ≡ 0 → high < 0x100000000) → low < 256 ^ 8 → high < 256 ^ 8
      → ((j : ℕ) → j < 16 → byte s (base i + 48 + 16 * k + j) ≡ byte (range_bytes (window low high)) j) → range_fine s i k ≡ true
  unfolding range_fine
  keeps s i k low high bridge h a b c bl bh same =
      let below = window_below low high bl bh in
      let e : base i + 48 + 16 * k + 8 ≡ base i + 56 + 16 * k = omega arith in
      let f : first s i k ≡ (window low high).first = first_back (window low high) s (base i + 48 + 16 * k) same below.0 in
      let l : last s i k ≡ (window low high).last =
      sym (ap (le 8 s) e) ∙ last_back (window low high) s (base i + 48 + 16 * k) same below.1 in
      rw (bridge, f, l) (window_keeps k low high h a b c)

  pub windows_keep_rule : (r s : List ℕ) (i : ℕ) → length r ≡ record_size → Holds s i (filled image r) → is_bridge (kind s i) ≡ true
      → (k : ℕ) → k < 2 → range_fine s i k ≡ true
  unfolding memory_window prefetchable_window
  windows_keep_rule r s i size has bridge zero h =
      let x = two_below 0x20 in
      let y = two_below 0x22 in
      keeps s i 0 (base_address (le 2 image 0x20)) (limit_address (le 2 image 0x22)) bridge h (omega arith) (omega arith) (λ e. omega arith)
      (omega arith) (omega arith)
      (λ j l.
      let e : base i + 48 + 16 * 0 + j ≡ base i + (48 + j) = omega arith in
      ap (byte s) e ∙ has.bytes (48 + j) (omega arith) ∙ (filled_byte_by_byte image r size).memory j l)
  windows_keep_rule r s i size has bridge (suc zero) h =
      let x = two_below 0x24 in
      let y = two_below 0x26 in
      let u = upper_below 0x28 in
      let v = upper_below 0x2C in
      keeps s i 1 (base_address (le 2 image 0x24) + 2 ^ 32 * upper_half image 0x28) (limit_address (le 2 image 0x26) + 2 ^ 32 * upper_half image 0x2C)
      bridge h (omega arith) (omega arith) (λ e. absurd (omega arith)) (omega arith) (omega arith)
      (λ j l.
      let e : base i + 48 + 16 * 1 + j ≡ base i + (64 + j) = omega arith in
      ap (byte s) e ∙ has.bytes (64 + j) (omega arith) ∙ (filled_byte_by_byte image r size).prefetchable j l)
  windows_keep_rule r s i size has bridge (suc (suc k)) h = absurd (omega arith)
