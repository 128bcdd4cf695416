-- Two snapshots that are alike have one shape.
use mathlib.Core.Path.{◌≡◌, refl, ap₂}
use mathlib.Core.Bool.{false}
use mathlib.Core.List.{List}
use Prim.Native.Nat.{ℕ, zero, suc, ◌+◌, ◌*◌, ◌-◌, ◌%◌, ◌≤◌, ◌<◌}
use native.Mathlib.Omega.{arith}
use lib.Dec.{leb}
use borrow.Author.Tests.{lt-leb}
use Rattle.rules.specs.Bytes.{byte, le, bit}
use Rattle.rules.specs.Snapshot.{base, count, kind, port_number, parent, own_bus, devfn, secondary, subordinate, capability, first, last}
use Rattle.rules.specs.Fabric.{in_range, holds, shape_of}
use Rattle.rules.specs.Refuse.{is_origin}
use Rattle.rules.specs.Tight.{setting_byte, Alike}
use Rattle.rules.proofs.Logic.{and_left_false, and_right_false}
use Rattle.rules.proofs.Loops.{any_same}

high_byte : (j : ℕ) → 48 ≤ j → setting_byte j ≡ false
high_byte j h =
    rw (and_right_false (leb 10 j) (leb j 11) (lt-leb j 11 (omega arith)), and_right_false (leb 16 j) (leb j 47) (lt-leb j 47 (omega arith)))

module _ (old new : List ℕ) (alike : Alike old new) where
  header_byte : (k : ℕ) → k < 24 → byte old k ≡ byte new k
  header_byte k l = alike.same k (and_left_false (leb 24 k) _ (lt-leb 24 k l))

  record_byte : (k i j : ℕ) → k ≡ base i + j → j < 144 → setting_byte j ≡ false → byte old k ≡ byte new k
  record_byte k i j e l h =
      let m : (k - 24) % 144 ≡ j = omega arith in
      alike.same k (and_right_false (leb 24 k) (setting_byte ((k - 24) % 144)) (rw m h))

  -- numbers of alike bytes
  le_same : (n at : ℕ) → ((k : ℕ) → at ≤ k → k < at + n → byte old k ≡ byte new k) → le n old at ≡ le n new at
  le_same zero at h = refl
  le_same (suc n) at h =
      ap₂ (λ (x y : ℕ). x + 256 * y) (h at (omega arith) (omega arith)) (le_same n (at + 1) (λ k a b. h k (omega arith) (omega arith)))

  pub same_count : count old ≡ count new
  same_count = le_same 2 6 (λ k a b. header_byte k (omega arith))

  pub same_kind : (i : ℕ) → kind old i ≡ kind new i
  same_kind i = record_byte (base i) i 0 (omega arith) (omega arith) refl

  same_port_number : (i : ℕ) → port_number old i ≡ port_number new i
  same_port_number i = record_byte (base i + 1) i 1 refl (omega arith) refl

  same_parent : (i : ℕ) → parent old i ≡ parent new i
  same_parent i =
      ap₂ (λ (x y : ℕ). x + 256 * (y + 256 * 0)) (record_byte (base i + 2) i 2 refl (omega arith) refl)
      (record_byte (base i + 2 + 1) i 3 (omega arith) (omega arith) refl)

  same_own_bus : (i : ℕ) → own_bus old i ≡ own_bus new i
  same_own_bus i = record_byte (base i + 4) i 4 refl (omega arith) refl

  same_devfn : (i : ℕ) → devfn old i ≡ devfn new i
  same_devfn i = record_byte (base i + 5) i 5 refl (omega arith) refl

  same_secondary : (i : ℕ) → secondary old i ≡ secondary new i
  same_secondary i = record_byte (base i + 6) i 6 refl (omega arith) refl

  same_subordinate : (i : ℕ) → subordinate old i ≡ subordinate new i
  same_subordinate i = record_byte (base i + 7) i 7 refl (omega arith) refl

  pub same_capability : (i : ℕ) → capability old i ≡ capability new i
  same_capability i =
      ap₂ (λ (x y : ℕ). x + 256 * (y + 256 * 0)) (record_byte (base i + 8) i 8 refl (omega arith) refl)
      (record_byte (base i + 8 + 1) i 9 (omega arith) (omega arith) refl)

  -- the eight bytes at 48 + 16 k and at 56 + 16 k
  same_range : (i at j : ℕ) → at ≡ base i + j → 48 ≤ j → j + 8 ≤ 144 → le 8 old at ≡ le 8 new at
  same_range i at j e a b =
      le_same 8 at (λ k c d. record_byte k i (j + (k - at)) (omega arith) (omega arith) (high_byte (j + (k - at)) (omega arith)))

  same_first : (i k : ℕ) → k < 6 → first old i k ≡ first new i k
  same_first i k l = same_range i (base i + 48 + 16 * k) (48 + 16 * k) (omega arith) (omega arith) (omega arith)

  same_last : (i k : ℕ) → k < 6 → last old i k ≡ last new i k
  same_last i k l = same_range i (base i + 56 + 16 * k) (56 + 16 * k) (omega arith) (omega arith) (omega arith)

  same_holds : (i a : ℕ) → holds old i a ≡ holds new i a
  unfolding holds in_range
  same_holds i a = any_same (in_range old i a) (in_range new i a) 6 (λ k l. rw (same_first i k l, same_last i k l))

  pub same_shape : shape_of old ≡ shape_of new
  unfolding shape_of
  same_shape = λ d.
      record {
        count = same_count d;
        kind = λ i. same_kind i d;
        port_number = λ i. same_port_number i d;
        parent = λ i. same_parent i d;
        own_bus = λ i. same_own_bus i d;
        devfn = λ i. same_devfn i d;
        secondary = λ i. same_secondary i d;
        subordinate = λ i. same_subordinate i d;
        holds = λ i a. same_holds i a d;
        roots_reach = bit 0 (header_byte 3 (omega arith) d);
        reflects = λ t. bit 1 (header_byte 3 (omega arith) d);
      }

  pub same_origin : (o : ℕ) → is_origin old o ≡ is_origin new o
  unfolding is_origin
  same_origin o = rw (same_count, same_kind o)
