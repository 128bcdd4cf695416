-- At least as tight, and alike in all else: what two snapshots are to each other.
use Rattle.std.specs.Prelude.{◌≡◌, Bool, true, false, ◌&&◌, ◌||◌, List, ℕ, ◌-◌, ◌%◌, ◌<◌, leb, length}
use Rattle.rules.specs.Bytes.{byte, within}
use Rattle.rules.specs.Snapshot.{stored_bit, bit_v, bit_b, bit_r, bit_u, bit_e, bit_t}
use Rattle.rules.specs.Properties.{IsPort, is_on}

-- byte j of a record is of the Control register, 10-11, or of the Egress Control Vector, 16-47
abbrev pub setting_byte : ℕ → Bool
setting_byte j = within 10 j 11 || within 16 j 47

-- byte k of a snapshot, which has records of 144 bytes from byte 24 on, is such a byte of a record
abbrev pub is_setting : ℕ → Bool
is_setting k = leb 24 k && setting_byte ((k - 24) % 144)

-- Capabilities, flags and all other fields agree.
pub record Alike (old new : List ℕ) : Type 0 where
  pub long : length old ≡ length new
  pub same : (k : ℕ) → is_setting k ≡ false → byte old k ≡ byte new k

-- The second setting has, at port p: ..
pub record TightAt (old new : List ℕ) (p : ℕ) : Type 0 where
  -- V, B, R, U on wherever the first has them on;
  pub v : is_on old bit_v p ≡ true → is_on new bit_v p ≡ true
  pub b : is_on old bit_b p ≡ true → is_on new bit_b p ≡ true
  pub r : is_on old bit_r p ≡ true → is_on new bit_r p ≡ true
  pub u : is_on old bit_u p ≡ true → is_on new bit_u p ≡ true
  -- T off wherever the first has it off;
  pub t : is_on old bit_t p ≡ false → is_on new bit_t p ≡ false
  -- every vector bit set that the first has set.
  pub vector : (k : ℕ) → k < 256 → stored_bit old p k ≡ true → stored_bit new p k ≡ true
  -- E is newly on only where the second has R off,
  pub e_on : is_on old bit_e p ≡ false → is_on new bit_e p ≡ true → is_on new bit_r p ≡ false
  -- newly off only where the second has R on. C is free.
  pub e_off : is_on old bit_e p ≡ true → is_on new bit_e p ≡ false → is_on new bit_r p ≡ true

-- at each port
abbrev pub AtLeastAsTight : List ℕ → List ℕ → Type 0
AtLeastAsTight old new = (p : ℕ) → IsPort new p → TightAt old new p
