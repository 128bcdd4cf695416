-- Parts of the rules of document 01: what is said of one range or one bit, of a record without its siblings, and of two siblings.
use Rattle.std.specs.Prelude.{◌≡◌, Bool, true, false, cond, ◌&&◌, ◌||◌, not, List, ℕ, ◌≤◌, ◌<◌, leb}
use Rattle.rules.specs.declared.Range.{Range}
use Rattle.rules.specs.Below.{any_below}
use Rattle.rules.specs.Bytes.{bit}
use Rattle.rules.specs.Snapshot.{kind, capability, control, closed, is_open}
use Rattle.rules.specs.Records.{kind_fine, parent_fine, blank_fine, own_bus_fine, bus_order_fine, ranges_fine, own_ranges_apart, nested_fine}
use Rattle.rules.specs.Records.{siblings, under_port, buses_meet, numbers_meet, ranges_meet, inside, capability_fine, control_fine, fine}

-- two ranges are open and have an address in common
abbrev pub open_overlap : Range → Range → Bool
open_overlap a b = not (closed a.first a.last) && (not (closed b.first b.last) && (leb a.first b.last && leb b.first a.last))

-- the window is open, and the range lies between its ends
abbrev pub in_window : Range → Range → Bool
in_window range window = not (closed window.first window.last) && (leb window.first range.first && leb range.last window.last)

-- range k of i is closed or lies inside a window of p
abbrev pub range_nested : List ℕ → ℕ → ℕ → ℕ → Bool
range_nested s i p k = not (is_open s i k) || any_below 2 (inside s i k p)

-- bit k of a Control register is clear or the Capability has it
abbrev pub bit_allowed : ℕ → ℕ → ℕ → Bool
bit_allowed capability control k = not (bit k control) || bit k capability

-- both registers of record i
unfoldable pub registers_fine : List ℕ → ℕ → Bool
registers_fine s i = capability_fine (kind s i) (capability s i) && control_fine (capability s i) (control s i)

-- a record keeps every rule but those of siblings
unfoldable pub fine_alone : List ℕ → ℕ → Bool
fine_alone s i =
    (kind_fine s i && parent_fine s i)
    && (blank_fine s i && own_bus_fine s i && bus_order_fine s i && ranges_fine s i && own_ranges_apart s i && nested_fine s i && registers_fine s i)

-- record j is a sibling of i, and the two have buses, numbers or addresses in common
unfoldable pub conflict : List ℕ → ℕ → ℕ → Bool
conflict s i j = siblings s i j && (buses_meet s i j || numbers_meet s i j || ranges_meet s i j)

-- a record keeps the rules of siblings: what stands under a port has none, any other record none that it is in conflict with
unfoldable pub apart : List ℕ → ℕ → Bool
apart s i = cond (under_port (kind s i)) (not (any_below i (siblings s i))) (not (any_below i (conflict s i)))

-- no earlier record is faulty
abbrev pub Earlier : List ℕ → ℕ → Type 0
Earlier s i = (j : ℕ) → j < i → fine s j ≡ true

-- every earlier sibling of i stands at `from` or behind it
pub record Behind (s : List ℕ) (i from : ℕ) : Type 0 where
  pub within : from ≤ i
  pub none_before : (j : ℕ) → j < from → siblings s i j ≡ false
