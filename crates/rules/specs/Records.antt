-- When a record is faulty: the rules of document 01, a definition to each, in its order. Record i is held against itself and
-- earlier records; it depends on nothing past record i, nor on the header's count.
use Rattle.std.specs.Prelude.{◌≡◌, Bool, true, cond, ◌&&◌, ◌||◌, not, List, [], ◌∷◌, ℕ, ◌+◌, ◌-◌, ◌^◌, ◌%◌, eqb, leb, ltb}
use Rattle.rules.specs.Below.{all_of, all_below, any_below, find_from}
use Rattle.rules.specs.Bytes.{byte, bit, within}
use Rattle.rules.specs.Snapshot.{count, base, kind, port_number, parent, own_bus, devfn, secondary, subordinate, capability, control, first, last}
use Rattle.rules.specs.Snapshot.{closed, is_open, is_root, is_upstream, is_downstream, is_endpoint, is_port}
use Rattle.rules.specs.Snapshot.{is_bridge, bit_v, bit_b, bit_r, bit_c, bit_u, bit_t, complex}
use Rattle.std.specs.Prelude.{Option}

-- the n bytes from `at` on are zero
abbrev pub zeros : List ℕ → ℕ → ℕ → Bool
zeros s at n = all_below n (λ k. eqb (byte s (at + k)) 0)

-- Kind is 1 to 4; bytes 12-15 are zero.
unfoldable pub kind_fine : List ℕ → ℕ → Bool
kind_fine s i = within 1 (kind s i) 4 && zeros s (base i + 12) 4

-- Kind 2 or 4 stands under a port, kind 3 under kind 2.
abbrev pub stands_under : ℕ → ℕ → Bool
stands_under kind above = cond (is_downstream kind) (is_upstream above) (is_port above)

-- Parent: FFFFh for kind 1; else a lower index, of a kind to stand under.
unfoldable pub parent_fine : List ℕ → ℕ → Bool
parent_fine s i =
    cond (is_root (kind s i)) (eqb (parent s i) complex)
    (ltb (parent s i) i && stands_under (kind s i) (kind s (parent s i)))

-- Siblings have one parent; root ports count as siblings in every rule here.
abbrev pub siblings : List ℕ → ℕ → ℕ → Bool
siblings s i j = eqb (parent s i) (parent s j)

-- no earlier sibling of record i passes the test
abbrev pub no_sibling : List ℕ → ℕ → (ℕ → Bool) → Bool
no_sibling s i f = not (any_below i (λ j. siblings s i j && f j))

-- kind 2 or 4 stands under a port
abbrev pub under_port : ℕ → Bool
under_port kind = is_upstream kind || is_endpoint kind

-- A port has at most one child: what stands under a port has no sibling.
unfoldable pub only_child : List ℕ → ℕ → Bool
only_child s i = not (under_port (kind s i)) || not (any_below i (siblings s i))

-- Kinds 2 and 4: bytes 1, 5 and 8-47 zero. Kind 4: bytes 6, 7 zero.
unfoldable pub blank_fine : List ℕ → ℕ → Bool
blank_fine s i =
    (not (under_port (kind s i)) || (eqb (port_number s i) 0 && eqb (devfn s i) 0 && zeros s (base i + 8) 40))
    && (not (is_endpoint (kind s i)) || (eqb (secondary s i) 0 && eqb (subordinate s i) 0))

-- a field of the parent's, and what takes its place at a root port, which has no parent
abbrev pub of_parent : List ℕ → ℕ → ℕ → (List ℕ → ℕ → ℕ) → ℕ
of_parent s i none field = cond (is_root (kind s i)) none (field s (parent s i))

-- Own bus: 0 for kind 1; else the parent's secondary.
unfoldable pub own_bus_fine : List ℕ → ℕ → Bool
own_bus_fine s i = eqb (own_bus s i) (of_parent s i 0 secondary)

-- For bridges own bus < secondary <= subordinate, and subordinate <= the parent's subordinate (255, the highest, for a root port).
unfoldable pub bus_order_fine : List ℕ → ℕ → Bool
bus_order_fine s i =
    not (is_bridge (kind s i))
    || (ltb (own_bus s i) (secondary s i) && leb (secondary s i) (subordinate s i) && leb (subordinate s i) (of_parent s i 255 subordinate))

-- two bridges' bus ranges meet
unfoldable pub buses_meet : List ℕ → ℕ → ℕ → Bool
buses_meet s i j =
    is_bridge (kind s i) && is_bridge (kind s j) && leb (secondary s i) (subordinate s j) && leb (secondary s j) (subordinate s i)

-- Siblings' bus ranges don't meet.
unfoldable pub buses_apart : List ℕ → ℕ → Bool
buses_apart s i = no_sibling s i (buses_meet s i)

-- two ports have a Port Number, or a byte 5, in common
unfoldable pub numbers_meet : List ℕ → ℕ → ℕ → Bool
numbers_meet s i j =
    is_port (kind s i) && is_port (kind s j) && (eqb (port_number s i) (port_number s j) || eqb (devfn s i) (devfn s j))

-- Port Numbers, and byte 5, differ among sibling ports.
unfoldable pub numbers_apart : List ℕ → ℕ → Bool
numbers_apart s i = no_sibling s i (numbers_meet s i)

-- Bridges use ranges 0 (memory, last below 2^32) and 1 (prefetchable). When open, first is a multiple of 2^20 and last is one
-- less than a multiple of 2^20.
abbrev pub window_fine : ℕ → ℕ → ℕ → Bool
window_fine k f l =
    ltb k 2 && leb f l && eqb (f % 0x100000) 0 && eqb (l % 0x100000) 0xFFFFF && (not (eqb k 0) || ltb l 0x100000000)

-- x is a power of two, 1 to 2^63
abbrev pub power_of_two : ℕ → Bool
power_of_two x = any_below 64 (λ k. eqb x (2 ^ k))

-- An endpoint range's length is a power of two, 128 to 2^63, and first is a multiple of it.
unfoldable pub sized : ℕ → ℕ → Bool
sized length f = power_of_two length && leb 128 length && leb length (2 ^ 63) && eqb (f % length) 0

unfoldable pub span_fine : ℕ → ℕ → Bool
span_fine f l = leb f l && sized (l - f + 1) f

-- A range is closed or as its node wants it.
unfoldable pub range_fine : List ℕ → ℕ → ℕ → Bool
range_fine s i k =
    closed (first s i k) (last s i k)
    || cond (is_bridge (kind s i)) (window_fine k (first s i k) (last s i k)) (span_fine (first s i k) (last s i k))

unfoldable pub ranges_fine : List ℕ → ℕ → Bool
ranges_fine s i = all_below 6 (range_fine s i)

-- open range k of i and open range m of j overlap
unfoldable pub overlap : List ℕ → ℕ → ℕ → ℕ → ℕ → Bool
overlap s i k j m =
    is_open s i k && (is_open s j m && (leb (first s i k) (last s j m) && leb (first s j m) (last s i k)))

-- A node's open ranges don't overlap each other ..
unfoldable pub own_ranges_apart : List ℕ → ℕ → Bool
own_ranges_apart s i = not (any_below 6 (λ k. any_below k (overlap s i k i)))

-- an open range of i and one of j overlap
unfoldable pub ranges_meet : List ℕ → ℕ → ℕ → Bool
ranges_meet s i j = any_below 6 (λ k. any_below 6 (overlap s i k j))

-- .. or a sibling's;
unfoldable pub ranges_apart : List ℕ → ℕ → Bool
ranges_apart s i = no_sibling s i (ranges_meet s i)

-- range k of i lies inside the open window m of p
unfoldable pub inside : List ℕ → ℕ → ℕ → ℕ → ℕ → Bool
inside s i k p m = is_open s p m && (leb (first s p m) (first s i k) && leb (last s i k) (last s p m))

-- each lies inside one window of its parent.
unfoldable pub nested_fine : List ℕ → ℕ → Bool
nested_fine s i =
    cond (is_root (kind s i)) true (all_below 6 (λ k. not (is_open s i k) || any_below 2 (inside s i k (parent s i))))

-- Capability is 0 (no ACS) or has V and B; kind 3 then has R, C, U and T too; R and C are both there or both missing; bit 7 is 0.
abbrev pub capability_fine : ℕ → ℕ → Bool
capability_fine kind c =
    eqb c 0
    || (bit bit_v c && bit bit_b c
    && (not (is_downstream kind) || (bit bit_r c && bit bit_c c && bit bit_u c && bit bit_t c))
    && (not (bit bit_r c) || bit bit_c c) && (not (bit bit_c c) || bit bit_r c)
    && not (bit 7 c))

-- Control uses bits 0 to 6, each only where Capability has it.
abbrev pub control_fine : ℕ → ℕ → Bool
control_fine capability control = ltb control 128 && all_below 7 (λ k. not (bit k control) || bit k capability)

-- A record is faulty if, against itself and earlier records, it breaks any of these.
abbrev pub rules : List ℕ → ℕ → List Bool
rules s i =
    kind_fine s i
    ∷ parent_fine s i ∷ only_child s i
    ∷ blank_fine s i
    ∷ own_bus_fine s i ∷ bus_order_fine s i ∷ buses_apart s i
    ∷ numbers_apart s i
    ∷ ranges_fine s i
    ∷ own_ranges_apart s i ∷ ranges_apart s i ∷ nested_fine s i
    ∷ capability_fine (kind s i) (capability s i) ∷ control_fine (capability s i) (control s i)
    ∷ []

unfoldable pub fine : List ℕ → ℕ → Bool
fine s i = all_of (rules s i)

-- The rules by name, as a record that is not faulty keeps them.
pub record Keeps (s : List ℕ) (i : ℕ) : Type 0 where
  pub kinds : kind_fine s i ≡ true
  pub parents : parent_fine s i ≡ true
  pub only_child : only_child s i ≡ true
  pub blanks : blank_fine s i ≡ true
  pub own_bus : own_bus_fine s i ≡ true
  pub bus_order : bus_order_fine s i ≡ true
  pub buses_apart : buses_apart s i ≡ true
  pub numbers_apart : numbers_apart s i ≡ true
  pub ranges : ranges_fine s i ≡ true
  pub own_ranges_apart : own_ranges_apart s i ≡ true
  pub ranges_apart : ranges_apart s i ≡ true
  pub nested : nested_fine s i ≡ true
  pub capabilities : capability_fine (kind s i) (capability s i) ≡ true
  pub controls : control_fine (capability s i) (control s i) ≡ true

unfoldable pub faulty : List ℕ → ℕ → Bool
faulty s i = not (fine s i)

-- the lowest faulty record
unfoldable pub lowest_faulty : List ℕ → Option ℕ
lowest_faulty s = find_from (faulty s) (count s) 0
