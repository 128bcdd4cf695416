-- The rules of a record joined: the two that are tested first, those behind them, and those of siblings.
use mathlib.Core.Path.{◌≡◌, refl, sym, ◌∙◌}
use mathlib.Core.Bool.{Bool, true, false, ◌&&◌}
use mathlib.Core.List.{List}
use Prim.Native.Nat.{ℕ}
use Rattle.rules.specs.Snapshot.{kind, capability, control}
use Rattle.rules.specs.Records.{kind_fine, parent_fine, only_child, blank_fine, own_bus_fine, bus_order_fine, buses_apart, numbers_apart, ranges_fine}
use Rattle.rules.specs.Records.{own_ranges_apart, ranges_apart, nested_fine, capability_fine, control_fine, fine, Keeps}
use Rattle.rules.proofs.Logic.{both, and_both, same_test}
use Rattle.rules.proofs.Sound.{keeps}
use Rattle.records.specs.Parts.{registers_fine, fine_alone, apart}
use Rattle.records.proofs.SiblingsLaws.{apart_rules}

-- the rules that a record keeps by itself, by name
record KeepsAlone (s : List ℕ) (i : ℕ) : Type 0 where
  kinds : kind_fine s i ≡ true
  parents : parent_fine s i ≡ true
  blanks : blank_fine s i ≡ true
  own_bus : own_bus_fine s i ≡ true
  bus_order : bus_order_fine s i ≡ true
  ranges : ranges_fine s i ≡ true
  own_ranges_apart : own_ranges_apart s i ≡ true
  nested : nested_fine s i ≡ true
  registers : registers_fine s i ≡ true

module _ (s : List ℕ) (i : ℕ) where
  keeps_alone : fine_alone s i ≡ true → KeepsAlone s i
  unfolding fine_alone
  keeps_alone h =
      let (first, rest) = both (kind_fine s i && parent_fine s i) _ h in
      let (k, p) = both (kind_fine s i) (parent_fine s i) first in
      let (h1, g) = both (blank_fine s i && own_bus_fine s i && bus_order_fine s i && ranges_fine s i && own_ranges_apart s i && nested_fine s i) _ rest in
      let (h2, n) = both (blank_fine s i && own_bus_fine s i && bus_order_fine s i && ranges_fine s i && own_ranges_apart s i) _ h1 in
      let (h3, a) = both (blank_fine s i && own_bus_fine s i && bus_order_fine s i && ranges_fine s i) _ h2 in
      let (h4, r) = both (blank_fine s i && own_bus_fine s i && bus_order_fine s i) _ h3 in
      let (h5, o) = both (blank_fine s i && own_bus_fine s i) _ h4 in
      let (b, u) = both (blank_fine s i) (own_bus_fine s i) h5 in
      record { kinds = k; parents = p; blanks = b; own_bus = u; bus_order = o; ranges = r; own_ranges_apart = a; nested = n; registers = g }

  alone_kept : KeepsAlone s i → fine_alone s i ≡ true
  unfolding fine_alone
  alone_kept k =
      rw
      (k.kinds, k.parents, k.blanks, k.own_bus, k.bus_order, k.ranges, k.own_ranges_apart, k.nested, k.registers)

  pub alone_parent : fine_alone s i ≡ true → parent_fine s i ≡ true
  alone_parent h = (keeps_alone h).parents

  pub alone_ranges : fine_alone s i ≡ true → ranges_fine s i ≡ true
  alone_ranges h = (keeps_alone h).ranges

  -- a record that keeps the rules by itself and has no conflict with an earlier one is fine
  registers_kept : Keeps s i → registers_fine s i ≡ true
  unfolding registers_fine
  registers_kept k = and_both k.capabilities k.controls

  fine_alone_lem : Keeps s i → fine_alone s i ≡ true
  fine_alone_lem k =
      alone_kept
      (record {
        kinds = k.kinds;
        parents = k.parents;
        blanks = k.blanks;
        own_bus = k.own_bus;
        bus_order = k.bus_order;
        ranges = k.ranges;
        own_ranges_apart = k.own_ranges_apart;
        nested = k.nested;
        registers = registers_kept k;
      })

  fine_apart : Keeps s i → apart s i ≡ true
  fine_apart k = apart_rules s i ∙ rw (k.only_child, k.buses_apart, k.numbers_apart, k.ranges_apart)

  joined : KeepsAlone s i → (only_child s i && buses_apart s i && numbers_apart s i && ranges_apart s i) ≡ true → fine s i ≡ true
  unfolding fine registers_fine
  joined k h =
      let (h1, r) = both (only_child s i && buses_apart s i && numbers_apart s i) _ h in
      let (h2, n) = both (only_child s i && buses_apart s i) _ h1 in
      let (c, b) = both (only_child s i) (buses_apart s i) h2 in
      let (p, q) = both (capability_fine (kind s i) (capability s i)) (control_fine (capability s i) (control s i)) k.registers in
      rw
      (k.kinds, k.parents, c, k.blanks, k.own_bus, k.bus_order, b, n, k.ranges, k.own_ranges_apart, r, k.nested)
      (and_both p (and_both q refl))

  fine_split : fine s i ≡ (fine_alone s i && apart s i)
  fine_split =
      same_test (fine s i) (fine_alone s i && apart s i)
      (λ h. and_both (fine_alone_lem (keeps s i h)) (fine_apart (keeps s i h)))
      (λ h.
      let (a, b) = both (fine_alone s i) (apart s i) h in joined (keeps_alone a) (sym (apart_rules s i) ∙ b))

-- the rules of siblings come last
module _ (s : List ℕ) (i : ℕ) {a : Bool} (ea : a ≡ fine_alone s i) where
  pub fine_so : {c : Bool} → a ≡ true → c ≡ apart s i → c ≡ fine s i
  fine_so h ec = rw (fine_split s i, ← ea, h, ec)

  pub fine_not : a ≡ false → a ≡ fine s i
  fine_not h = rw (fine_split s i, ← ea, h)
