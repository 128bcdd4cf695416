-- What a snapshot without a faulty record gives.
use mathlib.Core.Path.{◌≡◌, refl}
use mathlib.Core.Bool.{Bool, true, false, ◌&&◌, ◌||◌, not}
use mathlib.Core.List.{List, [], ◌∷◌}
use Prim.Native.Nat.{ℕ, zero, suc, ◌≤◌, ◌<◌}
use native.Mathlib.Omega.{arith}
use lib.Dec.{leb, ltb}
use lib.ListN.{get_or}
use borrow.Author.Tests.{ltb-true, leb-true, le-leb, eqb-true, eqb-false, ne_eqb}
use Rattle.rules.specs.Below.{all_of, any_below}
use Rattle.rules.specs.Bytes.{within}
use Rattle.rules.specs.Snapshot.{count, kind, parent, own_bus, secondary, subordinate, first, last, is_open, is_root, is_upstream, is_downstream}
use Rattle.rules.specs.Snapshot.{is_endpoint, is_port, is_bridge, complex}
use Rattle.rules.specs.Records.{kind_fine, stands_under, parent_fine, of_parent, own_bus_fine, bus_order_fine, inside, nested_fine, rules, fine, Keeps, faulty}
use Rattle.rules.specs.Records.{lowest_faulty}
use Rattle.rules.specs.Fabric.{in_range, holds, shape_of}
use Rattle.rules.specs.Properties.{WellFormed, Nested}
use Rattle.rules.proofs.Logic.{contradiction, leb_trans, both, and_both, or_case, not_true, not_false, or_false}
use Rattle.rules.proofs.Loops.{Witness, any_some, some_any, all_at, find_none}
use Rattle.std.specs.Prelude.{None}

-- no faulty record: every record is fine
pub all_fine : (s : List ℕ) → lowest_faulty s ≡ None → (i : ℕ) → i < count s → fine s i ≡ true
unfolding lowest_faulty faulty
all_fine s h i l = not_false (find_none (faulty s) (count s) 0 h i (omega arith) (omega arith))

all_of_at : (l : List Bool) → all_of l ≡ true → (k : ℕ) → get_or l k true ≡ true
all_of_at [] h k = refl
all_of_at (b ∷ l) h zero = (both b (all_of l) h).0
all_of_at (b ∷ l) h (suc k) = all_of_at l (both b (all_of l) h).1 k

-- the kinds, told apart
pub downstream_port : (k : ℕ) → is_port k ≡ true → is_root k ≡ false → is_downstream k ≡ true
downstream_port k p r = or_case (is_root k) (is_downstream k) p (λ q. contradiction q r) (λ q. q)

pub downstream_no_root : (k : ℕ) → is_downstream k ≡ true → is_root k ≡ false
downstream_no_root k d = let e : k ≡ 3 = eqb-true _ _ d in ne_eqb k 1 (λ z. omega arith)

pub port_no_endpoint : (k : ℕ) → is_port k ≡ true → is_endpoint k ≡ false
port_no_endpoint k h =
    or_case (is_root k) (is_downstream k) h (λ r. let e : k ≡ 1 = eqb-true _ _ r in rw e) (λ d. let e : k ≡ 3 = eqb-true _ _ d in rw e)

pub bridge : (k : ℕ) → 1 ≤ k → k ≤ 4 → is_endpoint k ≡ false → is_bridge k ≡ true
bridge k a b n =
    let d : k ≡ 4 → ⊥ = eqb-false _ _ n in and_both (le-leb 1 k a) (le-leb k 3 (omega (arith, d)))

-- the rules that a record which is fine keeps, by name
pub keeps : (s : List ℕ) (i : ℕ) → fine s i ≡ true → Keeps s i
unfolding fine
keeps s i ok =
    let rule : (k : ℕ) → get_or (rules s i) k true ≡ true = all_of_at (rules s i) ok in
    record {
      kinds = rule 0;
      parents = rule 1;
      only_child = rule 2;
      blanks = rule 3;
      own_bus = rule 4;
      bus_order = rule 5;
      buses_apart = rule 6;
      numbers_apart = rule 7;
      ranges = rule 8;
      own_ranges_apart = rule 9;
      ranges_apart = rule 10;
      nested = rule 11;
      capabilities = rule 12;
      controls = rule 13;
    }

module _ (s : List ℕ) (i : ℕ) (ok : Keeps s i) where
  pub kind_range : (1 ≤ kind s i) × (kind s i ≤ 4)
  unfolding kind_fine
  kind_range =
      let w = both (leb 1 (kind s i)) (leb (kind s i) 4) (both (within 1 (kind s i) 4) _ ok.kinds).0 in
      (leb-true _ _ w.0, leb-true _ _ w.1)

  stands : is_root (kind s i) ≡ false → (ltb (parent s i) i ≡ true) × (stands_under (kind s i) (kind s (parent s i)) ≡ true)
  unfolding parent_fine
  stands r = both (ltb (parent s i) i) (stands_under (kind s i) (kind s (parent s i))) (rw r at ok.parents)

  no_parent : is_root (kind s i) ≡ true → parent s i ≡ complex
  unfolding parent_fine
  no_parent r = eqb-true _ _ (rw r at ok.parents)

  upstream_above : is_downstream (kind s i) ≡ true → is_upstream (kind s (parent s i)) ≡ true
  upstream_above d = rw d at (stands (downstream_no_root (kind s i) d)).1

  port_above : is_port (kind s i) ≡ false → is_port (kind s (parent s i)) ≡ true
  port_above n =
      let e = or_false (is_root (kind s i)) (is_downstream (kind s i)) n in rw e.1 at (stands e.0).1

  own_bus_above : is_root (kind s i) ≡ false → own_bus s i ≡ secondary s (parent s i)
  unfolding own_bus_fine
  own_bus_above r = eqb-true _ _ (rw r at ok.own_bus)

  -- the three tests of a bridge's buses
  bus_order : is_endpoint (kind s i) ≡ false
      → (ltb (own_bus s i) (secondary s i) ≡ true) × (leb (secondary s i) (subordinate s i) ≡ true)
      × (leb (subordinate s i) (of_parent s i 255 subordinate) ≡ true)
  unfolding bus_order_fine
  bus_order n =
      let three : (ltb (own_bus s i) (secondary s i) && leb (secondary s i) (subordinate s i) && leb (subordinate s i) (of_parent s i 255 subordinate)) ≡ true =
      rw (bridge (kind s i) kind_range.0 kind_range.1 n) at ok.bus_order in
      let (two, c) =
      both (ltb (own_bus s i) (secondary s i) && leb (secondary s i) (subordinate s i)) (leb (subordinate s i) (of_parent s i 255 subordinate)) three in
      let (a, b) = both (ltb (own_bus s i) (secondary s i)) (leb (secondary s i) (subordinate s i)) two in
      (a, b, c)

  buses_in_order : is_endpoint (kind s i) ≡ false → (own_bus s i < secondary s i) × (secondary s i ≤ subordinate s i)
  buses_in_order n = (ltb-true _ _ (bus_order n).0, leb-true _ _ (bus_order n).1)

  buses_inside : is_root (kind s i) ≡ false → is_endpoint (kind s i) ≡ false → subordinate s i ≤ subordinate s (parent s i)
  buses_inside r n = leb-true _ _ (rw r at (bus_order n).2)

  -- an open range of i lies inside an open window of its parent
  nested : is_root (kind s i) ≡ false → (k : ℕ) → k < 6 → is_open s i k ≡ true → Witness 2 (inside s i k (parent s i))
  unfolding nested_fine
  nested r k l o =
      or_case (not (is_open s i k)) (any_below 2 (inside s i k (parent s i)))
      (all_at 6 (λ k. not (is_open s i k) || any_below 2 (inside s i k (parent s i))) (rw r at ok.nested) k l)
      (λ c. contradiction o (not_true c))
      (λ a. any_some 2 (inside s i k (parent s i)) a)

-- an address in open range k
pub in_parts : (s : List ℕ) (i a k : ℕ) → in_range s i a k ≡ true
    → (is_open s i k ≡ true) × (leb (first s i k) a ≡ true) × (leb a (last s i k) ≡ true)
unfolding in_range
in_parts s i a k r =
    let (o, x) = both (is_open s i k) (leb (first s i k) a && leb a (last s i k)) r in
    let (f, l) = both (leb (first s i k) a) (leb a (last s i k)) x in
    (o, f, l)

-- is in the window that the range lies inside
inside_in : (s : List ℕ) (i k p m a : ℕ) → inside s i k p m ≡ true → in_range s i a k ≡ true → in_range s p a m ≡ true
unfolding inside in_range
inside_in s i k p m a h r =
    let (o, h2) = both (is_open s p m) (leb (first s p m) (first s i k) && leb (last s i k) (last s p m)) h in
    let (h3, h4) = both (leb (first s p m) (first s i k)) (leb (last s i k) (last s p m)) h2 in
    let (_, f, l) = in_parts s i a k r in
    and_both o (and_both (leb_trans (first s p m) (first s i k) a h3 f) (leb_trans a (last s i k) (last s p m) l h4))

holds_nest : (s : List ℕ) (i : ℕ) → Keeps s i → is_root (kind s i) ≡ false
    → (a : ℕ) → holds s i a ≡ true → holds s (parent s i) a ≡ true
unfolding holds
holds_nest s i ok r a h =
    let x : Witness 6 (in_range s i a) = any_some 6 (in_range s i a) h in
    let y : Witness 2 (inside s i x.which (parent s i)) = nested s i ok r x.which x.below (in_parts s i a x.which x.passes).0 in
    some_any 6 (in_range s (parent s i) a) y.which (omega arith)
    (inside_in s i x.which (parent s i) y.which a y.passes x.passes)

-- what the rules of an accepted snapshot's records give

module _ (s : List ℕ) (clean : lowest_faulty s ≡ None) where
  pub all_keep : (i : ℕ) → i < count s → Keeps s i
  all_keep i l = keeps s i (all_fine s clean i l)

  pub well_formed : WellFormed (shape_of s)
  unfolding shape_of
  well_formed =
      record {
        lower = λ i l r. ltb-true _ _ (stands s i (all_keep i l) r).0;
        parentless = λ i l r. no_parent s i (all_keep i l) r;
        under_upstream = λ i l d. upstream_above s i (all_keep i l) d;
        under_port = λ i l n. port_above s i (all_keep i l) n;
      }

  pub nested_covers : Nested (shape_of s)
  unfolding shape_of
  nested_covers =
      record {
        holds_above = λ i l r. holds_nest s i (all_keep i l) r;
        own_bus = λ i l r. own_bus_above s i (all_keep i l) r;
        buses = λ i l n. buses_in_order s i (all_keep i l) n;
        buses_above = λ i l r n. buses_inside s i (all_keep i l) r n;
      }
