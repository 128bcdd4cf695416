-- At most one sibling covers a TLP, and a port has at most one child.
use mathlib.Core.Path.{◌≡◌, sym, ◌∙◌}
use mathlib.Core.Bool.{Bool, true, false, ◌&&◌, not}
use mathlib.Core.List.{List}
use Prim.Native.Nat.{ℕ, ◌≤◌, ◌<◌}
use native.Mathlib.Omega.{arith}
use lib.Dec.{leb}
use borrow.Author.Tests.{eqb-true, eqb-false, eq-eqb}
use Rattle.rules.specs.declared.Target.{Target}
use Rattle.rules.specs.declared.Target.TheVariants.{Address, Id}
use Rattle.rules.specs.declared.Tlp.{Tlp}
use Rattle.rules.specs.Below.{any_below}
use Rattle.rules.specs.Bytes.{within}
use Rattle.rules.specs.Snapshot.{count, kind, parent, secondary, subordinate, first, last, is_root, is_upstream, is_downstream, is_endpoint, is_port}
use Rattle.rules.specs.Snapshot.{is_bridge}
use Rattle.rules.specs.Records.{no_sibling, siblings, under_port, only_child, buses_meet, buses_apart, overlap, ranges_meet, ranges_apart, Keeps, lowest_faulty}
use Rattle.rules.specs.Fabric.{in_range, holds, shape_of}
use Rattle.rules.specs.Cover.{covers_target, covers, is_child}
use Rattle.rules.specs.Properties.{WellFormed, OneWay}
use Rattle.rules.proofs.Logic.{contradiction, both, and_both, either, not_true, or_case, or_false, or_right, leb_trans}
use Rattle.rules.proofs.Loops.{Witness, any_some, some_any, any_false}
use Rattle.rules.proofs.Covered.{parent_present, under_no_port}
use Rattle.rules.proofs.Steps.{peer_parts, entry_parts, way_parts}
use Rattle.rules.proofs.Sound.{in_parts, port_no_endpoint, all_keep, kind_range, bridge}
use Rattle.std.specs.Prelude.{None}

-- no earlier sibling passes a test
no_sibling_lem : (s : List ℕ) (i j : ℕ) (f : ℕ → Bool) → no_sibling s i f ≡ true → j < i → parent s i ≡ parent s j → f j ≡ false
no_sibling_lem s i j f h l e = rw (eq-eqb _ _ e) at (any_false i (λ j. siblings s i j && f j) (not_true h) j l)

-- what the rules say of a record and an earlier sibling
record Apart (s : List ℕ) (i j : ℕ) : Type 0 where
  alone : under_port (kind s i) ≡ false
  buses : buses_meet s i j ≡ false
  ranges : ranges_meet s i j ≡ false

apart : (s : List ℕ) (i j : ℕ) → Keeps s i → j < i → parent s i ≡ parent s j → Apart s i j
unfolding only_child buses_apart ranges_apart
apart s i j ok l e =
    record {
      alone = or_case (not (under_port (kind s i))) (not (any_below i (siblings s i))) ok.only_child (λ p. not_true p)
          (λ p. contradiction (some_any i (siblings s i) j l (eq-eqb _ _ e)) (not_true p));
      buses = no_sibling_lem s i j (buses_meet s i) ok.buses_apart l e;
      ranges = no_sibling_lem s i j (ranges_meet s i) ok.ranges_apart l e;
    }

-- two ranges with one address overlap
overlap_at : (s : List ℕ) (i k j m a : ℕ) → in_range s i a k ≡ true → in_range s j a m ≡ true → overlap s i k j m ≡ true
unfolding overlap
overlap_at s i k j m a x y =
    let (o, x1, x2) = in_parts s i a k x in
    let (n, y1, y2) = in_parts s j a m y in
    and_both o (and_both n (and_both (leb_trans (first s i k) a (last s j m) x1 y2) (leb_trans (first s j m) a (last s i k) y1 x2)))

ranges_at : (s : List ℕ) (i j a : ℕ) → holds s i a ≡ true → holds s j a ≡ true → ranges_meet s i j ≡ true
unfolding holds ranges_meet
ranges_at s i j a x y =
    let k : Witness 6 (in_range s i a) = any_some 6 (in_range s i a) x in
    let m : Witness 6 (in_range s j a) = any_some 6 (in_range s j a) y in
    some_any 6 (λ k. any_below 6 (overlap s i k j)) k.which k.below
    (some_any 6 (overlap s i k.which j) m.which m.below (overlap_at s i k.which j m.which a k.passes m.passes))

-- two bridges with one bus meet
buses_at : (s : List ℕ) (i j b : ℕ) → is_bridge (kind s i) ≡ true → is_bridge (kind s j) ≡ true
    → within (secondary s i) b (subordinate s i) ≡ true → within (secondary s j) b (subordinate s j) ≡ true → buses_meet s i j ≡ true
unfolding buses_meet
buses_at s i j b bi bj x y =
    let (x1, x2) = both (leb (secondary s i) b) (leb b (subordinate s i)) x in
    let (y1, y2) = both (leb (secondary s j) b) (leb b (subordinate s j)) y in
    and_both (and_both (and_both bi bj) (leb_trans (secondary s i) b (subordinate s j) x1 y2)) (leb_trans (secondary s j) b (subordinate s i) y1 x2)

module _ (s : List ℕ) (clean : lowest_faulty s ≡ None) (wf : WellFormed (shape_of s)) (few : count s ≤ 256) where
  -- a record that may have siblings is a port
  not_alone : (i : ℕ) → i < count s → under_port (kind s i) ≡ false → is_port (kind s i) ≡ true
  not_alone i l a =
      let (u, e) = or_false (is_upstream (kind s i)) (is_endpoint (kind s i)) a in
      let (x, y) = kind_range s i (all_keep s clean i l) in
      let lo : 1 ≤ kind s i = x in
      let hi : kind s i ≤ 4 = y in
      let n2 : kind s i ≡ 2 → ⊥ = eqb-false _ _ u in
      let n4 : kind s i ≡ 4 → ⊥ = eqb-false _ _ e in
      either (is_root (kind s i)) (λ r. rw r)
      (λ r. let n1 : kind s i ≡ 1 → ⊥ = eqb-false _ _ r in
      or_right (is_root (kind s i)) (is_downstream (kind s i)) (eq-eqb (kind s i) 3 (omega (arith, n1, n2, n4))))

  -- and so is a sibling of a port
  sibling_port : (i j : ℕ) → i < count s → j < count s → parent s i ≡ parent s j → is_port (kind s i) ≡ true → is_port (kind s j) ≡ true
  unfolding shape_of
  sibling_port i j l m e k =
      either (is_port (kind s j)) (λ x. x)
      (λ n.
      let nr : is_root (kind s j) ≡ false = (or_false (is_root (kind s j)) (is_downstream (kind s j)) n).0 in
      contradiction k (under_no_port (shape_of s) wf few (parent s j) i (parent_present (shape_of s) wf j m nr) (wf.under_port j m n) l e))

  port_bridge : (i : ℕ) → i < count s → is_port (kind s i) ≡ true → (is_endpoint (kind s i) ≡ false) × (is_bridge (kind s i) ≡ true)
  port_bridge i l k =
      let n : is_endpoint (kind s i) ≡ false = port_no_endpoint (kind s i) k in
      (n, bridge (kind s i) (kind_range s i (all_keep s clean i l)).0 (kind_range s i (all_keep s clean i l)).1 n)

  -- a record and an earlier sibling cannot both cover
  earlier : (g : Target) (i j : ℕ) → i < count s → j < i → parent s i ≡ parent s j
      → covers_target (shape_of s) g i ≡ true → covers_target (shape_of s) g j ≡ true → ⊥
  unfolding shape_of
  earlier (Address a) i j l b e x y = contradiction (ranges_at s i j a x y) (apart s i j (all_keep s clean i l) b e).ranges
  earlier (Id bus devfn) i j l b e x y =
      let z : Apart s i j = apart s i j (all_keep s clean i l) b e in
      let port-i : is_port (kind s i) ≡ true = not_alone i l z.alone in
      let j-in : j < count s = omega arith in
      let port-j : is_port (kind s j) ≡ true = sibling_port i j l j-in e port-i in
      let (ni, bi) = port_bridge i l port-i in
      let (nj, bj) = port_bridge j j-in port-j in
      contradiction (buses_at s i j bus.0 bi bj (rw ni at x) (rw nj at y)) z.buses

  pub one_covers : (t : Tlp) (i j : ℕ) → i < count s → j < count s → parent s i ≡ parent s j
      → covers (shape_of s) t i ≡ true → covers (shape_of s) t j ≡ true → i ≡ j
  unfolding covers
  one_covers t i j l m e x y =
      let a : i < j → ⊥ = λ b. earlier t.target j i m b (sym e) y x in
      let b : j < i → ⊥ = λ b. earlier t.target i j l b e x y in
      omega (arith, a, b)

  -- of two children of a port the later would be a port
  later_child : (p b c : ℕ) → p < count s → is_port (kind s p) ≡ true → b < count s → c < b → parent s b ≡ p → parent s c ≡ p → ⊥
  unfolding shape_of
  later_child p b c l k m d e f =
      contradiction (not_alone b m (apart s b c (all_keep s clean b m) d (e ∙ sym f)).alone) (under_no_port (shape_of s) wf few p b l k m e)

  pub one_child : (p b c : ℕ) → p < count s → is_port (kind s p) ≡ true → b < count s → c < count s → parent s b ≡ p → parent s c ≡ p
      → b ≡ c
  one_child p b c l k m n e f =
      let x : c < b → ⊥ = λ d. later_child p b c l k m d e f in
      let y : b < c → ⊥ = λ d. later_child p c b l k n d f e in
      omega (arith, x, y)

  pub one_way : (t : Tlp) → OneWay (shape_of s) t
  unfolding shape_of is_child
  one_way t =
      record {
        sibling = one_covers t;
        peer = λ p q r l m x y.
            let (_, a, c) = peer_parts (shape_of s) t p q x in
            let (_, b, d) = peer_parts (shape_of s) t p r y in
            one_covers t q r l m (a ∙ sym b) c d;
        entry = λ q r l m x y.
            let (a, c) = entry_parts (shape_of s) t q x in
            let (b, d) = entry_parts (shape_of s) t r y in
            one_covers t q r l m (wf.parentless q l a ∙ sym (wf.parentless r m b)) c d;
        way_on = λ n q r l m x y.
            let (a, c) = way_parts (shape_of s) t n q x in
            let (b, d) = way_parts (shape_of s) t n r y in
            one_covers t q r l m (a ∙ sym b) c d;
        child = λ p b c l k m n x y. one_child p b c l k m n (eqb-true _ _ x) (eqb-true _ _ y);
      }
