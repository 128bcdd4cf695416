-- The laws of the crate cover: covering and the searches by it, from what the readers and the branches of the code say.
use mathlib.Core.Path.{◌≡◌, sym, ◌∙◌, ap}
use mathlib.Core.Bool.{Bool, true, false, not, and-false}
use mathlib.Core.List.{List}
use Prim.Native.Nat.{ℕ, ◌+◌, ◌-◌, ◌≤◌, ◌<◌}
use native.Mathlib.Omega.{arith}
use lib.Dec.{eqb, ltb}
use borrow.Author.Tests.{eq-eqb, ne_eqb, ltb-true}
use Rattle.rules.specs.declared.Bus.{Bus}
use Rattle.rules.specs.declared.Target.{Target}
use Rattle.rules.specs.declared.Target.TheVariants.{Address, Id}
use Rattle.rules.specs.declared.Tlp.{Tlp}
use Rattle.rules.specs.Snapshot.{count, kind, parent, own_bus, devfn, secondary, subordinate, first, last, closed, is_root, is_endpoint, is_port}
use Rattle.rules.specs.Below.{any_below, find_from}
use Rattle.rules.specs.Bytes.{within}
use Rattle.rules.specs.Records.{range_fine, ranges_fine, Keeps}
use Rattle.rules.specs.Fabric.{in_range, holds, shape_of}
use Rattle.rules.specs.Cover.{covers_target, covers, is_peer, peer_of, is_entry, entry_for, is_child, child_for, is_way_on, way_on}
use Rattle.rules.specs.Accepted.{Accepted}
use Rattle.rules.proofs.Logic.{contradiction, either, or_case, and_right_false}
use Rattle.rules.proofs.Loops.{any_cut, all_at, find_all, find_after, find_behind}
use Rattle.rules.proofs.Sound.{all_keep, kind_range, bridge}
use Rattle.cover.specs.Parts.{SiblingsFrom, ranges_used}

-- the ranges of a bridge that are no windows are closed, so that they have no address
closed_behind : (s : List ℕ) (i : ℕ) → Keeps s i → is_endpoint (kind s i) ≡ false → (a k : ℕ) → 2 ≤ k → k < 6 → in_range s i a k ≡ false
unfolding ranges_fine range_fine in_range
closed_behind s i ok n a k low l =
    let w = kind_range s i ok in
    let no : ltb k 2 ≡ false = either (ltb k 2) (λ p. absurd (omega (arith, ltb-true k 2 p))) (λ q. q) in
    or_case (closed (first s i k) (last s i k)) _ (all_at 6 (range_fine s i) ok.ranges k l)
    (λ c. rw c)
    (λ f. contradiction f (rw (bridge (kind s i) w.0 w.1 n, no)))

-- so that the ranges that a node uses decide
pub used_decide : (s : List ℕ) (i a : ℕ) {z : List ℕ} {j n : ℕ} → Accepted s → i < count s → z ≡ s → j ≡ i → n ≡ ranges_used (kind z j)
    → any_below n (in_range z j a) ≡ covers_target (shape_of s) (Address a) i
unfolding shape_of holds
used_decide s i a {z} {j} {n} ok l es ei hn =
    ap (λ (x : List ℕ). any_below n (in_range x j a)) es ∙ ap (λ (m : ℕ). any_below n (in_range s m a)) ei
    ∙ sym (any_cut (in_range s i a) n 6 (used_most n used) closed_above)
  where
    used : n ≡ ranges_used (kind s i)
    used = hn ∙ ap ranges_used (ap (λ (x : List ℕ). kind x j) es ∙ ap (kind s) ei)

    used_most : (m : ℕ) → m ≡ ranges_used (kind s i) → m ≤ 6
    used_most m e = either (is_endpoint (kind s i)) (λ p. let six : m ≡ 6 = e ∙ rw p in omega arith) (λ q. let two : m ≡ 2 = e ∙ rw q in omega arith)

    closed_above : (k : ℕ) → n ≤ k → k < 6 → in_range s i a k ≡ false
    closed_above k m b =
        either (is_endpoint (kind s i))
        (λ p. let six : n ≡ 6 = used ∙ rw p in absurd (omega arith))
        (λ q. let two : n ≡ 2 = used ∙ rw q in closed_behind s i (all_keep s ok.faultless i l) q a k (omega arith) b)

module _ (s : List ℕ) (bus : Bus) (d i : ℕ) where
  pub endpoint_yes : {x : Bool} → is_endpoint (kind s i) ≡ true → own_bus s i ≡ bus.0 → x ≡ eqb (devfn s i) d
      → x ≡ covers_target (shape_of s) (Id bus d) i
  unfolding shape_of
  endpoint_yes on e h = rw (on, eq-eqb (own_bus s i) bus.0 e) h

  pub endpoint_no : {x : Bool} → is_endpoint (kind s i) ≡ true → eqb (own_bus s i) bus.0 ≡ false → x ≡ false
      → x ≡ covers_target (shape_of s) (Id bus d) i
  unfolding shape_of
  endpoint_no on e h = rw (on, e) h

  pub at_bridge : {x : Bool} → is_endpoint (kind s i) ≡ false → x ≡ within (secondary s i) bus.0 (subordinate s i)
      → x ≡ covers_target (shape_of s) (Id bus d) i
  unfolding shape_of
  at_bridge off h = rw off h

pub by_target : (s : List ℕ) (t : Tlp) (i : ℕ) {g : Target} {r : Bool} → t.target ≡ g → r ≡ covers_target (shape_of s) g i
    → r ≡ covers (shape_of s) t i
unfolding covers
by_target s t i e h = rw e h

-- the tests of the searches, where the code leaves them

module _ (s : List ℕ) (t : Tlp) (p q : ℕ) {x : Bool} where
  pub peer_yes : is_port (kind s q) ≡ true → parent s q ≡ parent s p → not (eqb q p) ≡ true → x ≡ covers (shape_of s) t q
      → x ≡ is_peer (shape_of s) t p q
  unfolding is_peer shape_of
  peer_yes k e n h = rw (k, eq-eqb (parent s q) (parent s p) e, n) h

  pub peer_apart : (parent s q ≡ parent s p → ⊥) → x ≡ false → x ≡ is_peer (shape_of s) t p q
  unfolding is_peer shape_of
  peer_apart e h = rw (ne_eqb (parent s q) (parent s p) e) (h ∙ sym (simp and-false))

  pub peer_no_port : is_port (kind s q) ≡ false → x ≡ false → x ≡ is_peer (shape_of s) t p q
  unfolding is_peer shape_of
  peer_no_port k h = rw k h

  pub peer_itself : not (eqb q p) ≡ false → x ≡ false → x ≡ is_peer (shape_of s) t p q
  unfolding is_peer shape_of
  peer_itself n h = rw n (h ∙ sym (simp and-false))

module _ (s : List ℕ) (t : Tlp) (q : ℕ) {x : Bool} where
  pub entry_yes : is_root (kind s q) ≡ true → x ≡ covers (shape_of s) t q → x ≡ is_entry (shape_of s) t q
  unfolding is_entry shape_of
  entry_yes k h = rw k h

  pub entry_no : is_root (kind s q) ≡ false → x ≡ false → x ≡ is_entry (shape_of s) t q
  unfolding is_entry shape_of
  entry_no k h = rw k h

module _ (s : List ℕ) (t : Tlp) (c q : ℕ) {x : Bool} where
  pub way_yes : parent s q ≡ c → x ≡ covers (shape_of s) t q → x ≡ is_way_on (shape_of s) t c q
  unfolding is_way_on shape_of
  way_yes e h = rw (eq-eqb (parent s q) c e) h

  pub way_no : (parent s q ≡ c → ⊥) → x ≡ false → x ≡ is_way_on (shape_of s) t c q
  unfolding is_way_on shape_of
  way_no e h = rw (ne_eqb (parent s q) c e) h

-- the parent of a record that is no root port stands lower
pub parent_lower : (s : List ℕ) (p : ℕ) {a : ℕ} → Accepted s → p < count s → is_root (kind s p) ≡ false → a ≡ parent s p → a < p
unfolding shape_of
parent_lower s p ok l r e = let b : parent s p < p = ok.formed.lower p l r in omega arith

-- where a search for siblings may begin: for all but root ports behind the parent, since parents stand lower
pub siblings_behind : (s : List ℕ) (p : ℕ) {a : ℕ} → Accepted s → p < count s → a ≡ parent s p → a < p → SiblingsFrom s p (a + 1)
unfolding shape_of
siblings_behind s p ok l e b =
    let few : count s ≤ 256 = ok.few in
    record {
      within = omega arith;
      none_before = λ j m. either (is_root (kind s j))
          (λ r. let top : parent s j ≡ 65535 = ok.formed.parentless j (omega arith) r in ne_eqb (parent s j) (parent s p) (λ z. omega arith))
          (λ n. let up : parent s j < j = ok.formed.lower j (omega arith) n in ne_eqb (parent s j) (parent s p) (λ z. omega arith));
    }

-- the searches, which begin where no node before can be found

no_peer : (s : List ℕ) (t : Tlp) (p j : ℕ) → eqb (parent s j) (parent s p) ≡ false → is_peer (shape_of s) t p j ≡ false
unfolding is_peer shape_of
no_peer s t p j h = rw (and_right_false (is_port (kind s j)) (eqb (parent s j) (parent s p)) h)

pub peers_found : (s : List ℕ) (t : Tlp) (p : ℕ) {n r : ℕ} → n ≡ count s → SiblingsFrom s p r
    → find_from (is_peer (shape_of s) t p) (n - r) r ≡ peer_of (shape_of s) t p
unfolding peer_of shape_of
peers_found s t p {n} {r} e b =
    find_after (is_peer (shape_of s) t p) n (count s) r e
    ∙ find_behind (is_peer (shape_of s) t p) (count s) r b.within (λ j l. no_peer s t p j (b.none_before j l))

pub entry_found : (s : List ℕ) (t : Tlp) {n : ℕ} → n ≡ count s → find_from (is_entry (shape_of s) t) (n - 0) 0 ≡ entry_for (shape_of s) t
unfolding entry_for shape_of
entry_found s t {n} e = find_all (is_entry (shape_of s) t) n (count s) e

pub child_found : (s : List ℕ) (t : Tlp) (p : ℕ) {n : ℕ} → n ≡ count s
    → find_from (is_child (shape_of s) t p) (n - (p + 1)) (p + 1) ≡ child_for (shape_of s) t p
unfolding child_for shape_of
child_found s t p {n} e = find_after (is_child (shape_of s) t p) n (count s) (p + 1) e

pub way_found : (s : List ℕ) (t : Tlp) (c : ℕ) {n : ℕ} → n ≡ count s
    → find_from (is_way_on (shape_of s) t c) (n - (c + 1)) (c + 1) ≡ way_on (shape_of s) t c
unfolding way_on shape_of
way_found s t c {n} e = find_after (is_way_on (shape_of s) t c) n (count s) (c + 1) e
