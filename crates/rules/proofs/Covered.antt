-- Covering goes up the tree, and what that means for a TLP that is sent up.
use mathlib.Core.Path.{◌≡◌, refl, sym, subst}
use mathlib.Core.Bool.{Bool, true, false, not}
use Prim.Native.Nat.{ℕ, ◌≤◌, ◌<◌}
use native.Mathlib.Omega.{arith}
use lib.Dec.{eqb, leb}
use borrow.Author.Tests.{eqb-true, leb-true, le-leb}
use Rattle.rules.specs.declared.Letter.TheVariants.{Source, Translation, Egress, Validation}
use Rattle.rules.specs.declared.Outcome.{Outcome}
use Rattle.rules.specs.declared.Outcome.TheVariants.{Delivered, Host, Unclaimed, Undefined, Violated}
use Rattle.rules.specs.declared.Landing.{Landing}
use Rattle.rules.specs.declared.Landing.TheVariants.{Arrives, Nobody}
use Rattle.rules.specs.declared.Down.{Down}
use Rattle.rules.specs.declared.Down.TheVariants.{Into, Lands, Alone}
use Rattle.rules.specs.declared.Target.{Target}
use Rattle.rules.specs.declared.Target.TheVariants.{Address, Id}
use Rattle.rules.specs.declared.Tlp.{Tlp}
use Rattle.rules.specs.Bytes.{within}
use Rattle.rules.specs.Snapshot.{is_root, is_upstream, is_downstream, is_endpoint, is_port, complex}
use Rattle.rules.specs.Fabric.{Shape, Setting}
use Rattle.rules.specs.Cover.{covers_target, covers, is_entry, entry_for}
use Rattle.rules.specs.Route.{Trip, lands_at, landed, next_down, hop_down, down, from_top, above, hop_up, up}
use Rattle.rules.specs.Properties.{Nested, WellFormed, was_sent_up, Answerable}
use Rattle.rules.proofs.Logic.{contradiction, among_case, both, and_both, either}
use Rattle.rules.proofs.Loops.{find_none}
use Rattle.rules.proofs.Sound.{downstream_port, port_no_endpoint}
use Rattle.rules.proofs.Steps.{Descending, next_descending, down_induction, Claims, peer_claims, decide_case, Ascends, ascends, up_induction, entry_in}
use Rattle.std.specs.Prelude.{None}

-- a delivery that is not checked is unvalidated
abbrev pub unvalidated : Outcome → Bool
unvalidated (Delivered i checked) = not checked
unvalidated Host = false
unvalidated (Unclaimed i) = false
unvalidated (Undefined i) = false
unvalidated (Violated letter p abort) = false

pub upstream_no_root : (k : ℕ) → is_upstream k ≡ true → is_root k ≡ false
upstream_no_root k h = let e : k ≡ 2 = eqb-true _ _ h in rw e

module _ (sh : Shape) (wf : WellFormed sh) where
  pub parent_present : (i : ℕ) → i < sh.count → is_root (sh.kind i) ≡ false → sh.parent i < sh.count
  parent_present i l r = let m : sh.parent i < i = wf.lower i l r in omega arith

  parent_no_endpoint : (i : ℕ) → i < sh.count → is_root (sh.kind i) ≡ false → is_endpoint (sh.kind (sh.parent i)) ≡ false
  parent_no_endpoint i l r =
      either (is_downstream (sh.kind i))
      (λ d. let e : sh.kind (sh.parent i) ≡ 2 = eqb-true _ _ (wf.under_upstream i l d) in rw e)
      (λ n. port_no_endpoint (sh.kind (sh.parent i)) (wf.under_port i l (rw (r, n))))

  module _ (few : sh.count ≤ 256) where
    -- a record whose parent is a record is no root port
    pub standing : (i : ℕ) → i < sh.count → sh.parent i < sh.count → is_root (sh.kind i) ≡ false
    standing i l m =
        either (is_root (sh.kind i)) (λ r. let e : sh.parent i ≡ complex = wf.parentless i l r in absurd (omega arith)) (λ r. r)

    -- a sibling of a root port is one
    pub sibling_root : (p q : ℕ) → p < sh.count → q < sh.count → sh.parent q ≡ sh.parent p → is_root (sh.kind p) ≡ true
        → is_root (sh.kind q) ≡ true
    sibling_root p q l m e r =
        either (is_root (sh.kind q)) (λ x. x)
        (λ n. contradiction r (standing p l (subst (λ (k : ℕ). k < sh.count) e (parent_present q m n))))

    -- what stands under a port is no port
    pub under_no_port : (p i : ℕ) → p < sh.count → is_port (sh.kind p) ≡ true → i < sh.count → sh.parent i ≡ p
        → is_port (sh.kind i) ≡ false
    under_no_port p i l k m e = rw (standing i m (rw e l), no_downstream)
      where
        no_downstream : is_downstream (sh.kind i) ≡ false
        no_downstream =
            either (is_downstream (sh.kind i))
            (λ d. let two : sh.kind p ≡ 2 = eqb-true _ _ (rw e at (wf.under_upstream i m d)) in contradiction k (rw two)) (λ d. d)

module _ (sh : Shape) (wf : WellFormed sh) (nest : Nested sh) where
  -- a bus of record i is one of its parent's
  bus_above : (i : ℕ) → i < sh.count → is_root (sh.kind i) ≡ false → is_endpoint (sh.kind i) ≡ false
      → (b : ℕ) → within (sh.secondary i) b (sh.subordinate i) ≡ true
      → within (sh.secondary (sh.parent i)) b (sh.subordinate (sh.parent i)) ≡ true
  bus_above i l r n b h =
      let (a, c) = both (leb (sh.secondary i) b) (leb b (sh.subordinate i)) h in
      let x : sh.secondary i ≤ b = leb-true _ _ a in
      let y : b ≤ sh.subordinate i = leb-true _ _ c in
      let o : sh.own_bus i ≡ sh.secondary (sh.parent i) = nest.own_bus i l r in
      let k : sh.own_bus i < sh.secondary i = (nest.buses i l n).0 in
      let m : sh.subordinate i ≤ sh.subordinate (sh.parent i) = nest.buses_above i l r n in
      and_both (le-leb (sh.secondary (sh.parent i)) b (omega arith)) (le-leb b (sh.subordinate (sh.parent i)) (omega arith))

  -- an endpoint's own bus is one of its port's
  own_bus_above : (i : ℕ) → i < sh.count → is_root (sh.kind i) ≡ false → (b : ℕ) → sh.own_bus i ≡ b
      → within (sh.secondary (sh.parent i)) b (sh.subordinate (sh.parent i)) ≡ true
  own_bus_above i l r b e =
      let o : sh.own_bus i ≡ sh.secondary (sh.parent i) = nest.own_bus i l r in
      let k : sh.secondary (sh.parent i) ≤ sh.subordinate (sh.parent i) =
      (nest.buses (sh.parent i) (parent_present sh wf i l r) (parent_no_endpoint sh wf i l r)).1 in
      and_both (le-leb (sh.secondary (sh.parent i)) b (omega arith)) (le-leb b (sh.subordinate (sh.parent i)) (omega arith))

  -- what record i covers its parent covers
  target_above : (i : ℕ) → i < sh.count → is_root (sh.kind i) ≡ false → (g : Target)
      → covers_target sh g i ≡ true → covers_target sh g (sh.parent i) ≡ true
  target_above i l r (Address a) h = nest.holds_above i l r a h
  target_above i l r (Id bus devfn) h =
      rw (parent_no_endpoint sh wf i l r)
      (either (is_endpoint (sh.kind i))
      (λ e. own_bus_above i l r bus.0 (eqb-true _ _ (both (eqb (sh.own_bus i) bus.0) (eqb (sh.devfn i) devfn) (rw e at h)).0))
      (λ n. bus_above i l r n bus.0 (rw n at h)))

  pub covers_above : (t : Tlp) (i : ℕ) → i < sh.count → is_root (sh.kind i) ≡ false → covers sh t i ≡ true
      → covers sh t (sh.parent i) ≡ true
  unfolding covers
  covers_above t i l r h = target_above i l r t.target h

  -- what a port or its sibling covers the port above covers
  pub claimed_above : sh.count ≤ 256 → (t : Tlp) (p q : ℕ) → p < sh.count → is_port (sh.kind p) ≡ true → is_root (sh.kind p) ≡ false
      → Claims sh t p q
      → covers sh t (above sh p) ≡ true
  claimed_above few t p q l k r c =
      let nr : is_root (sh.kind q) ≡ false =
      either (is_root (sh.kind q)) (λ x. contradiction (sibling_root sh wf few q p c.present l (sym c.sibling) x) r) (λ x. x) in
      let two : is_upstream (sh.kind (sh.parent p)) ≡ true = wf.under_upstream p l (downstream_port (sh.kind p) k r) in
      let at-two : covers sh t (sh.parent p) ≡ true =
      subst (λ (m : ℕ). covers sh t m ≡ true) c.sibling (covers_above t q c.present nr c.covering) in
      covers_above t (sh.parent p) (parent_present sh wf p l r) (upstream_no_root (sh.kind (sh.parent p)) two) at-two

-- the way down

-- it lands at a record
pub landing_present : (sh : Shape) (t : Tlp) (p : ℕ) → p < sh.count → lands_at (down sh t p).landing < sh.count
landing_present sh t =
    down_induction sh t (λ p w. lands_at w.landing < sh.count) (λ p l rec. go p l rec (next_down sh t p) (next_descending sh t p l))
  where
    go : (p : ℕ) → p < sh.count → ((q : ℕ) → p < q → q < sh.count → lands_at (down sh t q).landing < sh.count)
        → (d : Down) → Descending sh.count p d → lands_at (hop_down p d (down sh t)).landing < sh.count
    go p l rec (Into q) b = rec q (omega arith) b.1
    go p l rec (Lands x) b = b.1
    go p l rec Alone b = l

-- no hop of it was sent up
pub down_not_sent : (sh : Shape) (t : Tlp) (p : ℕ) → p < sh.count → was_sent_up (down sh t p).hops ≡ false
down_not_sent sh t =
    down_induction sh t (λ p w. was_sent_up w.hops ≡ false) (λ p l rec. go p l rec (next_down sh t p) (next_descending sh t p l))
  where
    go : (p : ℕ) → p < sh.count → ((q : ℕ) → p < q → q < sh.count → was_sent_up (down sh t q).hops ≡ false)
        → (d : Down) → Descending sh.count p d → was_sent_up (hop_down p d (down sh t)).hops ≡ false
    go p l rec (Into q) b = rec q (omega arith) b.1
    go p l rec (Lands x) b = refl
    go p l rec Alone b = refl

pub top_not_sent : (sh : Shape) (t : Tlp) (c : Bool) → was_sent_up (from_top sh t c).hops ≡ false
unfolding from_top
top_not_sent sh t c =
    among_case (λ (r : Trip). was_sent_up r.hops ≡ false) (entry_for sh t) (λ q e. down_not_sent sh t q (entry_in sh t q e)) (λ _. refl)

-- a checked landing at a record is answerable
landed_answerable : (x : Landing) → (lands_at x ≡ complex → ⊥) → Answerable (landed true x)
landed_answerable (Arrives i) h = refl
landed_answerable (Nobody i) h = h

-- a reflected TLP that is delivered is checked
pub checked_validated : (sh : Shape) (t : Tlp) → unvalidated (from_top sh t true).end ≡ false
unfolding from_top
checked_validated sh t =
    among_case (λ (r : Trip). unvalidated r.end ≡ false) (entry_for sh t) (λ q _. landed_validated (down sh t q).landing) (λ _. refl)
  where
    landed_validated : (x : Landing) → unvalidated (landed true x) ≡ false
    landed_validated (Arrives i) = refl
    landed_validated (Nobody i) = refl

pub answerable_validated : (e : Outcome) → Answerable e → unvalidated e ≡ false
answerable_validated (Delivered i checked) h = rw h
answerable_validated Host h = refl
answerable_validated (Unclaimed i) h = refl
answerable_validated (Undefined i) h = refl
answerable_validated (Violated letter p abort) h = refl

source_no_egress : Source ≡ Egress → ⊥
source_no_egress e = let z : ◌≡◌ {A = ℕ} 0 1 = cc in absurd (omega arith)

translation_no_egress : Translation ≡ Egress → ⊥
translation_no_egress e = let z : ◌≡◌ {A = ℕ} 0 1 = cc in absurd (omega arith)

validation_no_egress : Validation ≡ Egress → ⊥
validation_no_egress e = let z : ◌≡◌ {A = ℕ} 0 1 = cc in absurd (omega arith)

module _ (sh : Shape) (st : Setting) (t : Tlp) (wf : WellFormed sh) (nest : Nested sh) (few : sh.count ≤ 256) where
  -- a root port that covers the TLP: there is a way down
  entry_some : (q : ℕ) → q < sh.count → is_root (sh.kind q) ≡ true → covers sh t q ≡ true → entry_for sh t ≡ None → ⊥
  unfolding entry_for is_entry
  entry_some q l r c none = contradiction (and_both r c) (find_none (is_entry sh t) sh.count 0 none q (omega arith) (omega arith))

  -- what a root port reflects because it or a sibling covers it is answerable
  reflected_answerable : (p q : ℕ) → p < sh.count → is_root (sh.kind p) ≡ true → Claims sh t p q → Answerable (from_top sh t true).end
  unfolding from_top
  reflected_answerable p q l r c =
      among_case (λ (x : Trip). Answerable x.end) (entry_for sh t)
      (λ e f. landed_answerable (down sh t e).landing
      (λ z. let m : lands_at (down sh t e).landing < sh.count = landing_present sh t e (entry_in sh t e f) in omega arith))
      (λ none. absurd (entry_some q c.present (sibling_root sh wf few p q l c.present c.sibling r) c.covering none))

  -- a TLP that enters a port which covers it
  pub covered_answerable : (p : ℕ) → p < sh.count → is_port (sh.kind p) ≡ true → covers sh t p ≡ true → Answerable (up sh st t p).end
  covered_answerable =
      up_induction sh st t wf (λ p r. covers sh t p ≡ true → Answerable r.end) λ p l k rec.
      decide_case sh st t p l k (λ m. covers sh t p ≡ true → Answerable (hop_up sh t p m (up sh st t)).end)
      (record {
        by_v = λ _ _. source_no_egress;
        by_b = λ _ _ _. translation_no_egress;
        undefined = λ _ _ _ _. tt;
        sent_up = λ _ a _ q c r _. rec r (claimed_above sh wf nest few t p q l k r c);
        blocked = λ _ _ _ _ _ _. validation_no_egress;
        reflects = λ _ q c r _ _. reflected_answerable p q l r c;
        by_e = λ _ n _ _ _ o. contradiction o n;
        apart = λ _ n _ _ _ _ o. contradiction o n;
        across = λ _ n _ _ _ _ o. contradiction o n;
        to_host = λ _ n _ _ o. contradiction o n;
        at_parent = λ _ n _ _ _ o. contradiction o n;
        addressed = λ _ n _ _ _ o. contradiction o n;
      })

  -- a TLP of which some hop was sent up
  pub sent_answerable : (p : ℕ) → p < sh.count → is_port (sh.kind p) ≡ true → was_sent_up (up sh st t p).hops ≡ true
      → Answerable (up sh st t p).end
  sent_answerable =
      up_induction sh st t wf (λ p r. was_sent_up r.hops ≡ true → Answerable r.end) λ p l k rec.
      decide_case sh st t p l k
      (λ m. was_sent_up (hop_up sh t p m (up sh st t)).hops ≡ true → Answerable (hop_up sh t p m (up sh st t)).end)
      (record {
        by_v = λ _ _. source_no_egress;
        by_b = λ _ _ _. translation_no_egress;
        undefined = λ _ _ _ _. tt;
        sent_up = λ _ a _ q c r _. let x : Ascends sh p = ascends sh wf p l k r in
            covered_answerable (above sh p) x.present x.port (claimed_above sh wf nest few t p q l k r c);
        blocked = λ _ _ _ _ _ _. validation_no_egress;
        reflects = λ _ q c r _ _. reflected_answerable p q l r c;
        by_e = λ _ _ _ _ _ s. contradiction s refl;
        apart = λ _ _ _ _ _ _ s. contradiction s refl;
        across = λ _ _ q e _ _ s. contradiction s (down_not_sent sh t q (peer_claims sh t p q e).present);
        to_host = λ _ _ _ _ s. contradiction s refl;
        at_parent = λ _ _ _ _ _ s. contradiction s refl;
        addressed = λ _ _ _ r _ s. rec r s;
      })
