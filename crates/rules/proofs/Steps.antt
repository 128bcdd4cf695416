-- The walks without their fuel: one step down, one step up, and what each decision leads to.
use mathlib.Core.Path.{◌≡◌, refl, sym, ap, subst}
use mathlib.Core.Bool.{Bool, true, false, ◌&&◌, not}
use Prim.Native.Nat.{ℕ, zero, suc, ◌+◌, ◌-◌, ◌≤◌, ◌<◌}
use native.Mathlib.Omega.{arith}
use lib.Dec.{eqb}
use borrow.Author.Tests.{eqb-true}
use Rattle.rules.specs.declared.Handling.{Handling}
use Rattle.rules.specs.declared.Handling.TheVariants.{Direct, Redirect, Violation}
use Rattle.rules.specs.declared.Letter.TheVariants.{Source, Translation, Egress, Validation}
use Rattle.rules.specs.declared.Outcome.TheVariants.{Host, Unclaimed, Undefined}
use Rattle.rules.specs.declared.Down.{Down}
use Rattle.rules.specs.declared.Down.TheVariants.{Into, Lands, Alone}
use Rattle.rules.specs.declared.Move.{Move}
use Rattle.rules.specs.declared.Move.TheVariants.{Up, Across, Reflect, Stop, Beyond}
use Rattle.rules.specs.declared.Tlp.{Tlp}
use Rattle.rules.specs.Below.{find_from}
use Rattle.rules.specs.Snapshot.{is_root, is_upstream, is_endpoint, is_port, complex}
use Rattle.rules.specs.Fabric.{Shape, Setting}
use Rattle.rules.specs.Cover.{covers, is_peer, peer_of, is_entry, entry_for, is_child, child_for, is_way_on, way_on}
use Rattle.rules.specs.Decide.{action_number, violation, blocks, at_the_top, sent_up, bad_source, bad_translation}
use Rattle.rules.specs.Decide.{own_range, peer_handling, direct, handled, to_peer, past_parent, onward, decide}
use Rattle.rules.specs.declared.Action.{Action}
use Rattle.rules.specs.declared.Action.TheVariants.{AsAddressed, DirectToPeer, RedirectedUp, UpByU}
use Rattle.rules.specs.Route.{Trip, Way, lands_at, through_child, next_down, hop_down, down_from, down, above, hop_up, up_from, up}
use Rattle.rules.specs.Properties.{WellFormed}
use Rattle.rules.proofs.Logic.{cond_case, among_case, both}
use Rattle.rules.proofs.Loops.{Hit, find_in}
use Rattle.rules.proofs.Sound.{downstream_port}
use Rattle.std.specs.Prelude.{Some, None}

-- what a search from above p finds
pub found_after : (sh : Shape) (p : ℕ) (f : ℕ → Bool) (q : ℕ) → p < sh.count
    → find_from f (sh.count - (p + 1)) (p + 1) ≡ Some q → (p < q) × (q < sh.count) × (f q ≡ true)
found_after sh p f q l h =
    let x : Hit f (sh.count - (p + 1)) (p + 1) q = find_in f (sh.count - (p + 1)) (p + 1) q h in
    (omega arith, omega arith, x.passes)

pub found_in : (sh : Shape) (f : ℕ → Bool) (q : ℕ) → find_from f sh.count 0 ≡ Some q → (q < sh.count) × (f q ≡ true)
found_in sh f q h = let x : Hit f sh.count 0 q = find_in f sh.count 0 q h in (omega arith, x.passes)

pub entry_in : (sh : Shape) (t : Tlp) (q : ℕ) → entry_for sh t ≡ Some q → q < sh.count
unfolding entry_for
entry_in sh t q h = (found_in sh (is_entry sh t) q h).0

-- the parts of the tests that the searches are made by

pub peer_parts : (sh : Shape) (t : Tlp) (p q : ℕ) → is_peer sh t p q ≡ true
    → (is_port (sh.kind q) ≡ true) × (sh.parent q ≡ sh.parent p) × (covers sh t q ≡ true)
unfolding is_peer
peer_parts sh t p q h =
    let (x, c) = both (is_port (sh.kind q) && eqb (sh.parent q) (sh.parent p) && not (eqb q p)) (covers sh t q) h in
    let (y, _) = both (is_port (sh.kind q) && eqb (sh.parent q) (sh.parent p)) (not (eqb q p)) x in
    let (k, e) = both (is_port (sh.kind q)) (eqb (sh.parent q) (sh.parent p)) y in
    (k, eqb-true _ _ e, c)

pub entry_parts : (sh : Shape) (t : Tlp) (q : ℕ) → is_entry sh t q ≡ true → (is_root (sh.kind q) ≡ true) × (covers sh t q ≡ true)
unfolding is_entry
entry_parts sh t q h = both (is_root (sh.kind q)) (covers sh t q) h

pub way_parts : (sh : Shape) (t : Tlp) (c q : ℕ) → is_way_on sh t c q ≡ true → (sh.parent q ≡ c) × (covers sh t q ≡ true)
unfolding is_way_on
way_parts sh t c q h = let (e, x) = both (eqb (sh.parent q) c) (covers sh t q) h in (eqb-true _ _ e, x)

-- going down

-- where a decision on the way down leads: above p, and to a record
abbrev pub Descending : ℕ → ℕ → Down → Type 0
Descending n p (Into q) = (p + 1 < q) × (q < n)
Descending n p (Lands l) = (p < lands_at l) × (lands_at l < n)
Descending n p Alone = Unit {0}

-- port q stands under a child of port p, and covers the TLP
pub record Passes (sh : Shape) (t : Tlp) (p q : ℕ) : Type 0 where
  pub via : ℕ
  pub via_present : via < sh.count
  pub via_below : sh.parent via ≡ p
  pub via_passes : is_endpoint (sh.kind via) ≡ false
  pub present : q < sh.count
  pub below : sh.parent q ≡ via
  pub covering : covers sh t q ≡ true

abbrev pub Leads : Shape → Tlp → ℕ → Down → Type 0
Leads sh t p (Into q) = Passes sh t p q
Leads sh t p (Lands l) = Unit {0}
Leads sh t p Alone = Unit {0}

module _ (sh : Shape) (t : Tlp) where
  child_descending : (p c : ℕ) → p < c → c < sh.count → Descending sh.count p (through_child sh t c)
  unfolding through_child way_on
  child_descending p c a b =
      cond_case (Descending sh.count p) (not (covers sh t c)) (λ _. (a, b)) λ _.
      cond_case (Descending sh.count p) (is_endpoint (sh.kind c)) (λ _. (a, b)) λ _.
      among_case (Descending sh.count p) (way_on sh t c)
      (λ q e. let x : (c < q) × (q < sh.count) × (is_way_on sh t c q ≡ true) = found_after sh c (is_way_on sh t c) q b e in (omega arith, x.1))
      (λ _. (a, b))

  pub next_descending : (p : ℕ) → p < sh.count → Descending sh.count p (next_down sh t p)
  unfolding next_down child_for
  next_descending p l =
      among_case (Descending sh.count p) (child_for sh t p)
      (λ c e. let x = found_after sh p (is_child sh t p) c l e in child_descending p c x.0 x.1) (λ _. tt)

  way_on_from : (p c : ℕ) → p < c → c < sh.count → sh.parent c ≡ p → Leads sh t p (through_child sh t c)
  unfolding through_child way_on
  way_on_from p c a b e =
      cond_case (Leads sh t p) (not (covers sh t c)) (λ _. tt) λ _.
      cond_case (Leads sh t p) (is_endpoint (sh.kind c)) (λ _. tt) λ n.
      among_case (Leads sh t p) (way_on sh t c)
      (λ q h.
      let (_, l, x) = found_after sh c (is_way_on sh t c) q b h in
      let (y, z) = way_parts sh t c q x in
      record { via = c; via_present = b; via_below = e; via_passes = n; present = l; below = y; covering = z })
      (λ _. tt)

  pub next_leads : (p : ℕ) → p < sh.count → Leads sh t p (next_down sh t p)
  unfolding next_down child_for is_child
  next_leads p l =
      among_case (Leads sh t p) (child_for sh t p)
      (λ c h. let (a, b, x) = found_after sh p (is_child sh t p) c l h in way_on_from p c a b (eqb-true _ _ x)) (λ _. tt)

  hop_same : (n p : ℕ) (d : Down) (on on' : ℕ → Way) → Descending n p d → ((q : ℕ) → p < q → q < n → on q ≡ on' q)
      → hop_down p d on ≡ hop_down p d on'
  hop_same n p (Into q) on on' b h = ap (λ (w : Way). hop_down p (Into q) (λ _. w)) (h q (omega arith) b.1)
  hop_same n p (Lands l) on on' b h = refl
  hop_same n p Alone on on' b h = refl

  -- fuel that reaches past the last record is enough
  down_fuel : (f g p : ℕ) → p < sh.count → sh.count - p ≤ f → sh.count - p ≤ g → down_from sh t f p ≡ down_from sh t g p
  unfolding down_from
  down_fuel zero g p l a b = absurd (omega arith)
  down_fuel (suc f) zero p l a b = absurd (omega arith)
  down_fuel (suc f) (suc g) p l a b =
      hop_same sh.count p (next_down sh t p) (down_from sh t f) (down_from sh t g) (next_descending p l)
      (λ q m k. down_fuel f g q k (omega arith) (omega arith))

  pub down_step : (p : ℕ) → p < sh.count → down sh t p ≡ hop_down p (next_down sh t p) (down sh t)
  unfolding down down_from
  down_step p l = down_fuel sh.count (suc sh.count) p l (omega arith) (omega arith)

-- going up

-- q is the port p or a sibling port of it, and covers the TLP
pub record Claims (sh : Shape) (t : Tlp) (p q : ℕ) : Type 0 where
  pub present : q < sh.count
  pub port : is_port (sh.kind q) ≡ true
  pub sibling : sh.parent q ≡ sh.parent p
  pub covering : covers sh t q ≡ true

pub peer_claims : (sh : Shape) (t : Tlp) (p q : ℕ) → peer_of sh t p ≡ Some q → Claims sh t p q
unfolding peer_of
peer_claims sh t p q h =
    let (l, x) = found_in sh (is_peer sh t p) q h in
    let (k, e, c) = peer_parts sh t p q x in
    record { present = l; port = k; sibling = e; covering = c }

-- steps 1 and 2 let the TLP pass
pub record Passed (sh : Shape) (st : Setting) (t : Tlp) (p : ℕ) : Type 0 where
  pub source : bad_source sh st t p ≡ false
  pub translation : bad_translation st t p ≡ false

-- a case for each way that steps 1 to 6 can go, with the tests that lead there
pub record DecideCases (sh : Shape) (st : Setting) (t : Tlp) (p : ℕ) (Q : Move → Type 0) : Type 0 where
  pub by_v : bad_source sh st t p ≡ true → Q (violation Source t p)
  pub by_b : bad_source sh st t p ≡ false → bad_translation st t p ≡ true → Q (violation Translation t p)
  pub undefined : Passed sh st t p → covers sh t p ≡ true → st.u p ≡ false → Q (Stop (Undefined p))
  pub sent_up : Passed sh st t p → (a : Action) → eqb (action_number a) (action_number AsAddressed) ≡ false → (q : ℕ) → Claims sh t p q
      → is_root (sh.kind p) ≡ false → Q (Up a)
  pub blocked : Passed sh st t p → (q : ℕ) → Claims sh t p q → is_root (sh.kind p) ≡ true → blocks sh t ≡ true → Q (violation Validation t p)
  pub reflects : Passed sh st t p → (q : ℕ) → Claims sh t p q → is_root (sh.kind p) ≡ true → blocks sh t ≡ false → Q Reflect
  pub by_e : Passed sh st t p → covers sh t p ≡ false → (q : ℕ) → peer_of sh t p ≡ Some q
      → peer_handling sh st t p q ≡ Violation → Q (violation Egress t p)
  pub apart : Passed sh st t p → covers sh t p ≡ false → (q : ℕ) → peer_of sh t p ≡ Some q
      → peer_handling sh st t p q ≡ Direct → is_root (sh.kind p) && not sh.roots_reach ≡ true
      → Q (Beyond (Unclaimed complex) complex DirectToPeer)
  pub across : Passed sh st t p → covers sh t p ≡ false → (q : ℕ) → peer_of sh t p ≡ Some q
      → peer_handling sh st t p q ≡ Direct → is_root (sh.kind p) && not sh.roots_reach ≡ false
      → Q (Across q)
  pub to_host : Passed sh st t p → covers sh t p ≡ false → peer_of sh t p ≡ None → is_root (sh.kind p) ≡ true
      → Q (Beyond Host complex AsAddressed)
  pub at_parent : Passed sh st t p → covers sh t p ≡ false → peer_of sh t p ≡ None → is_root (sh.kind p) ≡ false
      → covers sh t (sh.parent p) ≡ true → Q (Beyond (Unclaimed (sh.parent p)) (sh.parent p) AsAddressed)
  pub addressed : Passed sh st t p → covers sh t p ≡ false → peer_of sh t p ≡ None → is_root (sh.kind p) ≡ false
      → covers sh t (sh.parent p) ≡ false → Q (Up AsAddressed)

handled_case : (Q : Move → Type 0) (sh : Shape) (t : Tlp) (p q : ℕ) (h : Handling)
    → (h ≡ Direct → Q (direct sh p q)) → (h ≡ Redirect → Q (sent_up sh t p RedirectedUp)) → (h ≡ Violation → Q (violation Egress t p))
    → Q (handled sh t p q h)
unfolding handled
handled_case Q sh t p q Direct a b c = a refl
handled_case Q sh t p q Redirect a b c = b refl
handled_case Q sh t p q Violation a b c = c refl

module _ (sh : Shape) (st : Setting) (t : Tlp) (p : ℕ) (here : p < sh.count) (port : is_port (sh.kind p) ≡ true) where
  sent_case : (Q : Move → Type 0) → DecideCases sh st t p Q → Passed sh st t p → (q : ℕ) → Claims sh t p q → (a : Action)
      → eqb (action_number a) (action_number AsAddressed) ≡ false
      → Q (sent_up sh t p a)
  unfolding sent_up at_the_top
  sent_case Q c ok q x a n =
      cond_case Q (is_root (sh.kind p)) (λ r. cond_case Q (blocks sh t) (c.blocked ok q x r) (c.reflects ok q x r)) (c.sent_up ok a n q x)

  pub decide_case : (Q : Move → Type 0) → DecideCases sh st t p Q → Q (decide sh st t p)
  unfolding decide own_range to_peer direct onward past_parent
  decide_case Q c =
      cond_case Q (bad_source sh st t p) c.by_v λ nv.
      cond_case Q (bad_translation st t p) (c.by_b nv) λ nb.
      let ok : Passed sh st t p = record { source = nv; translation = nb } in
      cond_case Q (covers sh t p)
      (λ own. cond_case Q (st.u p)
      (λ _. sent_case Q c ok p (record { present = here; port = port; sibling = refl; covering = own }) UpByU refl)
      (c.undefined ok own))
      λ other.
      among_case Q (peer_of sh t p)
      (λ q e. handled_case Q sh t p q (peer_handling sh st t p q)
      (λ h. cond_case Q (is_root (sh.kind p) && not sh.roots_reach) (c.apart ok other q e h) (c.across ok other q e h))
      (λ _. sent_case Q c ok q (peer_claims sh t p q e) RedirectedUp refl)
      (c.by_e ok other q e))
      λ none.
      cond_case Q (is_root (sh.kind p)) (c.to_host ok other none) λ nr.
      cond_case Q (covers sh t (sh.parent p)) (c.at_parent ok other none nr) (c.addressed ok other none nr)

-- the port above the parent of p: there is one, and it stands lower
pub record Ascends (sh : Shape) (p : ℕ) : Type 0 where
  pub no_root : is_root (sh.kind p) ≡ false
  pub lower : above sh p < p
  pub present : above sh p < sh.count
  pub port : is_port (sh.kind (above sh p)) ≡ true

pub ascends : (sh : Shape) → WellFormed sh → (p : ℕ) → p < sh.count → is_port (sh.kind p) ≡ true → is_root (sh.kind p) ≡ false
    → Ascends sh p
ascends sh wf p l k r =
    let up : sh.parent p < p = wf.lower p l r in
    let two : is_upstream (sh.kind (sh.parent p)) ≡ true = wf.under_upstream p l (downstream_port (sh.kind p) k r) in
    let e : sh.kind (sh.parent p) ≡ 2 = eqb-true _ _ two in
    let no_root : is_root (sh.kind (sh.parent p)) ≡ false = rw e in
    let no-port : is_port (sh.kind (sh.parent p)) ≡ false = rw e in
    let up2 : above sh p < sh.parent p = wf.lower (sh.parent p) (omega arith) no_root in
    record {
      no_root = r;
      lower = omega arith;
      present = omega arith;
      port = wf.under_port (sh.parent p) (omega arith) no-port;
    }

-- where a decision on the way up leads
abbrev pub Rises : Shape → ℕ → Move → Type 0
Rises sh p (Up a) = Ascends sh p
Rises sh p (Across q) = (q < sh.count) × (is_port (sh.kind q) ≡ true)
Rises sh p Reflect = is_root (sh.kind p) ≡ true
Rises sh p (Stop end) = Unit {0}
Rises sh p (Beyond end node action) = Unit {0}

module _ (sh : Shape) (st : Setting) (t : Tlp) (wf : WellFormed sh) where
  pub decide_rises : (p : ℕ) → p < sh.count → is_port (sh.kind p) ≡ true → Rises sh p (decide sh st t p)
  decide_rises p l k =
      decide_case sh st t p l k (Rises sh p)
      (record {
        by_v = λ _. tt;
        by_b = λ _ _. tt;
        undefined = λ _ _ _. tt;
        sent_up = λ _ a _ _ _ r. ascends sh wf p l k r;
        blocked = λ _ _ _ _ _. tt;
        reflects = λ _ _ _ r _. r;
        by_e = λ _ _ _ _ _. tt;
        apart = λ _ _ _ _ _ _. tt;
        across = λ _ _ q e _ _. let x : Claims sh t p q = peer_claims sh t p q e in (x.present, x.port);
        to_host = λ _ _ _ _. tt;
        at_parent = λ _ _ _ _ _. tt;
        addressed = λ _ _ _ r _. ascends sh wf p l k r;
      })

  hop_up_same : (p : ℕ) (m : Move) (on on' : ℕ → Trip) → Rises sh p m → (Ascends sh p → on (above sh p) ≡ on' (above sh p))
      → hop_up sh t p m on ≡ hop_up sh t p m on'
  hop_up_same p (Up a) on on' b h = ap (λ (r : Trip). hop_up sh t p (Up a) (λ _. r)) (h b)
  hop_up_same p (Across q) on on' b h = refl
  hop_up_same p Reflect on on' b h = refl
  hop_up_same p (Stop end) on on' b h = refl
  hop_up_same p (Beyond end node action) on on' b h = refl

  -- fuel above the index is enough
  up_fuel : (f g p : ℕ) → p < sh.count → is_port (sh.kind p) ≡ true → p < f → p < g → up_from sh st t f p ≡ up_from sh st t g p
  unfolding up_from
  up_fuel zero g p l k a b = absurd (omega arith)
  up_fuel (suc f) zero p l k a b = absurd (omega arith)
  up_fuel (suc f) (suc g) p l k a b =
      hop_up_same p (decide sh st t p) (up_from sh st t f) (up_from sh st t g) (decide_rises p l k)
      (λ x. up_fuel f g (above sh p) x.present x.port (omega arith) (omega arith))

  pub up_step : (p : ℕ) → p < sh.count → is_port (sh.kind p) ≡ true → up sh st t p ≡ hop_up sh t p (decide sh st t p) (up sh st t)
  unfolding up up_from
  up_step p l k = up_fuel sh.count (suc sh.count) p l k l (omega arith)

-- strong induction over the walks: the next port stands higher on the way down, lower on the way up

pub down_induction : (sh : Shape) (t : Tlp) (Q : ℕ → Way → Type 0)
    → ((p : ℕ) → p < sh.count → ((q : ℕ) → p < q → q < sh.count → Q q (down sh t q)) → Q p (hop_down p (next_down sh t p) (down sh t)))
    → (p : ℕ) → p < sh.count → Q p (down sh t p)
down_induction sh t Q h p l = go sh.count p l (omega arith)
  where
    go : (n p : ℕ) → p < sh.count → sh.count - p ≤ n → Q p (down sh t p)
    go zero p l b = absurd (omega arith)
    go (suc n) p l b = subst (Q p) (sym (down_step sh t p l)) (h p l (λ q m k. go n q k (omega arith)))

pub up_induction : (sh : Shape) (st : Setting) (t : Tlp) → WellFormed sh → (Q : ℕ → Trip → Type 0)
    → ((p : ℕ) → p < sh.count → is_port (sh.kind p) ≡ true → (is_root (sh.kind p) ≡ false → Q (above sh p) (up sh st t (above sh p)))
    → Q p (hop_up sh t p (decide sh st t p) (up sh st t)))
    → (p : ℕ) → p < sh.count → is_port (sh.kind p) ≡ true → Q p (up sh st t p)
up_induction sh st t wf Q h p l k = go (suc p) p l k (omega arith)
  where
    go : (n p : ℕ) → p < sh.count → is_port (sh.kind p) ≡ true → p < n → Q p (up sh st t p)
    go zero p l k b = absurd (omega arith)
    go (suc n) p l k b =
        subst (Q p) (sym (up_step sh st t wf p l k))
        (h p l k (λ r. let x : Ascends sh p = ascends sh wf p l k r in go n (above sh p) x.present x.port (omega arith)))
