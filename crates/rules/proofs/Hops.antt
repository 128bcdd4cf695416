-- How many hops a route makes: D bounds the ports on the way up, and on the way down.
use mathlib.Core.Path.{◌≡◌, ◌∙◌, ap}
use mathlib.Core.Bool.{Bool, true, false, cond}
use Prim.Native.Nat.{suc-le-suc, ℕ, zero, suc, ◌+◌, ◌*◌, ◌≤◌, ◌<◌, max}
use native.Mathlib.Nat.{not-suc-le-zero, le_trans}
use native.Mathlib.Omega.{arith}
use lib.Dec.{eqb}
use lib.ListN.{length}
use borrow.Author.Tests.{eqb-true, eqb-false}
use Rattle.rules.specs.declared.Down.{Down}
use Rattle.rules.specs.declared.Down.TheVariants.{Into, Lands, Alone}
use Rattle.rules.specs.declared.Tlp.{Tlp}
use Rattle.rules.specs.Snapshot.{is_root, is_upstream, is_downstream, is_port}
use Rattle.rules.specs.Fabric.{Shape, Setting}
use Rattle.rules.specs.Cover.{is_entry, entry_for}
use Rattle.rules.specs.Route.{Trip, next_down, hop_down, down, from_top, above, hop_up, up}
use Rattle.rules.specs.Properties.{WellFormed}
use Rattle.rules.specs.Bound.{ports_from, ports, most, depth}
use Rattle.rules.proofs.Logic.{or_false, contradiction, among_case, either, or_left}
use Rattle.rules.proofs.Sound.{downstream_port}
use Rattle.rules.proofs.Steps.{entry_parts, found_in, Descending, next_descending, Passes, Leads, next_leads, down_induction, Claims, peer_claims}
use Rattle.rules.proofs.Steps.{decide_case}
use Rattle.rules.proofs.Steps.{up_induction}
use Rattle.rules.proofs.Covered.{parent_present, standing, under_no_port}

most_above : (n : ℕ) (f : ℕ → ℕ) (j : ℕ) → j < n → f j ≤ most n f
unfolding most
most_above zero f j l = absurd (not-suc-le-zero l)
most_above (suc n) f j l = go (most_above n f j)
  where
    go : (j < n → f j ≤ most n f) → f j ≤ max (most n f) (f n)
    go ih = either (eqb j n)
        (λ e. let same : f j ≡ f n = ap f (eqb-true j n e) in omega arith)
        (λ d. let apart : j ≡ n → ⊥ = eqb-false j n d in let x : f j ≤ most n f = ih (omega (arith, apart)) in omega arith)

most_below : (n : ℕ) (f : ℕ → ℕ) (b : ℕ) → ((j : ℕ) → j < n → f j ≤ b) → most n f ≤ b
unfolding most
most_below zero f b h = omega arith
most_below (suc n) f b h =
    let x : most n f ≤ b = most_below n f b (λ j l. h j (omega arith)) in
    let y : f n ≤ b = h n (omega arith) in
    omega arith

module _ (sh : Shape) (wf : WellFormed sh) where
  ports_fuel : (f g i : ℕ) → i < sh.count → i < f → i < g → ports_from sh f i ≡ ports_from sh g i
  unfolding ports_from
  ports_fuel zero g i l a b = absurd (omega arith)
  ports_fuel (suc f) zero i l a b = absurd (omega arith)
  ports_fuel (suc f) (suc g) i l a b =
      ap (λ (x : ℕ). cond (is_port (sh.kind i)) 1 0 + x)
      (either (is_root (sh.kind i)) (λ r. rw r)
      (λ r. let m : sh.parent i < i = wf.lower i l r in rw (r, ports_fuel f g (sh.parent i) (omega arith) (omega arith) (omega arith))))

  ports_step : (i : ℕ) → i < sh.count
      → ports sh i ≡ cond (is_port (sh.kind i)) 1 0 + cond (is_root (sh.kind i)) 0 (ports sh (sh.parent i))
  unfolding ports ports_from
  ports_step i l = ports_fuel sh.count (suc sh.count) i l l (omega arith)

  ports_root : (i : ℕ) → i < sh.count → is_root (sh.kind i) ≡ true → ports sh i ≡ 1
  ports_root i l r = ports_step i l ∙ rw (or_left (is_root (sh.kind i)) (is_downstream (sh.kind i)) r, r)

  -- a record that is no port has the ports of its parent
  ports_other : (i : ℕ) → i < sh.count → is_port (sh.kind i) ≡ false → is_root (sh.kind i) ≡ false → ports sh i ≡ ports sh (sh.parent i)
  ports_other i l n r = let e : ports sh i ≡ 0 + ports sh (sh.parent i) = ports_step i l ∙ rw (n, r) in omega arith

  -- a port that is no root port has one more
  ports_port : (i : ℕ) → i < sh.count → is_port (sh.kind i) ≡ true → is_root (sh.kind i) ≡ false → ports sh i ≡ 1 + ports sh (sh.parent i)
  ports_port i l k r = ports_step i l ∙ rw (k, r)

  pub ports_some : (p : ℕ) → p < sh.count → is_port (sh.kind p) ≡ true → 1 ≤ ports sh p
  ports_some p l k =
      either (is_root (sh.kind p)) (λ r. let e : ports sh p ≡ 1 = ports_root p l r in omega arith)
      (λ r. let e : ports sh p ≡ 1 + ports sh (sh.parent p) = ports_port p l k r in omega arith)

  pub ports_depth : (i : ℕ) → i < sh.count → ports sh i ≤ depth sh
  unfolding depth
  ports_depth i l = most_above sh.count (ports sh) i l

  -- a port of a switch has one port more on its way than the port above the switch
  ports_above : (p : ℕ) → p < sh.count → is_port (sh.kind p) ≡ true → is_root (sh.kind p) ≡ false → ports sh p ≡ 1 + ports sh (above sh p)
  ports_above p l k r =
      let two : is_upstream (sh.kind (sh.parent p)) ≡ true = wf.under_upstream p l (downstream_port (sh.kind p) k r) in
      let e : sh.kind (sh.parent p) ≡ 2 = eqb-true _ _ two in
      let x : ports sh (sh.parent p) ≡ ports sh (above sh p) = ports_other (sh.parent p) (parent_present sh wf p l r) (rw e) (rw e) in
      let y : ports sh p ≡ 1 + ports sh (sh.parent p) = ports_port p l k r in
      omega arith

  -- each level takes two records, a port and a switch's upstream port
  two_a_level : (n i : ℕ) → i < n → i < sh.count → 2 * ports sh i ≤ i + 1 + cond (is_port (sh.kind i)) 1 0
  two_a_level zero i b l = absurd (not-suc-le-zero b)
  two_a_level (suc n) i b l =
      either (is_root (sh.kind i)) (λ r. at_root r)
      (λ r. either (is_port (sh.kind i)) (λ k. at_port r k (two_a_level n)) (λ k. at_other r k (two_a_level n)))
    where
      at_root : is_root (sh.kind i) ≡ true → 2 * ports sh i ≤ i + 1 + cond (is_port (sh.kind i)) 1 0
      at_root r = rw (ports_root i l r, or_left (is_root (sh.kind i)) (is_downstream (sh.kind i)) r) (omega arith)

      at_port : is_root (sh.kind i) ≡ false → is_port (sh.kind i) ≡ true
          → ((j : ℕ) → j < n → j < sh.count → 2 * ports sh j ≤ j + 1 + cond (is_port (sh.kind j)) 1 0)
          → 2 * ports sh i ≤ i + 1 + cond (is_port (sh.kind i)) 1 0
      at_port r k ih =
          let m : sh.parent i < i = wf.lower i l r in
          let two : is_upstream (sh.kind (sh.parent i)) ≡ true = wf.under_upstream i l (downstream_port (sh.kind i) k r) in
          let e : sh.kind (sh.parent i) ≡ 2 = eqb-true _ _ two in
          let h : 2 * ports sh (sh.parent i) ≤ sh.parent i + 1 + 0 = rw e at (ih (sh.parent i) (omega arith) (omega arith)) in
          let y : ports sh i ≡ 1 + ports sh (sh.parent i) = ports_port i l k r in
          rw k (omega arith)

      at_other : is_root (sh.kind i) ≡ false → is_port (sh.kind i) ≡ false
          → ((j : ℕ) → j < n → j < sh.count → 2 * ports sh j ≤ j + 1 + cond (is_port (sh.kind j)) 1 0)
          → 2 * ports sh i ≤ i + 1 + cond (is_port (sh.kind i)) 1 0
      at_other r k ih =
          let m : sh.parent i < i = wf.lower i l r in
          let h : 2 * ports sh (sh.parent i) ≤ sh.parent i + 1 + 1 = rw (wf.under_port i l k) at (ih (sh.parent i) (omega arith) (omega arith)) in
          let y : ports sh i ≡ ports sh (sh.parent i) = ports_other i l k r in
          rw k (omega arith)

  pub depth_most : sh.count ≤ 256 → depth sh ≤ 128
  unfolding depth
  depth_most few =
      most_below sh.count (ports sh) 128
      (λ j l. let h : 2 * ports sh j ≤ j + 1 + cond (is_port (sh.kind j)) 1 0 = two_a_level (suc j) j (omega arith) l in
      either (is_port (sh.kind j)) (λ k. let h2 : 2 * ports sh j ≤ j + 1 + 1 = rw k at h in omega arith)
      (λ k. let h2 : 2 * ports sh j ≤ j + 1 + 0 = rw k at h in omega arith))

  module _ (t : Tlp) (few : sh.count ≤ 256) where
    -- a port that a TLP is passed down to has one port more on its way: the kind 2 node between them is none
    passed_port : (p q : ℕ) → p < sh.count → is_port (sh.kind p) ≡ true → Passes sh t p q
        → (is_port (sh.kind q) ≡ true) × (ports sh q ≡ 1 + ports sh p)
    passed_port p q l k x =
        let no-port : is_port (sh.kind x.via) ≡ false = under_no_port sh wf few p x.via l k x.via_present x.via_below in
        let no_root : is_root (sh.kind x.via) ≡ false = (or_false (is_root (sh.kind x.via)) (is_downstream (sh.kind x.via)) no-port).0 in
        let q-no-root : is_root (sh.kind q) ≡ false = standing sh wf few q x.present (rw x.below x.via_present) in
        let q-port : is_port (sh.kind q) ≡ true = either (is_port (sh.kind q)) (λ y. y)
        (λ n. contradiction (rw x.below at (wf.under_port q x.present n)) no-port) in
        let a : ports sh q ≡ 1 + ports sh x.via = rw x.below at (ports_port q x.present q-port q-no-root) in
        let b : ports sh x.via ≡ ports sh p = rw x.via_below at (ports_other x.via x.via_present no-port no_root) in
        (q-port, omega arith)

    down_hops : (p : ℕ) → p < sh.count → is_port (sh.kind p) ≡ true → length (down sh t p).hops + ports sh p ≤ depth sh + 2
    down_hops =
        down_induction sh t (λ p w. is_port (sh.kind p) ≡ true → length w.hops + ports sh p ≤ depth sh + 2)
        (λ p l rec k. go p l k rec (next_down sh t p) (next_descending sh t p l) (next_leads sh t p l))
      where
        go : (p : ℕ) → p < sh.count → is_port (sh.kind p) ≡ true
            → ((q : ℕ) → p < q → q < sh.count → is_port (sh.kind q) ≡ true → length (down sh t q).hops + ports sh q ≤ depth sh + 2)
            → (d : Down) → Descending sh.count p d → Leads sh t p d → length (hop_down p d (down sh t)).hops + ports sh p ≤ depth sh + 2
        go p l k rec (Into q) b x =
            let (qp, e) = passed_port p q l k x in
            let h : length (down sh t q).hops + ports sh q ≤ depth sh + 2 = rec q (omega arith) b.1 qp in
            let e2 : ports sh q ≡ 1 + ports sh p = e in
            omega arith
        go p l k rec (Lands y) b x = let d : ports sh p ≤ depth sh = ports_depth p l in omega arith
        go p l k rec Alone b x = let d : ports sh p ≤ depth sh = ports_depth p l in omega arith

    pub top_hops : (c : Bool) → length (from_top sh t c).hops ≤ depth sh + 1
    unfolding from_top entry_for
    top_hops c =
        among_case (λ (r : Trip). length r.hops ≤ depth sh + 1) (entry_for sh t)
        (λ q e.
        let (l, x) = found_in sh (is_entry sh t) q e in
        let (r, _) = entry_parts sh t q x in
        let h : length (down sh t q).hops + ports sh q ≤ depth sh + 2 = down_hops q l (or_left (is_root (sh.kind q)) (is_downstream (sh.kind q)) r) in
        let one : ports sh q ≡ 1 = ports_root q l r in
        omega arith)
        (λ _. omega arith)

    pub up_hops : (st : Setting) (p : ℕ) → p < sh.count → is_port (sh.kind p) ≡ true → length (up sh st t p).hops ≤ ports sh p + depth sh + 1
    up_hops st =
        up_induction sh st t wf (λ p r. length r.hops ≤ ports sh p + depth sh + 1) λ p l k rec.
        let some : 1 ≤ ports sh p = ports_some p l k in
        let deep : ports sh p ≤ depth sh = ports_depth p l in
        let rise : is_root (sh.kind p) ≡ false → suc (length (up sh st t (above sh p)).hops) ≤ ports sh p + depth sh + 1 =
        λ r. let e : ports sh p ≡ 1 + ports sh (above sh p) = ports_above p l k r in
        let h : length (up sh st t (above sh p)).hops ≤ ports sh (above sh p) + depth sh + 1 = rec r in omega arith in
        decide_case sh st t p l k (λ m. length (hop_up sh t p m (up sh st t)).hops ≤ ports sh p + depth sh + 1)
        (record {
          by_v = λ _. omega arith;
          by_b = λ _ _. omega arith;
          undefined = λ _ _ _. omega arith;
          sent_up = λ _ _ _ _ _ r. rise r;
          blocked = λ _ _ _ _ _. omega arith;
          reflects = λ _ _ _ _ _. le_trans (suc-le-suc (top_hops _)) (omega arith);
          by_e = λ _ _ _ _ _. omega arith;
          apart = λ _ _ _ _ _ _. omega arith;
          across = λ _ _ q e _ _.
              let x : Claims sh t p q = peer_claims sh t p q e in
              let h : length (down sh t q).hops + ports sh q ≤ depth sh + 2 = down_hops q x.present x.port in
              let o : 1 ≤ ports sh q = ports_some q x.present x.port in
              omega arith;
          to_host = λ _ _ _ _. omega arith;
          at_parent = λ _ _ _ _ _. omega arith;
          addressed = λ _ _ _ r _. rise r;
        })
