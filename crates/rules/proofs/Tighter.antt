-- Under a setting at least as tight nothing is delivered unvalidated that the first would have routed otherwise.
use mathlib.Core.Path.{◌≡◌, refl, ◌∙◌, ap}
use mathlib.Core.Bool.{Bool, true, false, cond, ◌&&◌, not}
use mathlib.Core.List.{List}
use Prim.Native.Nat.{ℕ, ◌≤◌, ◌<◌}
use lib.Dec.{eqb, ltb}
use Rattle.rules.specs.declared.Handling.{Handling}
use Rattle.rules.specs.declared.Handling.TheVariants.{Direct}
use Rattle.rules.specs.declared.Move.{Move}
use Rattle.rules.specs.declared.Move.TheVariants.{Up, Across}
use Rattle.rules.specs.declared.Tlp.{Tlp}
use Rattle.rules.specs.Bytes.{within}
use Rattle.rules.specs.Snapshot.{port_number, capability, vector_size, stored_bit, vector_bit, is_root, is_port}
use Rattle.rules.specs.Fabric.{shape_of, setting_of}
use Rattle.rules.specs.Cover.{covers, peer_of}
use Rattle.rules.specs.Decide.{action_number, bad_source, bad_translation, handling, peer_handling, direct, handled, to_peer, onward, past_parent, decide}
use Rattle.rules.specs.declared.Action.TheVariants.{AsAddressed}
use Rattle.rules.specs.Route.{above, before, hop, hop_up, up}
use Rattle.rules.specs.Properties.{WellFormed, Nested, AreBytes, IsPort}
use Rattle.rules.specs.Tight.{Alike, TightAt, AtLeastAsTight}
use Rattle.rules.proofs.Logic.{contradiction, redirect_no_direct, violation_no_direct, both, and_both, implies}
use Rattle.rules.proofs.Steps.{Claims, Passed, decide_case, Ascends, ascends, up_step, up_induction}
use Rattle.rules.proofs.Covered.{unvalidated, checked_validated, claimed_above, covered_answerable, answerable_validated}
use Rattle.rules.proofs.Alike.{same_capability}
use Rattle.std.specs.Prelude.{Some, None}

-- R on gives direct only with E on and the bit clear
direct_bit : (e b : Bool) → handling e true b ≡ Direct → (e ≡ true) × (b ≡ false)
direct_bit false b h = redirect_no_direct h
direct_bit true true h = redirect_no_direct h
direct_bit true false h = (refl, refl)

-- a set bit gives direct only with E and R off
direct_set : (e r : Bool) → handling e r true ≡ Direct → (e ≡ false) × (r ≡ false)
direct_set false false h = (refl, refl)
direct_set false true h = redirect_no_direct h
direct_set true false h = violation_no_direct h
direct_set true true h = redirect_no_direct h

-- what the table lets go direct under the tighter setting it lets go direct under the first
table_tight : (e r b e' r' b' : Bool) → (r ≡ true → r' ≡ true) → (b ≡ true → b' ≡ true)
    → (e ≡ false → e' ≡ true → r' ≡ false) → (e ≡ true → e' ≡ false → r' ≡ true)
    → handling e' r' b' ≡ Direct → handling e r b ≡ Direct
table_tight false false b e' r' b' hr hb on off h = refl
table_tight false true b e' r' b' hr hb on off h =
    let d : handling e' true b' ≡ Direct = rw (hr refl) at h in contradiction (hr refl) (on refl (direct_bit e' b' d).0)
table_tight true false true e' r' b' hr hb on off h =
    let d : handling e' r' true ≡ Direct = rw (hb refl) at h in contradiction (off refl (direct_set e' r' d).0) (direct_set e' r' d).1
table_tight true false false e' r' b' hr hb on off h = refl
table_tight true true true e' r' b' hr hb on off h =
    let d : handling e' r' true ≡ Direct = rw (hb refl) at h in contradiction (hr refl) (direct_set e' r' d).1
table_tight true true false e' r' b' hr hb on off h = refl

-- the same with T, which lets a translated request go direct
excused_tight : (t t' two : Bool) (h h' : Handling) → (t ≡ false → t' ≡ false) → (h' ≡ Direct → h ≡ Direct)
    → cond (t' && two) Direct h' ≡ Direct → cond (t && two) Direct h ≡ Direct
excused_tight true t' true h h' ht hh e = refl
excused_tight true true false h h' ht hh e = hh e
excused_tight true false false h h' ht hh e = hh e
excused_tight false t' two h h' ht hh e = hh (rw (ht refl) at e)

module _ (old new : List ℕ) (bytes : AreBytes new) (alike : Alike old new) (tight : AtLeastAsTight old new) (t : Tlp) (req : t.request ≡ true)
    (p : ℕ) (port : IsPort new p) where
  at_p : TightAt old new p
  at_p = tight p port

  vector_tight : (q : ℕ) → vector_bit old p (port_number new q) ≡ true → vector_bit new p (port_number new q) ≡ true
  vector_tight q h =
      let (a, b) = both (ltb (port_number new q) (vector_size (capability old p))) (stored_bit old p (port_number new q)) h in
      and_both (rw (same_capability old new alike p) at a) (at_p.vector (port_number new q) (bytes _) b)

  source_tight : bad_source (shape_of new) (setting_of new) t p ≡ false → bad_source (shape_of new) (setting_of old) t p ≡ false
  unfolding bad_source setting_of
  source_tight n =
      implies (λ h.
      let (a, c) = both (t.request && (setting_of old).v p) (not (within ((shape_of new).secondary p) t.requester_bus.0 ((shape_of new).subordinate p))) h in
      and_both (and_both req (at_p.v (both t.request ((setting_of old).v p) a).1)) c) n

  translation_tight : bad_translation (setting_of new) t p ≡ false → bad_translation (setting_of old) t p ≡ false
  unfolding bad_translation setting_of
  translation_tight n =
      implies (λ h.
      let (a, c) = both (t.request && (setting_of old).b p) (not (eqb t.address_type 0)) h in
      and_both (and_both req (at_p.b (both t.request ((setting_of old).b p) a).1)) c) n

  direct_tight : (q : ℕ) → peer_handling (shape_of new) (setting_of new) t p q ≡ Direct → peer_handling (shape_of new) (setting_of old) t p q ≡ Direct
  unfolding peer_handling setting_of shape_of
  direct_tight q h =
      rw req
      (excused_tight ((setting_of old).t p) ((setting_of new).t p) (eqb t.address_type 2) _ _ at_p.t
      (table_tight ((setting_of old).e p) ((setting_of old).r p) (vector_bit old p (port_number new q)) ((setting_of new).e p) ((setting_of new).r p)
      (vector_bit new p (port_number new q)) at_p.r (vector_tight q) at_p.e_on at_p.e_off)
      (rw req at h))

  old_across : Passed (shape_of new) (setting_of new) t p → covers (shape_of new) t p ≡ false → (q : ℕ) → peer_of (shape_of new) t p ≡ Some q
      → peer_handling (shape_of new) (setting_of new) t p q ≡ Direct → is_root ((shape_of new).kind p) && not (shape_of new).roots_reach ≡ false
      → decide (shape_of new) (setting_of old) t p ≡ Across q
  unfolding decide to_peer handled direct
  old_across ok n q e d r =
      rw (source_tight ok.source, translation_tight ok.translation, n, e, direct_tight q d, r)

  old_addressed : Passed (shape_of new) (setting_of new) t p → covers (shape_of new) t p ≡ false → peer_of (shape_of new) t p ≡ None
      → is_root ((shape_of new).kind p) ≡ false → covers (shape_of new) t ((shape_of new).parent p) ≡ false
      → decide (shape_of new) (setting_of old) t p ≡ Up AsAddressed
  unfolding decide onward past_parent
  old_addressed ok n e r c =
      rw (source_tight ok.source, translation_tight ok.translation, n, e, r, c)

module _ (old new : List ℕ) (bytes : AreBytes new) (alike : Alike old new) (tight : AtLeastAsTight old new) (t : Tlp) (req : t.request ≡ true)
    (wf : WellFormed (shape_of new)) (nest : Nested (shape_of new)) (few : (shape_of new).count ≤ 256) where
  -- what the port above delivers unvalidated was not sent up
  up_not_sent : (p q : ℕ) → p < (shape_of new).count → is_port ((shape_of new).kind p) ≡ true → is_root ((shape_of new).kind p) ≡ false
      → Claims (shape_of new) t p q → unvalidated (up (shape_of new) (setting_of new) t (above (shape_of new) p)).end ≡ false
  up_not_sent p q l k r c =
      let x : Ascends (shape_of new) p = ascends (shape_of new) wf p l k r in
      answerable_validated (up (shape_of new) (setting_of new) t (above (shape_of new) p)).end
      (covered_answerable (shape_of new) (setting_of new) t wf nest few (above (shape_of new) p) x.present x.port
      (claimed_above (shape_of new) wf nest few t p q l k r c))

  -- one step of the first setting, where its decision is known
  old_step : (p : ℕ) (m : Move) → p < (shape_of new).count → is_port ((shape_of new).kind p) ≡ true → decide (shape_of new) (setting_of old) t p ≡ m
      → up (shape_of new) (setting_of old) t p ≡ hop_up (shape_of new) t p m (up (shape_of new) (setting_of old) t)
  old_step p m l k e = rw (← e) (up_step (shape_of new) (setting_of old) t wf p l k)

  pub tight_up : (p : ℕ) → p < (shape_of new).count → is_port ((shape_of new).kind p) ≡ true
      → unvalidated (up (shape_of new) (setting_of new) t p).end ≡ true
      → up (shape_of new) (setting_of old) t p ≡ up (shape_of new) (setting_of new) t p
  unfolding shape_of
  tight_up =
      up_induction (shape_of new) (setting_of new) t wf
      (λ p r. unvalidated r.end ≡ true → up (shape_of new) (setting_of old) t p ≡ r) λ p l k rec.
      decide_case (shape_of new) (setting_of new) t p l k
      (λ m. unvalidated (hop_up (shape_of new) t p m (up (shape_of new) (setting_of new) t)).end ≡ true
      → up (shape_of new) (setting_of old) t p ≡ hop_up (shape_of new) t p m (up (shape_of new) (setting_of new) t))
      (record {
        by_v = λ _ z. contradiction z refl;
        by_b = λ _ _ z. contradiction z refl;
        undefined = λ _ _ _ z. contradiction z refl;
        sent_up = λ _ a _ q c r z. contradiction z (up_not_sent p q l k r c);
        blocked = λ _ _ _ _ _ z. contradiction z refl;
        reflects = λ _ q c r _ z. contradiction z (checked_validated (shape_of new) t);
        by_e = λ _ _ _ _ _ z. contradiction z refl;
        apart = λ _ _ _ _ _ _ z. contradiction z refl;
        across = λ ok n q e d r z. old_step p (Across q) l k (old_across old new bytes alike tight t req p (l, k) ok n q e d r);
        to_host = λ _ _ _ _ z. contradiction z refl;
        at_parent = λ _ _ _ _ _ z. contradiction z refl;
        addressed = λ ok n e r c z.
            old_step p (Up AsAddressed) l k (old_addressed old new bytes alike tight t req p (l, k) ok n e r c)
            ∙ ap (before (hop p (action_number AsAddressed))) (rec r z);
      })
