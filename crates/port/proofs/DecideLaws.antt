-- The laws of port::decide: the steps of going up, each where the code leaves it.
use mathlib.Core.Path.{◌≡◌, ◌∙◌}
use mathlib.Core.Bool.{true, false, Bool, ◌&&◌, not}
use mathlib.Core.List.{List}
use Prim.Native.Nat.{ℕ}
use lib.Dec.{eqb}
use Rattle.rules.specs.declared.Action.{Action}
use Rattle.rules.specs.declared.Action.TheVariants.{AsAddressed, DirectToPeer, RedirectedUp, UpByU}
use Rattle.rules.specs.declared.Handling.{Handling}
use Rattle.rules.specs.declared.Handling.TheVariants.{Direct, Redirect, Violation}
use Rattle.rules.specs.declared.Letter.TheVariants.{Source, Translation, Egress, Validation}
use Rattle.rules.specs.declared.Outcome.TheVariants.{Host, Unclaimed, Undefined}
use Rattle.rules.specs.declared.Move.{Move}
use Rattle.rules.specs.declared.Move.TheVariants.{Up, Across, Reflect, Stop, Beyond}
use Rattle.rules.specs.declared.Tlp.{Tlp}
use Rattle.rules.specs.Bytes.{bit, within}
use Rattle.rules.specs.Snapshot.{kind, parent, secondary, subordinate, control, port_number, vector_bit, is_root, roots_reach, validation_reflects}
use Rattle.rules.specs.Snapshot.{bit_v, bit_b, bit_r, bit_c, bit_u, bit_e, bit_t, complex}
use Rattle.rules.specs.Fabric.{shape_of, setting_of}
use Rattle.rules.specs.Cover.{covers, peer_of}
use Rattle.rules.specs.Decide.{violation, blocks, at_the_top, sent_up, bad_source, bad_translation, own_range}
use Rattle.rules.specs.Decide.{handling, turns_back, peer_handling, direct, handled, to_peer, past_parent, onward, decide}
use Rattle.port.specs.Parts.{goes_translated, by_table}
use Rattle.std.specs.Prelude.{Some, None}

module _ (s : List ℕ) (t : Tlp) {x : Bool} where
  pub request_blocked : t.request ≡ true → x ≡ not (validation_reflects s) → x ≡ blocks (shape_of s) t
  unfolding blocks shape_of
  request_blocked r h = rw r h

  pub completion_free : t.request ≡ false → x ≡ false → x ≡ blocks (shape_of s) t
  unfolding blocks shape_of
  completion_free r h = rw r h

-- steps 1 and 2, and C and T of step 4
module _ (s : List ℕ) (t : Tlp) (p : ℕ) {x : Bool} where
  pub source_checked : (t.request && bit bit_v (control s p)) ≡ true
      → x ≡ not (within (secondary s p) t.requester_bus.0 (subordinate s p)) → x ≡ bad_source (shape_of s) (setting_of s) t p
  unfolding bad_source shape_of setting_of
  source_checked v h = rw v h

  pub source_unchecked : (t.request && bit bit_v (control s p)) ≡ false → x ≡ false → x ≡ bad_source (shape_of s) (setting_of s) t p
  unfolding bad_source shape_of setting_of
  source_unchecked v h = rw v h

  pub translation_checked : (t.request && bit bit_b (control s p)) ≡ true → x ≡ not (eqb t.address_type 0)
      → x ≡ bad_translation (setting_of s) t p
  unfolding bad_translation setting_of
  translation_checked b h = rw b h

  pub translation_unchecked : (t.request && bit bit_b (control s p)) ≡ false → x ≡ false → x ≡ bad_translation (setting_of s) t p
  unfolding bad_translation setting_of
  translation_unchecked b h = rw b h

  pub back_on : bit bit_c (control s p) ≡ true → x ≡ not t.straight → x ≡ turns_back (setting_of s) t p
  unfolding turns_back setting_of
  back_on c h = rw c h

  pub back_off : bit bit_c (control s p) ≡ false → x ≡ false → x ≡ turns_back (setting_of s) t p
  unfolding turns_back setting_of
  back_off c h = rw c h

  pub translated_on : bit bit_t (control s p) ≡ true → x ≡ eqb t.address_type 2 → x ≡ goes_translated (setting_of s) t p
  unfolding setting_of
  translated_on b h = rw b h

  pub translated_off : bit bit_t (control s p) ≡ false → x ≡ false → x ≡ goes_translated (setting_of s) t p
  unfolding setting_of
  translated_off b h = rw b h

-- step 4, how a peer is handled
module _ (s : List ℕ) (t : Tlp) (p q : ℕ) {h : Handling} where
  pub table_read : {e r v : Bool} → h ≡ handling e r v → e ≡ bit bit_e (control s p) → r ≡ bit bit_r (control s p)
      → v ≡ vector_bit s p (port_number s q) → h ≡ by_table (shape_of s) (setting_of s) p q
  unfolding shape_of setting_of
  table_read k e r v = k ∙ rw (e, r, v)

  pub handling_translated : t.request ≡ true → goes_translated (setting_of s) t p ≡ true → h ≡ Direct
      → h ≡ peer_handling (shape_of s) (setting_of s) t p q
  unfolding peer_handling
  handling_translated r g k = rw (r, g) k

  pub handling_by_table : t.request ≡ true → goes_translated (setting_of s) t p ≡ false → h ≡ by_table (shape_of s) (setting_of s) p q
      → h ≡ peer_handling (shape_of s) (setting_of s) t p q
  unfolding peer_handling
  handling_by_table r g k = rw (r, g) k

  pub handling_back : t.request ≡ false → turns_back (setting_of s) t p ≡ true → h ≡ Redirect
      → h ≡ peer_handling (shape_of s) (setting_of s) t p q
  unfolding peer_handling turns_back
  handling_back r b k = rw (r, b) k

  pub handling_straight : t.request ≡ false → turns_back (setting_of s) t p ≡ false → h ≡ Direct
      → h ≡ peer_handling (shape_of s) (setting_of s) t p q
  unfolding peer_handling turns_back
  handling_straight r b k = rw (r, b) k

module _ (s : List ℕ) (t : Tlp) (p : ℕ) {m : Move} where
  -- the top, and up

  pub top_blocks : blocks (shape_of s) t ≡ true → m ≡ violation Validation t p → m ≡ at_the_top (shape_of s) t p
  unfolding at_the_top
  top_blocks b h = rw b h

  pub top_reflects : blocks (shape_of s) t ≡ false → m ≡ Reflect → m ≡ at_the_top (shape_of s) t p
  unfolding at_the_top
  top_reflects b h = rw b h

  pub sent_top : (a : Action) → is_root (kind s p) ≡ true → m ≡ at_the_top (shape_of s) t p → m ≡ sent_up (shape_of s) t p a
  unfolding sent_up shape_of
  sent_top a r h = rw r h

  pub sent_on : (a : Action) → is_root (kind s p) ≡ false → m ≡ Up a → m ≡ sent_up (shape_of s) t p a
  unfolding sent_up shape_of
  sent_on a r h = rw r h

  -- step 3

  pub own_up : bit bit_u (control s p) ≡ true → m ≡ sent_up (shape_of s) t p UpByU → m ≡ own_range (shape_of s) (setting_of s) t p
  unfolding own_range setting_of
  own_up u h = rw u h

  pub own_undefined : bit bit_u (control s p) ≡ false → m ≡ Stop (Undefined p) → m ≡ own_range (shape_of s) (setting_of s) t p
  unfolding own_range setting_of
  own_undefined u h = rw u h

  -- step 4, what the handling comes to

  module _ (q : ℕ) where
    pub direct_barred : is_root (kind s p) ≡ true → roots_reach s ≡ false → m ≡ Beyond (Unclaimed complex) complex DirectToPeer
        → m ≡ direct (shape_of s) p q
    unfolding direct shape_of
    direct_barred r f h = rw (r, f) h

    pub direct_of_root : is_root (kind s p) ≡ true → roots_reach s ≡ true → m ≡ Across q → m ≡ direct (shape_of s) p q
    unfolding direct shape_of
    direct_of_root r f h = rw (r, f) h

    pub direct_below : is_root (kind s p) ≡ false → m ≡ Across q → m ≡ direct (shape_of s) p q
    unfolding direct shape_of
    direct_below r h = rw r h

    pub handled_direct : {h : Handling} → h ≡ Direct → m ≡ direct (shape_of s) p q → m ≡ handled (shape_of s) t p q h
    unfolding handled
    handled_direct e r = rw e r

    pub handled_redirect : {h : Handling} → h ≡ Redirect → m ≡ sent_up (shape_of s) t p RedirectedUp → m ≡ handled (shape_of s) t p q h
    unfolding handled
    handled_redirect e r = rw e r

    pub handled_violation : {h : Handling} → h ≡ Violation → m ≡ violation Egress t p → m ≡ handled (shape_of s) t p q h
    unfolding handled
    handled_violation e r = rw e r

  -- steps 5 and 6

  pub past_unclaimed : {a : ℕ} → a ≡ parent s p → covers (shape_of s) t a ≡ true → m ≡ Beyond (Unclaimed a) a AsAddressed
      → m ≡ past_parent (shape_of s) t p
  unfolding past_parent shape_of
  past_unclaimed e c h = rw (← e, c) h

  pub past_on : {a : ℕ} → a ≡ parent s p → covers (shape_of s) t a ≡ false → m ≡ Up AsAddressed → m ≡ past_parent (shape_of s) t p
  unfolding past_parent shape_of
  past_on e c h = rw (← e, c) h

  pub onward_host : is_root (kind s p) ≡ true → m ≡ Beyond Host complex AsAddressed → m ≡ onward (shape_of s) t p
  unfolding onward shape_of
  onward_host r h = rw r h

  pub onward_past : is_root (kind s p) ≡ false → m ≡ past_parent (shape_of s) t p → m ≡ onward (shape_of s) t p
  unfolding onward shape_of
  onward_past r h = rw r h

  -- the steps in their order

  pub step_1 : bad_source (shape_of s) (setting_of s) t p ≡ true → m ≡ violation Source t p → m ≡ decide (shape_of s) (setting_of s) t p
  unfolding decide
  step_1 v h = rw v h

  module _ (passes_1 : bad_source (shape_of s) (setting_of s) t p ≡ false) where
    pub step_2 : bad_translation (setting_of s) t p ≡ true → m ≡ violation Translation t p → m ≡ decide (shape_of s) (setting_of s) t p
    unfolding decide
    step_2 b h = rw (passes_1, b) h

    module _ (passes_2 : bad_translation (setting_of s) t p ≡ false) where
      pub step_3 : covers (shape_of s) t p ≡ true → m ≡ own_range (shape_of s) (setting_of s) t p → m ≡ decide (shape_of s) (setting_of s) t p
      unfolding decide
      step_3 c h = rw (passes_1, passes_2, c) h

      pub step_4 : {q : ℕ} → covers (shape_of s) t p ≡ false → peer_of (shape_of s) t p ≡ Some q
          → m ≡ to_peer (shape_of s) (setting_of s) t p q → m ≡ decide (shape_of s) (setting_of s) t p
      unfolding decide
      step_4 c f h = rw (passes_1, passes_2, c, f) h

      pub steps_5_and_6 : covers (shape_of s) t p ≡ false → peer_of (shape_of s) t p ≡ None → m ≡ onward (shape_of s) t p
          → m ≡ decide (shape_of s) (setting_of s) t p
      unfolding decide
      steps_5_and_6 c f h = rw (passes_1, passes_2, c, f) h
