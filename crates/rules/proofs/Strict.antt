-- Settings of every port under which nothing is undefined, and nothing is delivered unvalidated.
use mathlib.Core.Path.{◌≡◌, refl, sym, ◌∙◌}
use mathlib.Core.Bool.{cond, ◌&&◌, Bool, true, false}
use mathlib.Core.List.{List}
use Prim.Native.Nat.{ℕ, ◌<◌}
use lib.Dec.{eqb}
use borrow.Author.Tests.{eqb-true}
use Rattle.rules.specs.declared.Handling.{Handling}
use Rattle.rules.specs.declared.Handling.TheVariants.{Direct, Redirect}
use Rattle.rules.specs.declared.Outcome.{Outcome}
use Rattle.rules.specs.declared.Outcome.TheVariants.{Delivered, Host, Unclaimed, Undefined, Violated}
use Rattle.rules.specs.declared.Landing.{Landing}
use Rattle.rules.specs.declared.Landing.TheVariants.{Arrives, Nobody}
use Rattle.rules.specs.declared.Tlp.{Tlp}
use Rattle.rules.specs.Snapshot.{is_port}
use Rattle.rules.specs.Fabric.{Shape, shape_of, setting_of}
use Rattle.rules.specs.Cover.{entry_for}
use Rattle.rules.specs.Decide.{handling, vector_number, bad_translation, peer_handling}
use Rattle.rules.specs.Route.{Trip, landed, down, from_top, hop_up, up}
use Rattle.rules.specs.Properties.{WellFormed, EveryU, LockedAt, Locked}
use Rattle.rules.proofs.Logic.{contradiction, among_case, and_both, and_right_false, implies, redirect_no_direct}
use Rattle.rules.proofs.Steps.{decide_case, up_induction}
use Rattle.rules.proofs.Covered.{unvalidated, checked_validated}

abbrev pub is_undefined : Outcome → Bool
is_undefined (Delivered i checked) = false
is_undefined Host = false
is_undefined (Unclaimed i) = false
is_undefined (Undefined i) = true
is_undefined (Violated letter p abort) = false

-- a way down is never undefined
landed_defined : (c : Bool) (x : Landing) → is_undefined (landed c x) ≡ false
landed_defined c (Arrives i) = refl
landed_defined c (Nobody i) = refl

pub top_defined : (sh : Shape) (t : Tlp) (c : Bool) → is_undefined (from_top sh t c).end ≡ false
unfolding from_top
top_defined sh t c =
    among_case (λ (r : Trip). is_undefined r.end ≡ false) (entry_for sh t) (λ q _. landed_defined c (down sh t q).landing) (λ _. refl)

-- R on and E off redirect an untranslated request
locked_table : {request two : Bool} (t e r b : Bool) (completion : Handling) → request ≡ true → two ≡ false → e ≡ false → r ≡ true
    → cond request (cond (t && two) Direct (handling e r b)) completion ≡ Redirect
locked_table {two = two} t e r b completion q n off on = rw (q, and_right_false t two n, off, on)

module _ (s : List ℕ) (t : Tlp) (wf : WellFormed (shape_of s)) where
  pub up_defined : EveryU s → (p : ℕ) → p < (shape_of s).count → is_port ((shape_of s).kind p) ≡ true
      → is_undefined (up (shape_of s) (setting_of s) t p).end ≡ false
  unfolding shape_of setting_of
  up_defined every =
      up_induction (shape_of s) (setting_of s) t wf (λ p r. is_undefined r.end ≡ false) λ p l k rec.
      decide_case (shape_of s) (setting_of s) t p l k (λ m. is_undefined (hop_up (shape_of s) t p m (up (shape_of s) (setting_of s) t)).end ≡ false)
      (record {
        by_v = λ _. refl;
        by_b = λ _ _. refl;
        undefined = λ _ _ off. contradiction (every p (l, k)) off;
        sent_up = λ _ _ _ _ _ r. rec r;
        blocked = λ _ _ _ _ _. refl;
        reflects = λ _ _ _ _ _. top_defined (shape_of s) t _;
        by_e = λ _ _ _ _ _. refl;
        apart = λ _ _ _ _ _ _. refl;
        across = λ _ _ q _ _ _. landed_defined false (down (shape_of s) t q).landing;
        to_host = λ _ _ _ _. refl;
        at_parent = λ _ _ _ _ _. refl;
        addressed = λ _ _ _ r _. rec r;
      })

  module _ (req : t.request ≡ true) where
    -- B on lets only an untranslated request pass
    untranslated : (p : ℕ) → (setting_of s).b p ≡ true → bad_translation (setting_of s) t p ≡ false → eqb t.address_type 2 ≡ false
    unfolding bad_translation
    untranslated p b ok =
        implies (λ two. let e : t.address_type ≡ 2 = eqb-true _ _ two in and_both (and_both req b) (rw e)) ok

    -- so that with R on and E off a peer gets nothing directly
    never_direct : (p q : ℕ) → LockedAt s p → bad_translation (setting_of s) t p ≡ false → peer_handling (shape_of s) (setting_of s) t p q ≡ Redirect
    unfolding peer_handling setting_of
    never_direct p q lock ok =
        locked_table ((setting_of s).t p) ((setting_of s).e p) ((setting_of s).r p) ((setting_of s).vector p (vector_number (shape_of s) q)) _ req
        (untranslated p lock.b ok) lock.e lock.r

    pub up_locked : Locked s → (p : ℕ) → p < (shape_of s).count → is_port ((shape_of s).kind p) ≡ true
        → unvalidated (up (shape_of s) (setting_of s) t p).end ≡ false
    unfolding shape_of
    up_locked locked =
        up_induction (shape_of s) (setting_of s) t wf (λ p r. unvalidated r.end ≡ false) λ p l k rec.
        decide_case (shape_of s) (setting_of s) t p l k (λ m. unvalidated (hop_up (shape_of s) t p m (up (shape_of s) (setting_of s) t)).end ≡ false)
        (record {
          by_v = λ _. refl;
          by_b = λ _ _. refl;
          undefined = λ _ _ _. refl;
          sent_up = λ _ _ _ _ _ r. rec r;
          blocked = λ _ _ _ _ _. refl;
          reflects = λ _ _ _ _ _. checked_validated (shape_of s) t;
          by_e = λ _ _ _ _ _. refl;
          apart = λ _ _ _ _ _ _. refl;
          across = λ ok _ q _ d _. redirect_no_direct (sym (never_direct p q (locked p (l, k)) ok.translation) ∙ d);
          to_host = λ _ _ _ _. refl;
          at_parent = λ _ _ _ _ _. refl;
          addressed = λ _ _ _ r _. rec r;
        })
