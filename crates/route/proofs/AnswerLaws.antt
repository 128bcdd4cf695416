-- The whole answer, from what the tests and the walks of the code say.
use mathlib.Core.Path.{◌≡◌, refl, sym, ◌∙◌, ap}
use mathlib.Core.Bool.{Bool, true, false, cond}
use mathlib.Core.List.{List}
use Prim.Native.Nat.{ℕ, ◌+◌, ◌*◌, ◌/◌, ◌≤◌, ◌<◌}
use native.Mathlib.Omega.{arith}
use lib.ListN.{length}
use lib.Dec.{leb}
use borrow.Author.Tests.{le-leb, leb-true}
use Rattle.std.specs.Prelude.{Option, Some, None, Ok, Err}
use Rattle.rules.specs.declared.Tlp.{Tlp}
use Rattle.rules.specs.declared.Refusal.{Refusal}
use Rattle.rules.specs.declared.Refusal.TheVariants.{Origin, Header, Room}
use Rattle.rules.specs.declared.Refused.{Refused}
use Rattle.rules.specs.declared.Ended.{Ended}
use Rattle.rules.specs.Tlp.{header_fine, tlp_of}
use Rattle.rules.specs.Route.{Trip}
use Rattle.rules.specs.Bound.{room_for_all}
use Rattle.rules.specs.Refuse.{Result, refused, answered, read_gates, through, fits, is_origin, routed, result, verdict, written}
use Rattle.rules.specs.Word.{Answer, result_fields, number_of, refused_for}
use Rattle.rules.specs.Accepted.{Accepted}
use Rattle.rules.proofs.Gates.{through_open, through_refused}
use Rattle.rules.proofs.Logic.{same_test}
use Rattle.tlp.specs.Header.{header_read}
use Rattle.walk.specs.declared.Walked.{Walked}
use Rattle.walk.specs.Ways.{walked_from}
use Rattle.walk.specs.Hops.{puts}
use Rattle.walk.proofs.HopsLaws.{puts_room}
use Rattle.walk.proofs.WayLaws.{few_walked}
use Rattle.route.specs.Parts.{Answers, trip, finished, asked}

-- a hop count fits 16 bits
pub count_fits : (s : List ℕ) (t : Tlp) (o : ℕ) (w : Walked) → Accepted s → is_origin s o ≡ true → w ≡ walked_from 0 (trip s t o)
    → w.hops < 65536
count_fits s t o w ok origin e = let few = few_walked s t o ok origin e in omega arith

by_name : {x y : Result Trip} {b : List ℕ} {a : Answer} {b₁ : List ℕ} → x ≡ y → Answers x b a b₁ → Answers y b a b₁
by_name {b = b} e h = record { says = h.says ∙ ap result_fields e; leaves = h.leaves ∙ ap (λ (r : Result Trip). written r b) e }

-- a refusal says its number and leaves the buffer as it is
refuses : {x : Result Trip} {b : List ℕ} (y : Refused) → refused (number_of y.why) y.index ≡ x → Answers x b (Err y) b
refuses y e = by_name e (record { says = refl; leaves = refl })

-- one without an index, by what a refusal is converted to
pub refuses_for : {x : Result Trip} {b : List ℕ} (why : Refusal) {y : Refused} → y ≡ refused_for why → refused (number_of why) 0 ≡ x
    → Answers x b (Err y) b
refuses_for why e h = rw e (refuses (refused_for why) h)

-- refusal 7

module _ (s : List ℕ) (t : Tlp) (o : ℕ) where
  -- a count tells whether the hops have room, and where there is room for 257 hops no count is needed
  pub room_counted : {w : Walked} (room : ℕ) → w ≡ walked_from 0 (trip s t o) → leb w.hops (room / 4) ≡ fits (trip s t o) room
  unfolding fits
  room_counted {w} room hw =
      let n : w.hops ≡ 0 + length (trip s t o).hops = ap (λ (w : Walked). w.hops) hw in
      same_test (leb w.hops (room / 4)) (leb (4 * length (trip s t o).hops) room)
      (λ h. le-leb _ _ (omega (arith, leb-true w.hops (room / 4) h)))
      (λ h. le-leb _ _ (omega (arith, leb-true (4 * length (trip s t o).hops) room h)))

  pub room_for_most : {room : ℕ} → Accepted s → is_origin s o ≡ true → room_for_all ≤ room → true ≡ fits (trip s t o) room
  unfolding fits
  room_for_most {room} ok origin l =
      let few = few_walked s t o {r = walked_from 0 (trip s t o)} ok origin refl in
      sym (le-leb (4 * length (trip s t o).hops) room (omega arith))

module _ (s : List ℕ) (t : Tlp) (o : ℕ) (b : List ℕ) where
  -- where the hops have room, they are written from the buffer's start
  pub writes : {w : Walked} {b₁ : List ℕ} → fits (trip s t o) (length b) ≡ true → w ≡ walked_from 0 (trip s t o)
      → b₁ ≡ puts b 0 (trip s t o).hops → Answers (answered (trip s t o)) b (Ok (record { end = w.end; count = w.hops })) b₁
  unfolding fits
  writes {w} {b₁} f hw hb =
      let r : 4 * length (trip s t o).hops ≤ length b = leb-true (4 * length (trip s t o).hops) (length b) f in
      let z : 0 + length (trip s t o).hops ≡ length (trip s t o).hops = omega arith in
      record { says = rw (hw, z); leaves = hb ∙ puts_room (trip s t o).hops b 0 (omega arith) ∙ rw z }

  module _ {f : Bool} (hf : f ≡ fits (trip s t o) (length b)) where
    pub room_enough : f ≡ true → fits (trip s t o) (length b) ≡ true
    room_enough on = sym hf ∙ on

    pub finish_fits : {y : Ended} {b₁ : List ℕ} → f ≡ true → Answers (answered (trip s t o)) b (Ok y) b₁
        → Answers (finished (trip s t o) (length b)) b (Ok y) b₁
    unfolding through
    finish_fits on x = by_name (rw (sym hf ∙ on)) x

    pub finish_full : {y : Refused} → f ≡ false → y ≡ refused_for Room → Answers (finished (trip s t o) (length b)) b (Err y) b
    unfolding through
    finish_full off e = refuses_for Room e (rw (sym hf ∙ off))

-- refusals 5 and 6

good_case : (f : Bool) (t u : Tlp) → cond f (Some u) None ≡ Some t → (f ≡ true) × (t ≡ u)
good_case true t u h = (refl, cc)
good_case false t u h = let z : ◌≡◌ {A = ℕ} 0 1 = cc in absurd (omega arith)

bad_case : (f : Bool) (u : Tlp) → cond f (Some u) None ≡ None → f ≡ false
bad_case true u h = let z : ◌≡◌ {A = ℕ} 0 1 = cc in absurd (omega arith)
bad_case false u h = refl

module _ (s : List ℕ) (o : ℕ) (h b : List ℕ) {is : Bool} (ho : is ≡ is_origin s o) where
  pub is_origin_lem : is ≡ true → is_origin s o ≡ true
  is_origin_lem on = sym ho ∙ on

  pub ask_stray : {y : Refused} → is ≡ false → y ≡ refused_for Origin → Answers (asked s o h (length b)) b (Err y) b
  unfolding through
  ask_stray off e = refuses_for Origin e (rw (sym ho ∙ off))

  module _ {x : Option Tlp} (on : is ≡ true) (hx : x ≡ header_read h) where
    pub ask_bad : {y : Refused} → x ≡ None → y ≡ refused_for Header → Answers (asked s o h (length b)) b (Err y) b
    unfolding through header_read
    ask_bad bad e = refuses_for Header e (rw (sym ho ∙ on, bad_case (header_fine h) (tlp_of h) (sym hx ∙ bad)))

    pub ask_good : {t t₁ : Tlp} {s₁ : List ℕ} {a : Answer} {b₁ : List ℕ} → x ≡ Some t → s₁ ≡ s → t₁ ≡ t
        → Answers (finished (trip s₁ t₁ o) (length b)) b a b₁ → Answers (asked s o h (length b)) b a b₁
    unfolding through header_read routed
    ask_good {t} good same is y =
        let (f, e) = good_case (header_fine h) t (tlp_of h) (sym hx ∙ good) in by_name (rw (same, is, sym ho ∙ on, f, e)) y

-- refusals 1 to 4

module _ (s : List ℕ) (time o : ℕ) (h b : List ℕ) where
  pub route_refused : {y : Refused} → verdict s time ≡ refused (number_of y.why) y.index → Answers (result s time o h (length b)) b (Err y) b
  unfolding result verdict
  route_refused {y} e = refuses y (sym (through_refused (read_gates s time) (number_of y.why) y.index _ e))

  pub route_asked : {s₁ : List ℕ} {a : Answer} {b₁ : List ℕ} → s₁ ≡ s → verdict s time ≡ answered tt
      → Answers (asked s₁ o h (length b)) b a b₁ → Answers (result s time o h (length b)) b a b₁
  unfolding result verdict
  route_asked same e y = by_name (rw same (sym (through_open (read_gates s time) _ e))) y
