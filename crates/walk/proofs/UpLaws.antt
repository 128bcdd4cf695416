-- The way up and the reflection at the top, from what the decision at a port and the calls for it say.
use mathlib.Core.Path.{◌≡◌, refl, sym, ◌∙◌, ap, subst}
use mathlib.Core.Bool.{Bool, true, false}
use mathlib.Core.List.{List, [], ◌∷◌}
use Prim.Native.Nat.{ℕ, ◌+◌, ◌≤◌, ◌<◌}
use native.Mathlib.Omega.{arith}
use Rattle.std.specs.Prelude.{Option, Some, None}
use Rattle.rules.specs.declared.Action.{Action}
use Rattle.rules.specs.declared.Action.TheVariants.{DirectToPeer, Reflected, EndsHere}
use Rattle.rules.specs.declared.Landing.{Landing}
use Rattle.rules.specs.declared.Outcome.{Outcome}
use Rattle.rules.specs.declared.Outcome.TheVariants.{Unclaimed}
use Rattle.rules.specs.declared.Move.{Move}
use Rattle.rules.specs.declared.Move.TheVariants.{Up, Across, Reflect, Stop, Beyond}
use Rattle.rules.specs.declared.Tlp.{Tlp}
use Rattle.rules.specs.Snapshot.{complex, count, kind, is_root}
use Rattle.rules.specs.Fabric.{shape_of, setting_of}
use Rattle.rules.specs.Cover.{entry_for}
use Rattle.rules.specs.Decide.{action_number, decide}
use Rattle.rules.specs.Route.{hop, Trip, landed, arrived, down, from_top, above, hop_up, up}
use Rattle.rules.specs.Properties.{IsPort}
use Rattle.rules.specs.Accepted.{Accepted}
use Rattle.rules.proofs.Steps.{entry_in, Ascends, Rises, decide_rises, up_step}
use Rattle.walk.specs.declared.hops.Trail.{Trail}
use Rattle.walk.specs.Trails.{Extends, Descends, Walks}
use Rattle.walk.proofs.TrailLaws.{then_these}

pub by_name : {x y : Trip} {r r₁ : Trail} {e : Outcome} → x ≡ y → Walks x r e r₁ → Walks y r e r₁
by_name {r = r} {r₁} {e} is h = subst (λ (x : Trip). Walks x r e r₁) is h

-- from the top

module _ (s : List ℕ) (t : Tlp) {f : Option ℕ} (hf : f ≡ entry_for (shape_of s) t) where
  -- a root port that was found is a record
  pub entry_here : {q : ℕ} → f ≡ Some q → q < count s
  unfolding shape_of
  entry_here {q} h = entry_in (shape_of s) t q (sym hf ∙ h)

  module _ (checked : Bool) {r r₁ : Trail} where
    pub enters : {q : ℕ} {l : Landing} {e : Outcome} → f ≡ Some q → Descends (down (shape_of s) t q) r l r₁ → e ≡ landed checked l
        → Walks (from_top (shape_of s) t checked) r e r₁
    unfolding from_top
    enters {q} h x is =
        by_name {x = arrived checked (down (shape_of s) t q)} (rw (sym hf ∙ h))
        (record { end = is ∙ ap (landed checked) x.landing; trail_after = x.trail_after })

    pub enters_nowhere : f ≡ None → Extends r (hop complex (action_number EndsHere) ∷ []) r₁
        → Walks (from_top (shape_of s) t checked) r (Unclaimed complex) r₁
    unfolding from_top
    enters_nowhere h x = rw (sym hf ∙ h) (record { end = refl; trail_after = x })

-- up

-- the way up from p
abbrev pub way : List ℕ → Tlp → ℕ → Trip
way s t p = up (shape_of s) (setting_of s) t p

-- The way up from p₀ has come to the port p and to the trail r: what comes of the way from there comes of the whole.
pub record Going (s : List ℕ) (t : Tlp) (p₀ : ℕ) (r₀ : Trail) (p : ℕ) (r : Trail) : Type 0 where
  pub ok : Accepted s
  pub port : IsPort s p
  pub room : r.hops + p ≤ count s
  pub owes : (e : Outcome) (r₁ : Trail) → Walks (way s t p) r e r₁ → Walks (way s t p₀) r₀ e r₁

pub sets_out : {s : List ℕ} {t : Tlp} {p : ℕ} {r : Trail} → Accepted s → IsPort s p → r.hops + p ≤ count s → Going s t p r p r
sets_out ok port l = record { ok = ok; port = port; room = l; owes = λ _ _ x. x }

-- At the port p the move is d.
module _ {s : List ℕ} {t : Tlp} {p₀ : ℕ} {r₀ : Trail} {p : ℕ} {r : Trail} {d : Move}
    (g : Going s t p₀ r₀ p r) (hd : d ≡ decide (shape_of s) (setting_of s) t p) where
  rises : (m : Move) → d ≡ m → Rises (shape_of s) p m
  unfolding shape_of
  rises m h =
      subst (Rises (shape_of s) p) (sym hd ∙ h) (decide_rises (shape_of s) (setting_of s) t g.ok.formed p g.port.0 g.port.1)

  -- a move that leads up has a parent to go by, and a lower port above that
  pub no_root : {a : Action} → d ≡ Up a → is_root (kind s p) ≡ false
  unfolding shape_of
  no_root {a} h = let x : Ascends (shape_of s) p = rises (Up a) h in x.no_root

  pub lower : {a : Action} {q : ℕ} → d ≡ Up a → q ≡ above (shape_of s) p → q < p
  lower {a} h e = let x : Ascends (shape_of s) p = rises (Up a) h in let l = x.lower in omega arith

  -- a peer is a record
  pub peer_here : {q : ℕ} → d ≡ Across q → q < count s
  unfolding shape_of
  peer_here {q} h = (rises (Across q) h).0

  -- one hop more has room, whatever the peer
  pub peer_room : (q : ℕ) {i a : ℕ} {r₁ : Trail} → Extends r (hop i a ∷ []) r₁ → r₁.hops ≤ count s + q + 1
  peer_room q one = let a = one.counted in let b = g.room in omega arith

  -- what comes of the move m comes of the whole
  whole : (m : Move) → d ≡ m → {e : Outcome} {r₁ : Trail} → Walks (hop_up (shape_of s) t p m (way s t)) r e r₁ → Walks (way s t p₀) r₀ e r₁
  unfolding shape_of
  whole m h {e} {r₁} x =
      let step = up_step (shape_of s) (setting_of s) t g.ok.formed p g.port.0 g.port.1 in
      let here_on : way s t p ≡ hop_up (shape_of s) t p m (way s t) = rw (step, sym hd ∙ h) in
      g.owes e r₁ (by_name (sym here_on) x)

  pub goes_up : {a : Action} {q : ℕ} {r₁ : Trail} → d ≡ Up a → Extends r (hop p (action_number a) ∷ []) r₁ → q ≡ above (shape_of s) p → Going s t p₀ r₀ q r₁
  unfolding shape_of
  goes_up {a} {q} {r₁} h one hq =
      let x : Ascends (shape_of s) p = rises (Up a) h in
      let low = x.lower in
      let room = g.room in
      let n = one.counted in
      subst (λ (q : ℕ). Going s t p₀ r₀ q r₁) (sym hq) (record {
        ok = g.ok;
        port = (x.present, x.port);
        room = omega arith;
        owes = λ e r₂ y. whole (Up a) h (record { end = y.end; trail_after = then_these one y.trail_after });
      })

  pub stops : {r₁ : Trail} {e : Outcome} → d ≡ Stop e → Extends r (hop p (action_number EndsHere) ∷ []) r₁ → Walks (way s t p₀) r₀ e r₁
  stops {e = e} h one = whole (Stop e) h (record { end = refl; trail_after = one })

  module _ {r₁ r₂ : Trail} {e : Outcome} where
    pub goes_across : {q : ℕ} {l : Landing} → d ≡ Across q → Extends r (hop p (action_number DirectToPeer) ∷ []) r₁ → Descends (down (shape_of s) t q) r₁ l r₂
        → e ≡ landed false l → Walks (way s t p₀) r₀ e r₂
    goes_across {q} h one x is =
        whole (Across q) h (record { end = is ∙ ap (landed false) x.landing; trail_after = then_these one x.trail_after })

    pub goes_back : d ≡ Reflect → Extends r (hop p (action_number Reflected) ∷ []) r₁ → Walks (from_top (shape_of s) t true) r₁ e r₂
        → Walks (way s t p₀) r₀ e r₂
    goes_back h one x = whole Reflect h (record { end = x.end; trail_after = then_these one x.trail_after })

    pub stops_beyond : {node : ℕ} {a : Action} → d ≡ Beyond e node a → Extends r (hop p (action_number a) ∷ []) r₁
        → Extends r₁ (hop node (action_number EndsHere) ∷ []) r₂
        → Walks (way s t p₀) r₀ e r₂
    stops_beyond {node} {a} h one last = whole (Beyond e node a) h (record { end = refl; trail_after = then_these one last })
