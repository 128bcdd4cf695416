-- The way down, from what the decision at a port and the calls for it say.
use mathlib.Core.Path.{◌≡◌, refl, sym, ◌∙◌, subst}
use mathlib.Core.List.{List, [], ◌∷◌}
use Prim.Native.Nat.{ℕ, ◌+◌, ◌-◌, ◌≤◌, ◌<◌}
use native.Mathlib.Omega.{arith}
use Rattle.rules.specs.declared.Landing.{Landing}
use Rattle.rules.specs.declared.Landing.TheVariants.{Nobody}
use Rattle.rules.specs.declared.Down.{Down}
use Rattle.rules.specs.declared.Down.TheVariants.{Into, Lands, Alone}
use Rattle.rules.specs.declared.Tlp.{Tlp}
use Rattle.rules.specs.Snapshot.{count}
use Rattle.rules.specs.Fabric.{shape_of}
use Rattle.rules.specs.declared.Action.TheVariants.{Downward, EndsHere}
use Rattle.rules.specs.Decide.{action_number}
use Rattle.rules.specs.Route.{Way, hop, lands_at, next_down, hop_down, down}
use Rattle.rules.proofs.Steps.{Descending, next_descending, down_step}
use Rattle.walk.specs.declared.hops.Trail.{Trail}
use Rattle.walk.specs.Trails.{Extends, Descends}
use Rattle.walk.proofs.TrailLaws.{then_these}

-- At port p the decision is d.
module _ (s : List ℕ) (t : Tlp) (p : ℕ) {d : Down} (here : p < count s) (hd : d ≡ next_down (shape_of s) t p) where
  descending : (m : Down) → d ≡ m → Descending (count s) p m
  unfolding shape_of
  descending m h = subst (Descending (count s) p) (sym hd ∙ h) (next_descending (shape_of s) t p here)

  -- the port that comes next is a record, and stands higher
  pub into_here : {q : ℕ} → d ≡ Into q → q < count s
  into_here {q} h = (descending (Into q) h).1

  -- .. so that fewer records are left above it, and the hops have room
  pub into_falls : {q m : ℕ} → count s - p ≡ m → d ≡ Into q → count s - q < m
  into_falls {q} e h = let l = descending (Into q) h in let a = l.0 in let b = l.1 in omega arith

  pub into_room : {q : ℕ} {r r₁ : Trail} {i a : ℕ} → r.hops ≤ count s + p + 1 → Extends r (hop i a ∷ []) r₁ → d ≡ Into q → r₁.hops ≤ count s + q + 1
  into_room {q} l one h = let a = (descending (Into q) h).0 in let e = one.counted in omega arith

  -- what the decision m leads to is the way down
  whole : {r r₁ : Trail} {l : Landing} (m : Down) → d ≡ m → Descends (hop_down p m (down (shape_of s) t)) r l r₁
      → Descends (down (shape_of s) t p) r l r₁
  unfolding shape_of
  whole {r} {r₁} {l} m h x =
      let way : down (shape_of s) t p ≡ hop_down p m (down (shape_of s) t) = rw (down_step (shape_of s) t p here, sym hd ∙ h) in
      subst (λ (w : Way). Descends w r l r₁) (sym way) x

  module _ {r r₁ r₂ : Trail} {l : Landing} where
    pub goes_into : {q : ℕ} → d ≡ Into q → Extends r (hop p (action_number Downward) ∷ []) r₁ → Descends (down (shape_of s) t q) r₁ l r₂
        → Descends (down (shape_of s) t p) r l r₂
    goes_into {q} h one rest = whole (Into q) h (record { landing = rest.landing; trail_after = then_these one rest.trail_after })

    pub lands_below : {i : ℕ} → d ≡ Lands l → Extends r (hop p (action_number Downward) ∷ []) r₁ → i ≡ lands_at l
        → Extends r₁ (hop i (action_number EndsHere) ∷ []) r₂
        → Descends (down (shape_of s) t p) r l r₂
    lands_below h one e last =
        whole (Lands l) h
        (record { landing = refl; trail_after = then_these one (subst (λ i. Extends r₁ (hop i (action_number EndsHere) ∷ []) r₂) e last) })

  pub stays_alone : {r r₁ : Trail} → d ≡ Alone → Extends r (hop p (action_number EndsHere) ∷ []) r₁ → Descends (down (shape_of s) t p) r (Nobody p) r₁
  stays_alone h one = whole Alone h (record { landing = refl; trail_after = one })
