-- The way from an origin: which walk it takes.
use mathlib.Core.Path.{◌≡◌, sym, ◌∙◌, ap, subst}
use mathlib.Core.Bool.{true, false}
use mathlib.Core.List.{List}
use Prim.Native.Nat.{ℕ, ◌+◌, ◌≤◌, ◌<◌}
use native.Mathlib.Omega.{arith}
use borrow.Author.Tests.{eq-eqb, eqb-true}
use Rattle.rules.specs.declared.Outcome.{Outcome}
use Rattle.rules.specs.declared.Tlp.{Tlp}
use Rattle.rules.specs.Snapshot.{complex, count, parent}
use Rattle.rules.specs.Fabric.{shape_of, setting_of}
use Rattle.rules.specs.Route.{from_top, up, route}
use Rattle.rules.specs.Bound.{most_hops}
use Rattle.rules.specs.Refuse.{is_origin}
use Rattle.rules.specs.Properties.{IsPort, IsEndpoint}
use Rattle.rules.specs.Accepted.{Accepted}
use Rattle.rules.proofs.Entered.{Entered, endpoint_entered, endpoint_way, host_way, origin_case, few_hops_of}
use Rattle.walk.specs.declared.Walked.{Walked}
use Rattle.walk.specs.declared.hops.Trail.{Trail}
use Rattle.walk.specs.Trails.{Walks}
use Rattle.walk.specs.Ways.{walked_from}
use Rattle.walk.proofs.UpLaws.{by_name}

module _ (s : List ℕ) (t : Tlp) (o : ℕ) where
  pub walks_down : {r r₁ : Trail} {e : Outcome} → o ≡ complex → Walks (from_top (shape_of s) t false) r e r₁
      → Walks (route (shape_of s) (setting_of s) t o) r e r₁
  walks_down host x = by_name (sym (host_way s o t (eq-eqb o complex host))) x

  module _ (ok : Accepted s) (origin : is_origin s o ≡ true) (ne : o ≡ complex → ⊥) where
    -- an origin that is not the host is an endpoint, under a port
    endpoint : IsEndpoint s o
    endpoint = origin_case s o origin (λ e. absurd (ne (eqb-true o complex e))) (λ e. e)

    pub endpoint_here : o < count s
    endpoint_here = endpoint.0

    pub under_port : {p : ℕ} → p ≡ parent s o → IsPort s p
    unfolding shape_of
    under_port e =
        let x : Entered (shape_of s) (parent s o) = endpoint_entered s ok.formed o endpoint in
        subst (λ (p : ℕ). IsPort s p) (sym e) (x.present, x.port)

    pub under_low : {p k : ℕ} → p ≡ parent s o → k ≡ 0 → k + p ≤ count s
    under_low e z = let l = (under_port e).0 in omega arith

    pub walks_up : {p : ℕ} {r r₁ : Trail} {e : Outcome} → p ≡ parent s o → Walks (up (shape_of s) (setting_of s) t p) r e r₁
        → Walks (route (shape_of s) (setting_of s) t o) r e r₁
    unfolding shape_of
    walks_up under x = by_name (sym (endpoint_way s o t ok.few endpoint ∙ ap (up (shape_of s) (setting_of s) t) (sym under))) x

-- no way has more than 257 hops
pub few_walked : (s : List ℕ) (t : Tlp) (o : ℕ) {r : Walked} → Accepted s → is_origin s o ≡ true
    → r ≡ walked_from 0 (route (shape_of s) (setting_of s) t o) → r.hops ≤ most_hops
few_walked s t o {r} ok origin e =
    let few = few_hops_of s ok o origin t in
    let is = ap (λ (w : Walked). w.hops) e in
    omega arith
