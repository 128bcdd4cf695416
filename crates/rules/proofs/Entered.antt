-- What an accepted snapshot and an accepted origin give the routes.
use mathlib.Core.Path.{◌≡◌, subst, sym, ◌∙◌}
use mathlib.Core.Bool.{false, true, ◌&&◌}
use mathlib.Core.List.{List}
use Prim.Native.Nat.{ℕ, ◌+◌, ◌≤◌, ◌<◌}
use native.Mathlib.Omega.{arith}
use lib.Dec.{eqb, ltb}
use lib.ListN.{length}
use borrow.Author.Tests.{ltb-true, eqb-true, ne_eqb}
use Rattle.rules.specs.Snapshot.{count, kind, parent, is_endpoint, is_port, complex}
use Rattle.rules.specs.Fabric.{Shape, shape_of, setting_of}
use Rattle.rules.specs.declared.Tlp.{Tlp}
use Rattle.rules.specs.Tlp.{tlp_of}
use Rattle.rules.specs.Route.{Trip, up, from_top, start, route}
use Rattle.rules.specs.Refuse.{result, answered, is_origin, routed}
use Rattle.rules.specs.Properties.{WellFormed, IsEndpoint}
use Rattle.rules.specs.Accepted.{Accepted}
use Rattle.rules.specs.Bound.{ports, depth, most_hops}
use Rattle.rules.proofs.Logic.{both, or_case}
use Rattle.rules.proofs.Gates.{Answered, result_answered}
use Rattle.rules.proofs.Accepted.{accepted}
use Rattle.rules.proofs.Covered.{parent_present}
use Rattle.rules.proofs.Hops.{ports_depth, depth_most, top_hops, up_hops}

-- the port above an endpoint
pub record Entered (sh : Shape) (p : ℕ) : Type 0 where
  pub present : p < sh.count
  pub port : is_port (sh.kind p) ≡ true

pub endpoint_entered : (s : List ℕ) → WellFormed (shape_of s) → (o : ℕ) → IsEndpoint s o → Entered (shape_of s) ((shape_of s).parent o)
unfolding shape_of
endpoint_entered s wf o e =
    let k : kind s o ≡ 4 = eqb-true _ _ e.1 in
    record { present = parent_present (shape_of s) wf o e.0 (rw k); port = wf.under_port o e.0 (rw k) }

-- an endpoint's route enters the port above it
pub endpoint_way : (s : List ℕ) (o : ℕ) (t : Tlp) → count s ≤ 256 → IsEndpoint s o
    → route (shape_of s) (setting_of s) t o ≡ up (shape_of s) (setting_of s) t ((shape_of s).parent o)
unfolding route start
endpoint_way s o t few e = let l : o < count s = e.0 in rw (ne_eqb o complex (λ z. omega arith))

pub host_way : (s : List ℕ) (o : ℕ) (t : Tlp) → eqb o complex ≡ true → route (shape_of s) (setting_of s) t o ≡ from_top (shape_of s) t false
unfolding route
host_way s o t e = rw e

pub endpoint_route : (s : List ℕ) (o : ℕ) (h : List ℕ) → count s ≤ 256 → IsEndpoint s o
    → routed s o h ≡ up (shape_of s) (setting_of s) (tlp_of h) ((shape_of s).parent o)
unfolding routed
endpoint_route s o h few e = endpoint_way s o (tlp_of h) few e

pub host_route : (s : List ℕ) (o : ℕ) (h : List ℕ) → eqb o complex ≡ true → routed s o h ≡ from_top (shape_of s) (tlp_of h) false
unfolding routed
host_route s o h e = host_way s o (tlp_of h) e

-- the origins there are
pub origin_case : (s : List ℕ) (o : ℕ) {A : Type 0} → is_origin s o ≡ true → (eqb o complex ≡ true → A) → (IsEndpoint s o → A) → A
unfolding is_origin
origin_case s o h f g =
    or_case (eqb o complex) (ltb o (count s) && is_endpoint (kind s o)) h f
    (λ p. let (a, b) = both (ltb o (count s)) (is_endpoint (kind s o)) p in g (ltb-true _ _ a, b))

-- never above 257 hops, whatever the TLP
pub few_hops_of : (s : List ℕ) → Accepted s → (o : ℕ) → is_origin s o ≡ true → (t : Tlp)
    → length (route (shape_of s) (setting_of s) t o).hops ≤ most_hops
unfolding shape_of
few_hops_of s ok o origin t =
    let few = ok.few in
    let d : depth (shape_of s) ≤ 128 = depth_most (shape_of s) ok.formed ok.few in
    origin_case s o origin
    (λ host.
    let a : length (from_top (shape_of s) t false).hops ≤ depth (shape_of s) + 1 = top_hops (shape_of s) ok.formed t ok.few false in
    rw (host_way s o t host) (omega arith))
    (λ e.
    let x : Entered (shape_of s) (parent s o) = endpoint_entered s ok.formed o e in
    let a : length (up (shape_of s) (setting_of s) t (parent s o)).hops ≤ ports (shape_of s) (parent s o) + depth (shape_of s) + 1 =
    up_hops (shape_of s) ok.formed t ok.few (setting_of s) (parent s o) x.present x.port in
    let b : ports (shape_of s) (parent s o) ≤ depth (shape_of s) = ports_depth (shape_of s) ok.formed (parent s o) x.present in
    rw (endpoint_way s o t ok.few e) (omega arith))

pub few_hops : (s : List ℕ) → Accepted s → (o : ℕ) → is_origin s o ≡ true → (h : List ℕ) → length (routed s o h).hops ≤ most_hops
unfolding routed
few_hops s ok o origin h = few_hops_of s ok o origin (tlp_of h)

module _ (s : List ℕ) (now o : ℕ) (h : List ℕ) (room : ℕ) (r : Trip) (ans : result s now o h room ≡ answered r) (P : Trip → Type 0) where
  -- what holds of every way up holds of the answer to an endpoint
  pub endpoint_answer : IsEndpoint s o
      → (Accepted s → (p : ℕ) → p < (shape_of s).count → is_port ((shape_of s).kind p) ≡ true → P (up (shape_of s) (setting_of s) (tlp_of h) p)) → P r
  endpoint_answer e f =
      let a : Answered s now o h room r = result_answered s now o h room r ans in
      let ok : Accepted s = accepted s now a.read in
      let x : Entered (shape_of s) ((shape_of s).parent o) = endpoint_entered s ok.formed o e in
      subst P (sym (endpoint_route s o h ok.few e) ∙ a.route_is) (f ok ((shape_of s).parent o) x.present x.port)

  -- and with the way from the top, of every answer
  pub any_answer : P (from_top (shape_of s) (tlp_of h) false)
      → (Accepted s → (p : ℕ) → p < (shape_of s).count → is_port ((shape_of s).kind p) ≡ true → P (up (shape_of s) (setting_of s) (tlp_of h) p)) → P r
  any_answer top f =
      let a : Answered s now o h room r = result_answered s now o h room r ans in
      origin_case s o a.origin (λ host. subst P (sym (host_route s o h host) ∙ a.route_is) top) (λ e. endpoint_answer e f)
