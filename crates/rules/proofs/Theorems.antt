-- What holds of a fleet's settings, of snapshots as bytes and of the very definitions that the library's promises cite.
-- Each statement needs only itself and the definitions that it names.
use mathlib.Core.Path.{◌≡◌, refl, sym, ◌∙◌, ap, subst}
use mathlib.Core.Bool.{true, false}
use mathlib.Core.List.{List}
use Prim.Native.Nat.{ℕ, zero, suc, ◌+◌, ◌*◌, ◌≤◌}
use native.Mathlib.Omega.{arith}
use lib.Dec.{lit<}
use lib.ListN.{length}
use borrow.Author.Tests.{le-leb}
use Rattle.rules.specs.declared.Outcome.TheVariants.{Delivered, Undefined}
use Rattle.rules.specs.Bytes.{byte}
use Rattle.rules.specs.Snapshot.{parent, kind, is_root, complex}
use Rattle.rules.specs.Fabric.{Shape, shape_of, setting_of}
use Rattle.rules.specs.Tlp.{is_request, tlp_of}
use Rattle.rules.specs.declared.Tlp.{Tlp}
use Rattle.rules.specs.Cover.{covers}
use Rattle.rules.specs.Route.{Trip, above, up}
use Rattle.rules.specs.Refuse.{refused, answered, through, fits, verdict, routed, result}
use Rattle.rules.specs.Properties.{AreBytes, OneWay, IsPort, IsEndpoint, EveryU, Locked, was_sent_up, port_above, Answerable}
use Rattle.rules.specs.Accepted.{Accepted}
use Rattle.rules.specs.Tight.{Alike, AtLeastAsTight}
use Rattle.rules.specs.Bound.{ports, depth, hop_bound, most_hops, room_for_all}
use Rattle.rules.proofs.Logic.{contradiction}
use Rattle.rules.proofs.Entered.{host_route, endpoint_answer, any_answer, Entered, endpoint_entered, endpoint_route, few_hops}
use Rattle.rules.proofs.Gates.{Answered, result_past, result_answered, answered_result}
use Rattle.rules.proofs.Accepted.{accepted}
use Rattle.rules.proofs.Covered.{unvalidated, claimed_above, top_not_sent, sent_answerable}
use Rattle.rules.proofs.Steps.{Ascends, ascends}
use Rattle.rules.proofs.Hops.{ports_depth, top_hops, up_hops}
use Rattle.rules.proofs.Unique.{one_way}
use Rattle.rules.proofs.Alike.{same_count, same_kind, same_shape, same_origin}
use Rattle.rules.proofs.Tighter.{tight_up}
use Rattle.rules.proofs.Strict.{is_undefined, top_defined, up_defined, up_locked}

-- 1. Tighter never opens. Two accepted snapshots alike in every byte but the Control registers and the vectors, the second at least as
-- tight as the first: a memory request from an endpoint that the second delivers unvalidated has the very same answer under the first.
pub tighter_never_opens :
    (old new : List ℕ) (now o : ℕ) (h : List ℕ) (room : ℕ) (r : Trip) (i : ℕ)
    → AreBytes new → Alike old new → AtLeastAsTight old new
    → verdict old now ≡ answered tt
    → result new now o h room ≡ answered r
    → IsEndpoint new o → is_request (byte h 0) ≡ true
    → r.end ≡ Delivered i false
    → result old now o h room ≡ answered r
unfolding shape_of tlp_of
tighter_never_opens old new now o h room r i bytes alike tight ok ans e req del =
    let a : Answered new now o h room r = result_answered new now o h room r ans in
    let was : Accepted old = accepted old now ok in
    let is : Accepted new = accepted new now a.read in
    let inn : Entered (shape_of new) ((shape_of new).parent o) = endpoint_entered new is.formed o e in
    let e-old : IsEndpoint old o = rw (same_count old new alike, same_kind old new alike o) e in
    let now-up : up (shape_of new) (setting_of new) (tlp_of h) ((shape_of new).parent o) ≡ r = sym (endpoint_route new o h is.few e) ∙ a.route_is in
    let one :
    up (shape_of new) (setting_of old) (tlp_of h) ((shape_of new).parent o)
    ≡ up (shape_of new) (setting_of new) (tlp_of h) ((shape_of new).parent o) =
    tight_up old new bytes alike tight (tlp_of h) req is.formed is.nested is.few ((shape_of new).parent o) inn.present inn.port
    (ap (λ (x : Trip). unvalidated x.end) now-up ∙ ap unvalidated del) in
    answered_result old now o h room r
    (record {
      read = ok;
      origin = same_origin old new alike o ∙ a.origin;
      header = a.header;
      room_for = a.room_for;
      route_is = endpoint_route old o h was.few e-old
          ∙ ap (λ (sh : Shape). up sh (setting_of old) (tlp_of h) (sh.parent o)) (same_shape old new alike) ∙ one ∙ now-up;
    })

-- 2. Nothing undefined. With U on at every root and downstream port no TLP, request or completion, whatever its origin, ends undefined.
pub nothing_undefined :
    (s : List ℕ) (now o : ℕ) (h : List ℕ) (room : ℕ) (r : Trip) (p : ℕ)
    → EveryU s
    → result s now o h room ≡ answered r
    → r.end ≡ Undefined p → ⊥
nothing_undefined s now o h room r p every ans und =
    contradiction (ap is_undefined und)
    (any_answer s now o h room r ans (λ (x : Trip). is_undefined x.end ≡ false) (top_defined (shape_of s) (tlp_of h) false)
    (λ is. up_defined s (tlp_of h) is.formed every))

-- 3. The lock. With V, B and R on and E off besides at every root and downstream port, no memory request from an endpoint is
-- delivered to any endpoint unvalidated.
pub the_lock :
    (s : List ℕ) (now o : ℕ) (h : List ℕ) (room : ℕ) (r : Trip) (i : ℕ)
    → Locked s
    → result s now o h room ≡ answered r
    → IsEndpoint s o → is_request (byte h 0) ≡ true
    → r.end ≡ Delivered i false → ⊥
unfolding tlp_of
the_lock s now o h room r i locked ans e req del =
    contradiction (ap unvalidated del)
    (endpoint_answer s now o h room r ans (λ (x : Trip). unvalidated x.end ≡ false) e
    (λ is. up_locked s (tlp_of h) is.formed req locked))

-- 4. The hop bound. An endpoint's TLP makes at most 2D + 1 hops;
pub hop_bound_lem :
    (s : List ℕ) (now o : ℕ) (h : List ℕ) (room : ℕ) (r : Trip)
    → result s now o h room ≡ answered r
    → IsEndpoint s o
    → length r.hops ≤ hop_bound (shape_of s)
unfolding shape_of
hop_bound_lem s now o h room r ans e =
    endpoint_answer s now o h room r ans (λ (x : Trip). length x.hops ≤ hop_bound (shape_of s)) e
    (λ is p l k.
    let a : length (up (shape_of s) (setting_of s) (tlp_of h) p).hops ≤ ports (shape_of s) p + depth (shape_of s) + 1 =
    up_hops (shape_of s) is.formed (tlp_of h) is.few (setting_of s) p l k in
    let b : ports (shape_of s) p ≤ depth (shape_of s) = ports_depth (shape_of s) is.formed p l in
    omega arith)

-- the host's makes at most D + 1;
pub host_hop_bound :
    (s : List ℕ) (now : ℕ) (h : List ℕ) (room : ℕ) (r : Trip)
    → result s now complex h room ≡ answered r
    → length r.hops ≤ depth (shape_of s) + 1
unfolding shape_of
host_hop_bound s now h room r ans =
    let a : Answered s now complex h room r = result_answered s now complex h room r ans in
    let is : Accepted s = accepted s now a.read in
    subst (λ (x : Trip). length x.hops ≤ depth (shape_of s) + 1) (sym (host_route s complex h refl) ∙ a.route_is)
    (top_hops (shape_of s) is.formed (tlp_of h) is.few false)

-- and D is at most 128: whatever the origin, never above 257;
pub never_above_257 :
    (s : List ℕ) (now o : ℕ) (h : List ℕ) (room : ℕ) (r : Trip)
    → result s now o h room ≡ answered r
    → length r.hops ≤ most_hops
never_above_257 s now o h room r ans =
    let a : Answered s now o h room r = result_answered s now o h room r ans in
    subst (λ (x : Trip). length x.hops ≤ most_hops) a.route_is (few_hops s (accepted s now a.read) o a.origin h)

-- so a buffer of 1,028 bytes is always enough: refusal 7 is never given for one.
pub room_enough :
    (s : List ℕ) (now o : ℕ) (h : List ℕ) (room i : ℕ)
    → room_for_all ≤ room
    → result s now o h room ≡ refused 7 i → ⊥
unfolding fits through
room_enough s now o h room i enough ref =
    let (read, origin, header, last) = result_past s now o h room (refused 7 i) (lit< tt) ref in
    let just : ℕ = 4 * length (routed s o h).hops in
    let room_for : fits (routed s o h) just ≡ true = le-leb just just (omega arith) in
    let ans : result s now o h just ≡ answered (routed s o h) =
    answered_result s now o h just (routed s o h)
    (record { read = read; origin = origin; header = header; room_for = room_for; route_is = refl }) in
    let b : length (routed s o h).hops ≤ most_hops = never_above_257 s now o h (4 * length (routed s o h).hops) (routed s o h) ans in
    let f : fits (routed s o h) room ≡ true = le-leb (4 * length (routed s o h).hops) room (omega arith) in
    let z : answered (routed s o h) ≡ refused 7 i = rw f at last in
    let c : ◌≡◌ {A = ℕ} 0 1 = cc in
    omega arith

-- 5. One way only. In an accepted snapshot at most one sibling covers a TLP, and no search on a route has a choice;
pub one_way_only :
    (s : List ℕ) (now : ℕ) (t : Tlp)
    → verdict s now ≡ answered tt
    → OneWay (shape_of s) t
unfolding shape_of
one_way_only s now t ok =
    let is : Accepted s = accepted s now ok in
    one_way s is.faultless is.formed is.few t

-- a TLP that port p sends up, because p or its sibling port q covers it, is covered at the port above, and so at every port above;
pub covered_above :
    (s : List ℕ) (now : ℕ) (t : Tlp) (p q : ℕ)
    → verdict s now ≡ answered tt
    → IsPort s p → is_root (kind s p) ≡ false
    → IsPort s q → parent s q ≡ parent s p
    → covers (shape_of s) t q ≡ true
    → IsPort s (above (shape_of s) p) × (covers (shape_of s) t (above (shape_of s) p) ≡ true)
unfolding shape_of
covered_above s now t p q ok at_p r at-q e c =
    let is : Accepted s = accepted s now ok in
    let x : Ascends (shape_of s) p = ascends (shape_of s) is.formed p at_p.0 at_p.1 r in (
      (x.present, x.port),
      claimed_above (shape_of s) is.formed is.nested is.few t p q at_p.0 at_p.1 r
          (record { present = at-q.0; port = at-q.1; sibling = e; covering = c }),
    )

-- .. which is to say: as long as the ports on the way are no root ports, n + 1 steps up lead to a port that covers it;
pub covered_at_every_port_above :
    (s : List ℕ) (now : ℕ) (t : Tlp) (p q n : ℕ)
    → verdict s now ≡ answered tt
    → IsPort s p → IsPort s q → parent s q ≡ parent s p
    → covers (shape_of s) t q ≡ true
    → ((k : ℕ) → k ≤ n → is_root (kind s (port_above (shape_of s) k p)) ≡ false)
    → IsPort s (port_above (shape_of s) (suc n) p) × (covers (shape_of s) t (port_above (shape_of s) (suc n) p) ≡ true)
unfolding port_above
covered_at_every_port_above s now t p q zero ok at_p at-q e c r = covered_above s now t p q ok at_p (r 0 (omega arith)) at-q e c
covered_at_every_port_above s now t p q (suc n) ok at_p at-q e c r =
    let (port, covering) = covered_at_every_port_above s now t p q n ok at_p at-q e c (λ k l. r k (omega arith)) in
    covered_above s now t (port_above (shape_of s) (suc n) p) (port_above (shape_of s) (suc n) p) ok port (r (suc n) (omega arith)) port refl covering

-- so it ends in a checked delivery, unclaimed at the root port that it is reflected through or below it, violation V, B or X, or
-- undefined: never at the host, and never in an unvalidated delivery.
pub sent_up_is_answered_for :
    (s : List ℕ) (now o : ℕ) (h : List ℕ) (room : ℕ) (r : Trip)
    → result s now o h room ≡ answered r
    → was_sent_up r.hops ≡ true
    → Answerable r.end
unfolding shape_of
sent_up_is_answered_for s now o h room r ans =
    any_answer s now o h room r ans (λ (x : Trip). was_sent_up x.hops ≡ true → Answerable x.end)
    (λ sent. contradiction sent (top_not_sent (shape_of s) (tlp_of h) false))
    (λ is. sent_answerable (shape_of s) (setting_of s) (tlp_of h) is.formed is.nested is.few)
