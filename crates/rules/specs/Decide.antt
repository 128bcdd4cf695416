-- Going up: what port p does with a TLP that enters it. Steps 1 to 6, in their order.
use Rattle.std.specs.Prelude.{Bool, true, false, cond, ◌&&◌, not, ℕ, eqb}
use Rattle.rules.specs.declared.Handling.{Handling}
use Rattle.rules.specs.declared.Handling.TheVariants.{Direct, Redirect, Violation}
use Rattle.rules.specs.declared.Action.{Action}
use Rattle.rules.specs.declared.Action.TheVariants.{AsAddressed, RedirectedUp, UpByU, DirectToPeer, Reflected, Downward, EndsHere}
use Rattle.rules.specs.declared.Letter.{Letter}
use Rattle.rules.specs.declared.Letter.TheVariants.{Source, Translation, Egress, Validation}
use Rattle.rules.specs.declared.Outcome.TheVariants.{Host, Unclaimed, Undefined, Violated}
use Rattle.rules.specs.declared.Move.{Move}
use Rattle.rules.specs.declared.Move.TheVariants.{Up, Across, Reflect, Stop, Beyond}
use Rattle.rules.specs.declared.Tlp.{Tlp}
use Rattle.rules.specs.Below.{among}
use Rattle.rules.specs.Bytes.{within}
use Rattle.rules.specs.Snapshot.{complex, is_root}
use Rattle.rules.specs.Fabric.{Shape, Setting}
use Rattle.rules.specs.Cover.{covers, peer_of}

-- hop actions: 1 up as addressed; 2 redirected up; 3 up by U; 4 direct to a peer; 5 reflected; 6 down; 7 ends here
abbrev pub action_number : Action → ℕ
action_number AsAddressed = 1
action_number RedirectedUp = 2
action_number UpByU = 3
action_number DirectToPeer = 4
action_number Reflected = 5
action_number Downward = 6
action_number EndsHere = 7

-- A violation says "completer abort" for reads, "drop" for writes.
abbrev pub violation : Letter → Tlp → ℕ → Move
violation letter t p = Stop (Violated letter p t.completion_owed)

-- Validation blocks (violation X at that root port) or reflects; a completion is always reflected.
unfoldable pub blocks : Shape → Tlp → Bool
blocks sh t = t.request && not (sh.reflects t)

unfoldable pub at_the_top : Shape → Tlp → ℕ → Move
at_the_top sh t p = cond (blocks sh t) (violation Validation t p) Reflect

-- Up, by redirect or by U: kind 3 sends it up; a root port gives a request to validation and reflects a completion.
unfoldable pub sent_up : Shape → Tlp → ℕ → Action → Move
sent_up sh t p action = cond (is_root (sh.kind p)) (at_the_top sh t p) (Up action)

-- 1. Request, V on, requester bus outside secondary..subordinate: violation V.
unfoldable pub bad_source : Shape → Setting → Tlp → ℕ → Bool
bad_source sh st t p = t.request && st.v p && not (within (sh.secondary p) t.requester_bus.0 (sh.subordinate p))

-- 2. Request, B on, AT not 0: violation B. (V before B is ours.)
unfoldable pub bad_translation : Setting → Tlp → ℕ → Bool
bad_translation st t p = t.request && st.b p && not (eqb t.address_type 0)

-- 3. p itself covers it. U on: it goes up. U off: undefined.
unfoldable pub own_range : Shape → Setting → Tlp → ℕ → Move
own_range sh st t p = cond (st.u p) (sent_up sh t p UpByU) (Stop (Undefined p))

-- 4. by E, R and the vector bit
abbrev pub handling : Bool → Bool → Bool → Handling
handling false false bit = Direct
handling false true bit = Redirect
handling true false true = Violation
handling true false false = Direct
handling true true true = Redirect
handling true true false = Direct

-- which number of a peer its sender's vector is read by: the Port Number
abbrev pub vector_number : Shape → ℕ → ℕ
vector_number sh q = sh.port_number q

-- C redirects a completion with Relaxed Ordering clear
unfoldable pub turns_back : Setting → Tlp → ℕ → Bool
turns_back st t p = st.c p && not t.straight

-- Request: with T on and AT 2, direct to q; else by the table. Completion: redirect if C is on and Relaxed Ordering clear, else direct.
unfoldable pub peer_handling : Shape → Setting → Tlp → ℕ → ℕ → Handling
peer_handling sh st t p q =
    cond t.request
    (cond (st.t p && eqb t.address_type 2) Direct (handling (st.e p) (st.r p) (st.vector p (vector_number sh q))))
    (cond (turns_back st t p) Redirect Direct)

-- Direct between root ports with flag bit 0 clear: unclaimed at FFFFh (ours).
unfoldable pub direct : Shape → ℕ → ℕ → Move
direct sh p q = cond (is_root (sh.kind p) && not sh.roots_reach) (Beyond (Unclaimed complex) complex DirectToPeer) (Across q)

unfoldable pub handled : Shape → Tlp → ℕ → ℕ → Handling → Move
handled sh t p q Direct = direct sh p q
handled sh t p q Redirect = sent_up sh t p RedirectedUp
handled sh t p q Violation = violation Egress t p

-- 4. Sibling port q covers it.
unfoldable pub to_peer : Shape → Setting → Tlp → ℕ → ℕ → Move
to_peer sh st t p q = handled sh t p q (peer_handling sh st t p q)

-- 5. Kind 3 whose parent covers it: unclaimed at that parent. Otherwise it enters the port above the parent.
unfoldable pub past_parent : Shape → Tlp → ℕ → Move
past_parent sh t p =
    cond (covers sh t (sh.parent p)) (Beyond (Unclaimed (sh.parent p)) (sh.parent p) AsAddressed) (Up AsAddressed)

-- 6. Root port: it reaches the host.
unfoldable pub onward : Shape → Tlp → ℕ → Move
onward sh t p = cond (is_root (sh.kind p)) (Beyond Host complex AsAddressed) (past_parent sh t p)

unfoldable pub decide : Shape → Setting → Tlp → ℕ → Move
decide sh st t p =
    cond (bad_source sh st t p) (violation Source t p)
    (cond (bad_translation st t p) (violation Translation t p)
    (cond (covers sh t p) (own_range sh st t p)
    (among (peer_of sh t p) (to_peer sh st t p) (onward sh t p))))
