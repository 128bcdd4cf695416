-- What the theorems speak of: what accepted records are to each other, settings of a whole snapshot, and ends of a route.
use Rattle.std.specs.Prelude.{◌≡◌, Bool, true, false, ◌||◌, List, [], ◌∷◌, ℕ, zero, suc, ◌≤◌, ◌<◌, eqb}
use Rattle.rules.specs.declared.Letter.TheVariants.{Egress}
use Rattle.rules.specs.declared.Outcome.{Outcome}
use Rattle.rules.specs.declared.Outcome.TheVariants.{Delivered, Host, Unclaimed, Undefined, Violated}
use Rattle.rules.specs.Bytes.{byte, bit}
use Rattle.rules.specs.Snapshot.{count, kind, control, is_root, is_upstream, is_downstream, is_endpoint, is_port, bit_v, bit_b, bit_r, bit_u, bit_e, complex}
use Rattle.rules.specs.Fabric.{Shape}
use Rattle.rules.specs.declared.Tlp.{Tlp}
use Rattle.rules.specs.Cover.{covers, is_peer, is_entry, is_child, is_way_on}
use Rattle.rules.specs.Decide.{action_number}
use Rattle.rules.specs.declared.Action.TheVariants.{RedirectedUp, Reflected, UpByU}
use Rattle.rules.specs.Route.{Hop, above}

-- What the record rules give of the tree, as routing sees it.
pub record WellFormed (sh : Shape) : Type 0 where
  -- a record that is no root port has a parent, of lower index; a root port's is FFFFh
  pub lower : (i : ℕ) → i < sh.count → is_root (sh.kind i) ≡ false → sh.parent i < i
  pub parentless : (i : ℕ) → i < sh.count → is_root (sh.kind i) ≡ true → sh.parent i ≡ complex
  -- kind 3 stands under kind 2, kinds 2 and 4 under a port
  pub under_upstream : (i : ℕ) → i < sh.count → is_downstream (sh.kind i) ≡ true → is_upstream (sh.kind (sh.parent i)) ≡ true
  pub under_port : (i : ℕ) → i < sh.count → is_port (sh.kind i) ≡ false → is_port (sh.kind (sh.parent i)) ≡ true

-- What they give of ranges and buses: what a record covers its parent covers.
pub record Nested (sh : Shape) : Type 0 where
  -- an address that a record's ranges have its parent's windows have
  pub holds_above : (i : ℕ) → i < sh.count → is_root (sh.kind i) ≡ false
      → (a : ℕ) → sh.holds i a ≡ true → sh.holds (sh.parent i) a ≡ true
  -- own bus is the parent's secondary; a bridge's buses lie above it, and inside the parent's
  pub own_bus : (i : ℕ) → i < sh.count → is_root (sh.kind i) ≡ false → sh.own_bus i ≡ sh.secondary (sh.parent i)
  pub buses : (i : ℕ) → i < sh.count → is_endpoint (sh.kind i) ≡ false
      → (sh.own_bus i < sh.secondary i) × (sh.secondary i ≤ sh.subordinate i)
  pub buses_above : (i : ℕ) → i < sh.count → is_root (sh.kind i) ≡ false → is_endpoint (sh.kind i) ≡ false
      → sh.subordinate i ≤ sh.subordinate (sh.parent i)

-- No search has a choice: at most one record passes the test of each.
pub record OneWay (sh : Shape) (t : Tlp) : Type 0 where
  -- at most one sibling covers a TLP, port or not
  pub sibling : (i j : ℕ) → i < sh.count → j < sh.count → sh.parent i ≡ sh.parent j
      → covers sh t i ≡ true → covers sh t j ≡ true → i ≡ j
  -- at most one sibling port of p covers it
  pub peer : (p q r : ℕ) → q < sh.count → r < sh.count → is_peer sh t p q ≡ true → is_peer sh t p r ≡ true → q ≡ r
  -- at most one root port covers it
  pub entry : (q r : ℕ) → q < sh.count → r < sh.count → is_entry sh t q ≡ true → is_entry sh t r ≡ true → q ≡ r
  -- at most one port under the kind 2 node c covers it
  pub way_on : (c q r : ℕ) → q < sh.count → r < sh.count → is_way_on sh t c q ≡ true → is_way_on sh t c r ≡ true → q ≡ r
  -- a port has at most one child
  pub child : (p b c : ℕ) → p < sh.count → is_port (sh.kind p) ≡ true
      → b < sh.count → c < sh.count → is_child sh t p b ≡ true → is_child sh t p c ≡ true → b ≡ c

-- every element is a byte
abbrev pub AreBytes : List ℕ → Type 0
AreBytes s = (k : ℕ) → byte s k < 256

-- o is the index of an endpoint
abbrev pub IsEndpoint : List ℕ → ℕ → Type 0
IsEndpoint s o = (o < count s) × (is_endpoint (kind s o) ≡ true)

-- record p is a root port or a switch downstream port
abbrev pub IsPort : List ℕ → ℕ → Type 0
IsPort s p = (p < count s) × (is_port (kind s p) ≡ true)

-- Control bit k is on at port p
abbrev pub is_on : List ℕ → ℕ → ℕ → Bool
is_on s k p = bit k (control s p)

-- U is on at every root and downstream port
abbrev pub EveryU : List ℕ → Type 0
EveryU s = (p : ℕ) → IsPort s p → is_on s bit_u p ≡ true

-- The lock at port p: U is on, and V, B and R are on and E is off besides.
pub record LockedAt (s : List ℕ) (p : ℕ) : Type 0 where
  pub u : is_on s bit_u p ≡ true
  pub v : is_on s bit_v p ≡ true
  pub b : is_on s bit_b p ≡ true
  pub r : is_on s bit_r p ≡ true
  pub e : is_on s bit_e p ≡ false

abbrev pub Locked : List ℕ → Type 0
Locked s = (p : ℕ) → IsPort s p → LockedAt s p

-- the port n steps above p
unfoldable pub port_above : Shape → ℕ → ℕ → ℕ
port_above sh zero p = p
port_above sh (suc n) p = above sh (port_above sh n p)

-- some hop was redirected up, up by U, or reflected
abbrev pub was_sent_up : List Hop → Bool
was_sent_up [] = false
was_sent_up (h ∷ l) = eqb h.action (action_number RedirectedUp) || eqb h.action (action_number UpByU) || eqb h.action (action_number Reflected) || was_sent_up l

-- The ends of a TLP that was sent up: a checked delivery, unclaimed at a record below the root complex that reflected it,
-- violation V, B or X, or undefined; not the host, and no delivery that is unvalidated.
abbrev pub Answerable : Outcome → Type 0
Answerable (Delivered i checked) = checked ≡ true
Answerable Host = ⊥
Answerable (Unclaimed i) = i ≡ complex → ⊥
Answerable (Undefined i) = Unit {0}
Answerable (Violated letter p abort) = letter ≡ Egress → ⊥
