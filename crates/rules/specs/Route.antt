-- Going down, going up from port to port, and the hops.
use Rattle.std.specs.Prelude.{Bool, true, false, cond, not, List, [], ◌∷◌, ℕ, zero, suc, ◌/◌, ◌%◌, eqb}
use Rattle.rules.specs.declared.Outcome.{Outcome}
use Rattle.rules.specs.declared.Outcome.TheVariants.{Delivered, Unclaimed}
use Rattle.rules.specs.declared.Landing.{Landing}
use Rattle.rules.specs.declared.Landing.TheVariants.{Arrives, Nobody}
use Rattle.rules.specs.declared.Down.{Down}
use Rattle.rules.specs.declared.Down.TheVariants.{Into, Lands, Alone}
use Rattle.rules.specs.declared.Move.{Move}
use Rattle.rules.specs.declared.Move.TheVariants.{Up, Across, Reflect, Stop, Beyond}
use Rattle.rules.specs.declared.Tlp.{Tlp}
use Rattle.rules.specs.Below.{among}
use Rattle.rules.specs.Snapshot.{is_endpoint, complex}
use Rattle.rules.specs.Fabric.{Shape, Setting}
use Rattle.rules.specs.Cover.{covers, entry_for, child_for, way_on}
use Rattle.rules.specs.declared.Action.TheVariants.{DirectToPeer, Reflected, Downward, EndsHere}
use Rattle.rules.specs.Decide.{action_number, decide}

-- A hop: index and action. In the buffer it is four bytes: index (2), action, 0.
pub record Hop : Type 0 where
  pub index : ℕ
  pub action : ℕ

abbrev pub hop : ℕ → ℕ → Hop
hop i a = record { index = i; action = a }

abbrev pub hop_bytes : List Hop → List ℕ
hop_bytes [] = []
hop_bytes (h ∷ l) = h.index % 256 ∷ h.index / 256 ∷ h.action ∷ 0 ∷ hop_bytes l

-- a whole route: what the TLP comes to, and its hops
pub record Trip : Type 0 where
  pub end : Outcome
  pub hops : List Hop

-- a route down: where it comes to, and its hops
pub record Way : Type 0 where
  pub landing : Landing
  pub hops : List Hop

abbrev pub lands_at : Landing → ℕ
lands_at (Arrives i) = i
lands_at (Nobody i) = i

-- A reflected TLP is then checked; a delivery not checked is unvalidated.
abbrev pub landed : Bool → Landing → Outcome
landed checked (Arrives i) = Delivered i checked
landed checked (Nobody i) = Unclaimed i

-- At a port without a child: unclaimed there. A child that doesn't cover: unclaimed at the child. An endpoint child that covers:
-- delivered. A kind 2 child passes it to its covering port; if none, unclaimed at the kind 2.
unfoldable pub through_child : Shape → Tlp → ℕ → Down
through_child sh t c =
    cond (not (covers sh t c)) (Lands (Nobody c))
    (cond (is_endpoint (sh.kind c)) (Lands (Arrives c))
    (among (way_on sh t c) Into (Lands (Nobody c))))

unfoldable pub next_down : Shape → Tlp → ℕ → Down
next_down sh t p = among (child_for sh t p) (through_child sh t) Alone

-- Each port entered gives one hop; kind 2 only as end.
abbrev pub hop_down : ℕ → Down → (ℕ → Way) → Way
hop_down p (Into q) on = record { landing = (on q).landing; hops = hop p (action_number Downward) ∷ (on q).hops }
hop_down p (Lands l) on = record { landing = l; hops = hop p (action_number Downward) ∷ hop (lands_at l) (action_number EndsHere) ∷ [] }
hop_down p Alone on = record { landing = Nobody p; hops = hop p (action_number EndsHere) ∷ [] }

-- going down from port p, with fuel that the record count bounds
unfoldable pub down_from : Shape → Tlp → ℕ → ℕ → Way
down_from sh t zero p = record { landing = Nobody p; hops = [] }
down_from sh t (suc fuel) p = hop_down p (next_down sh t p) (down_from sh t fuel)

unfoldable pub down : Shape → Tlp → ℕ → Way
down sh t p = down_from sh t sh.count p

-- the trip of a way down, checked or not
abbrev pub arrived : Bool → Way → Trip
arrived checked w = record { end = landed checked w.landing; hops = w.hops }

-- The host's TLP goes down the root port that covers it; if none, unclaimed at FFFFh. So does a reflected one.
unfoldable pub from_top : Shape → Tlp → Bool → Trip
from_top sh t checked =
    among (entry_for sh t) (λ q. arrived checked (down sh t q))
    (record { end = Unclaimed complex; hops = hop complex (action_number EndsHere) ∷ [] })

abbrev pub before : Hop → Trip → Trip
before h r = record { end = r.end; hops = h ∷ r.hops }

-- the port above the parent of p
abbrev pub above : Shape → ℕ → ℕ
above sh p = sh.parent (sh.parent p)

-- one port's hop on the way up, and what follows it
abbrev pub hop_up : Shape → Tlp → ℕ → Move → (ℕ → Trip) → Trip
hop_up sh t p (Up action) on = before (hop p (action_number action)) (on (above sh p))
hop_up sh t p (Across q) on = before (hop p (action_number DirectToPeer)) (arrived false (down sh t q))
hop_up sh t p Reflect on = before (hop p (action_number Reflected)) (from_top sh t true)
hop_up sh t p (Stop end) on = record { end = end; hops = hop p (action_number EndsHere) ∷ [] }
hop_up sh t p (Beyond end node action) on = record { end = end; hops = hop p (action_number action) ∷ hop node (action_number EndsHere) ∷ [] }

-- going up from port p, with fuel that the record count bounds
unfoldable pub up_from : Shape → Setting → Tlp → ℕ → ℕ → Trip
up_from sh st t zero p = record { end = Unclaimed complex; hops = [] }
up_from sh st t (suc fuel) p = hop_up sh t p (decide sh st t p) (up_from sh st t fuel)

unfoldable pub up : Shape → Setting → Tlp → ℕ → Trip
up sh st t p = up_from sh st t sh.count p

-- An endpoint's TLP enters the port above it.
unfoldable pub start : Shape → Setting → Tlp → ℕ → Trip
start sh st t o = up sh st t (sh.parent o)

unfoldable pub route : Shape → Setting → Tlp → ℕ → Trip
route sh st t o = cond (eqb o complex) (from_top sh t false) (start sh st t o)
