-- Covering, and who is found by it.
use Rattle.std.specs.Prelude.{Bool, cond, ◌&&◌, not, ℕ, ◌-◌, ◌+◌, eqb}
use Rattle.rules.specs.declared.Target.{Target}
use Rattle.rules.specs.declared.Target.TheVariants.{Address, Id}
use Rattle.rules.specs.declared.Tlp.{Tlp}
use Rattle.rules.specs.Below.{find_from}
use Rattle.rules.specs.Bytes.{within}
use Rattle.rules.specs.Snapshot.{is_root, is_endpoint, is_port}
use Rattle.rules.specs.Fabric.{Shape}
use Rattle.std.specs.Prelude.{Option}

-- A node covers a memory request if the address is in one of its open ranges. A bridge covers a completion if its bus lies in
-- secondary..subordinate; an endpoint if bus and byte 5 both equal the ID.
abbrev pub covers_target : Shape → Target → ℕ → Bool
covers_target sh (Address a) i = sh.holds i a
covers_target sh (Id bus devfn) i =
    cond (is_endpoint (sh.kind i)) (eqb (sh.own_bus i) bus.0 && eqb (sh.devfn i) devfn)
    (within (sh.secondary i) bus.0 (sh.subordinate i))

unfoldable pub covers : Shape → Tlp → ℕ → Bool
covers sh t i = covers_target sh t.target i

-- the first record that passes the test; of those after p, the first
abbrev pub first_of : Shape → (ℕ → Bool) → Option ℕ
first_of sh f = find_from f sh.count 0

abbrev pub first_after : Shape → ℕ → (ℕ → Bool) → Option ℕ
first_after sh p f = find_from f (sh.count - (p + 1)) (p + 1)

-- sibling port q of p covers the TLP
unfoldable pub is_peer : Shape → Tlp → ℕ → ℕ → Bool
is_peer sh t p q = is_port (sh.kind q) && eqb (sh.parent q) (sh.parent p) && not (eqb q p) && covers sh t q

unfoldable pub peer_of : Shape → Tlp → ℕ → Option ℕ
peer_of sh t p = first_of sh (is_peer sh t p)

-- the root port that covers the TLP
unfoldable pub is_entry : Shape → Tlp → ℕ → Bool
is_entry sh t q = is_root (sh.kind q) && covers sh t q

unfoldable pub entry_for : Shape → Tlp → Option ℕ
entry_for sh t = first_of sh (is_entry sh t)

-- what stands below port p for a TLP: a port has at most one child, so the TLP has no say in it
unfoldable pub is_child : Shape → Tlp → ℕ → ℕ → Bool
is_child sh t p c = eqb (sh.parent c) p

unfoldable pub child_for : Shape → Tlp → ℕ → Option ℕ
child_for sh t p = first_after sh p (is_child sh t p)

-- the covering port of the kind 2 node c
unfoldable pub is_way_on : Shape → Tlp → ℕ → ℕ → Bool
is_way_on sh t c q = eqb (sh.parent q) c && covers sh t q

unfoldable pub way_on : Shape → Tlp → ℕ → Option ℕ
way_on sh t c = first_after sh c (is_way_on sh t c)
