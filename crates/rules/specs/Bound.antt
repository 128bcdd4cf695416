-- How deep a fabric is, and how many hops that allows.
use Rattle.std.specs.Prelude.{cond, ℕ, zero, suc, ◌+◌, ◌*◌, max}
use Rattle.rules.specs.Snapshot.{is_root, is_port}
use Rattle.rules.specs.Fabric.{Shape}

-- the ports on the way from record i up to the root complex, the record itself counted if it is a port, with fuel
unfoldable pub ports_from : Shape → ℕ → ℕ → ℕ
ports_from sh zero i = 0
ports_from sh (suc fuel) i = cond (is_port (sh.kind i)) 1 0 + cond (is_root (sh.kind i)) 0 (ports_from sh fuel (sh.parent i))

unfoldable pub ports : Shape → ℕ → ℕ
ports sh i = ports_from sh sh.count i

-- the most that f gives at the numbers below n
unfoldable pub most : ℕ → (ℕ → ℕ) → ℕ
most zero f = 0
most (suc n) f = max (most n f) (f n)

-- D: the most ports on the way from any record up to the root complex
unfoldable pub depth : Shape → ℕ
depth sh = most sh.count (ports sh)

-- an endpoint's TLP makes at most 2D + 1 hops,
abbrev pub hop_bound : Shape → ℕ
hop_bound sh = 2 * depth sh + 1

-- never above 257
abbrev pub most_hops : ℕ
most_hops = 257

-- a buffer of so many bytes has room for all of them
abbrev pub room_for_all : ℕ
room_for_all = 4 * most_hops
