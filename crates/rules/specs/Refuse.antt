-- The refusal table in its exact order, the whole answer, and the final bytes of the buffer.
use Rattle.std.specs.Prelude.{Bool, true, false, ◌&&◌, ◌||◌, List, [], ◌∷◌, ◌++◌, ℕ, ◌*◌, eqb, leb, ltb, length, drop}
use Rattle.rules.specs.Bytes.{within}
use Rattle.rules.specs.Snapshot.{base, marked, flags, version, count, taken, good_until, kind, is_endpoint, complex}
use Rattle.rules.specs.Records.{lowest_faulty}
use Rattle.rules.specs.Fabric.{shape_of, setting_of}
use Rattle.rules.specs.Tlp.{header_fine, tlp_of}
use Rattle.rules.specs.Route.{hop_bytes, Trip, route}
use Rattle.std.specs.Prelude.{Option, Some, None}

-- A test that lets an input pass, or refuses it with a number and an index.
pub data Gate : Type 0 where
  passes : Gate
  refuses : ℕ → ℕ → Gate

abbrev pub unless : Bool → ℕ → Gate
unless true number = passes
unless false number = refuses number 0

abbrev pub unless_found : Option ℕ → ℕ → Gate
unless_found None number = passes
unless_found (Some i) number = refuses number i

-- a whole answer of type A, or a refusal's number and index
pub data Result (A : Type 0) : Type 0 where
  refused : ℕ → ℕ → Result A
  answered : A → Result A

-- the first gate that refuses, or else what stands behind them
unfoldable pub through : {A : Type 0} → List Gate → Result A → Result A
through [] r = r
through (passes ∷ l) r = through l r
through (refuses number i ∷ l) r = refused number i

-- 1: under 24 bytes or wrong mark
unfoldable pub begun : List ℕ → Bool
begun s = leb 24 (length s) && marked s

-- 2: version not 1
unfoldable pub known_version : List ℕ → Bool
known_version s = eqb (version s) 1

-- 1, after 2: bad flags, n above 256, until below taken, wrong total length
unfoldable pub well_made : List ℕ → Bool
well_made s =
    ltb (flags s) 4 && leb (count s) 256 && leb (taken s) (good_until s) && eqb (length s) (base (count s))

-- 3: now below taken or above good until
unfoldable pub in_time : List ℕ → ℕ → Bool
in_time s now = within (taken s) now (good_until s)

-- 5: origin neither FFFFh (the host) nor an endpoint's index
unfoldable pub is_origin : List ℕ → ℕ → Bool
is_origin s o = eqb o complex || (ltb o (count s) && is_endpoint (kind s o))

-- Tested in the order: short or mark 1, then 2, the rest of 1, then 3 to 7. 4: some record faulty, the lowest; 6: bad header.
abbrev pub read_gates : List ℕ → ℕ → List Gate
read_gates s now =
    unless (begun s) 1 ∷ unless (known_version s) 2 ∷ unless (well_made s) 1 ∷ unless (in_time s now) 3 ∷ unless_found (lowest_faulty s) 4 ∷ []

abbrev pub query_gates : List ℕ → ℕ → List ℕ → List Gate
query_gates s o h = unless (is_origin s o) 5 ∷ unless (header_fine h) 6 ∷ []

-- 7: 4 times the hop count exceeds the buffer
unfoldable pub fits : Trip → ℕ → Bool
fits r room = leb (4 * length r.hops) room

-- the snapshot is accepted, or refused
unfoldable pub verdict : List ℕ → ℕ → Result (Unit {0})
verdict s now = through (read_gates s now) (answered tt)

-- the route of an accepted query
unfoldable pub routed : List ℕ → ℕ → List ℕ → Trip
routed s o h = route (shape_of s) (setting_of s) (tlp_of h) o

-- the route, or the refusal, for a buffer of `room` bytes
unfoldable pub result : List ℕ → ℕ → ℕ → List ℕ → ℕ → Result Trip
result s now o h room =
    through (read_gates s now)
    (through (query_gates s o h)
    (through (unless (fits (routed s o h) room) 7 ∷ []) (answered (routed s o h))))

-- Success writes the hops from the buffer's start and no byte after them. A refusal writes nothing.
abbrev pub written : Result Trip → List ℕ → List ℕ
written (refused number i) buffer = buffer
written (answered r) buffer = hop_bytes r.hops ++ drop (4 * length r.hops) buffer
