-- The input of `acsroute`: a 2-byte length, the snapshot, now (8 bytes), then one query: origin (2), header length (1), header.
-- Numbers are little-endian.
use Rattle.std.specs.Prelude.{Bool, cond, Option, None, Some, List, ℕ, ◌+◌, eqb, length, take, drop}
use Rattle.rules.specs.Bytes.{byte, le}
use Rattle.rules.specs.Route.{Trip}
use Rattle.rules.specs.Bound.{room_for_all}
use Rattle.rules.specs.Refuse.{Result, result}

abbrev pub snapshot_length : List ℕ → ℕ
snapshot_length b = le 2 b 0

-- where the snapshot ends
abbrev pub snapshot_end : List ℕ → ℕ
snapshot_end b = 2 + snapshot_length b

abbrev pub header_length : List ℕ → ℕ
header_length b = byte b (snapshot_end b + 10)

-- where the header starts
abbrev pub header_start : List ℕ → ℕ
header_start b = snapshot_end b + 11

-- neither shorter nor longer than its two lengths say
unfoldable pub whole : List ℕ → Bool
whole b = eqb (length b) (header_start b + header_length b)

-- how the input is framed: whole, with the length of the snapshot, or not
unfoldable pub framed : List ℕ → Option ℕ
framed b = cond (whole b) (Some (snapshot_length b)) None

-- the parts
abbrev pub snapshot_of : List ℕ → List ℕ
snapshot_of b = take (snapshot_length b) (drop 2 b)

abbrev pub now_of : List ℕ → ℕ
now_of b = le 8 b (snapshot_end b)

abbrev pub origin_of : List ℕ → ℕ
origin_of b = le 2 b (snapshot_end b + 8)

abbrev pub header_of : List ℕ → List ℕ
header_of b = drop (header_start b) b

-- the answer to the query: there is room for 257 hops
abbrev pub answer_to : List ℕ → Result Trip
answer_to b = result (snapshot_of b) (now_of b) (origin_of b) (header_of b) room_for_all
