-- The snapshot's fields. Little-endian: a header of 24 bytes, then records of 144 bytes and nothing more.
use Rattle.std.specs.Prelude.{Bool, cond, ◌&&◌, ◌||◌, not, List, ℕ, ◌+◌, ◌*◌, ◌/◌, ◌%◌, ◌≤◌, eqb, ltb, length}
use Rattle.rules.specs.Bytes.{byte, le, bit, within}

-- bytes 0-2: the mark `ACS`
abbrev pub marked : List ℕ → Bool
marked s = eqb (byte s 0) 0x41 && eqb (byte s 1) 0x43 && eqb (byte s 2) 0x53

-- byte 3: flags
abbrev pub flags : List ℕ → ℕ
flags s = byte s 3

-- bit 0: root ports may reach each other
abbrev pub roots_reach : List ℕ → Bool
roots_reach s = bit 0 (flags s)

-- bit 1: redirected request validation reflects, else it blocks
abbrev pub validation_reflects : List ℕ → Bool
validation_reflects s = bit 1 (flags s)

-- bytes 4-5: version
abbrev pub version : List ℕ → ℕ
version s = le 2 s 4

-- bytes 6-7: record count
abbrev pub count : List ℕ → ℕ
count s = le 2 s 6

-- bytes 8-15: time taken; 16-23: good until
abbrev pub taken : List ℕ → ℕ
taken s = le 8 s 8

abbrev pub good_until : List ℕ → ℕ
good_until s = le 8 s 16

-- where record i starts
abbrev pub base : ℕ → ℕ
base i = 24 + 144 * i

-- the bytes of record i are there
abbrev pub HasRecord : List ℕ → ℕ → Type 0
HasRecord s i = base (i + 1) ≤ length s

-- the root complex, or the host, as a node, and what a root port has for a parent
abbrev pub complex : ℕ
complex = 0xFFFF

-- byte 0: kind
abbrev pub kind : List ℕ → ℕ → ℕ
kind s i = byte s (base i)

-- byte 1: Port Number
abbrev pub port_number : List ℕ → ℕ → ℕ
port_number s i = byte s (base i + 1)

-- bytes 2-3: parent's index
abbrev pub parent : List ℕ → ℕ → ℕ
parent s i = le 2 s (base i + 2)

-- byte 4: own bus
abbrev pub own_bus : List ℕ → ℕ → ℕ
own_bus s i = byte s (base i + 4)

-- byte 5: device and function
abbrev pub devfn : List ℕ → ℕ → ℕ
devfn s i = byte s (base i + 5)

-- byte 6: secondary bus; byte 7: subordinate bus
abbrev pub secondary : List ℕ → ℕ → ℕ
secondary s i = byte s (base i + 6)

abbrev pub subordinate : List ℕ → ℕ → ℕ
subordinate s i = byte s (base i + 7)

-- bytes 8-9: ACS Capability register; 10-11: ACS Control register
abbrev pub capability : List ℕ → ℕ → ℕ
capability s i = le 2 s (base i + 8)

abbrev pub control : List ℕ → ℕ → ℕ
control s i = le 2 s (base i + 10)

-- bytes 16-47: Egress Control Vector, bit k in byte k / 8, bit k mod 8
abbrev pub stored_bit : List ℕ → ℕ → ℕ → Bool
stored_bit s i k = bit (k % 8) (byte s (base i + 16 + k / 8))

-- bytes 48-143: six ranges of two 64-bit numbers, first and last address
abbrev pub first : List ℕ → ℕ → ℕ → ℕ
first s i k = le 8 s (base i + 48 + 16 * k)

abbrev pub last : List ℕ → ℕ → ℕ → ℕ
last s i k = le 8 s (base i + 56 + 16 * k)

-- a closed range is exactly (1, 0)
abbrev pub closed : ℕ → ℕ → Bool
closed f l = eqb f 1 && eqb l 0

abbrev pub is_open : List ℕ → ℕ → ℕ → Bool
is_open s i k = not (closed (first s i k) (last s i k))

-- kinds: 1 root port, 2 switch upstream port, 3 switch downstream port, 4 endpoint
abbrev pub is_root : ℕ → Bool
is_root kind = eqb kind 1

abbrev pub is_upstream : ℕ → Bool
is_upstream kind = eqb kind 2

abbrev pub is_downstream : ℕ → Bool
is_downstream kind = eqb kind 3

abbrev pub is_endpoint : ℕ → Bool
is_endpoint kind = eqb kind 4

-- "port" means kind 1 or 3
abbrev pub is_port : ℕ → Bool
is_port kind = is_root kind || is_downstream kind

-- bridges are kinds 1 to 3
abbrev pub is_bridge : ℕ → Bool
is_bridge kind = within 1 kind 3

-- Capability and Control bits: V 0, B 1, R 2, C 3, U 4, E 5, T 6
abbrev pub bit_v : ℕ
bit_v = 0

abbrev pub bit_b : ℕ
bit_b = 1

abbrev pub bit_r : ℕ
bit_r = 2

abbrev pub bit_c : ℕ
bit_c = 3

abbrev pub bit_u : ℕ
bit_u = 4

abbrev pub bit_e : ℕ
bit_e = 5

abbrev pub bit_t : ℕ
bit_t = 6

-- vector size in Capability bits 15:8
abbrev pub size_field : ℕ → ℕ
size_field capability = capability / 256

-- size s means s bits; of a Capability with E "00h means 256 bits; 01h to FFh mean themselves" (document 02, 1/13)
abbrev pub vector_size : ℕ → ℕ
vector_size capability = cond (bit bit_e capability && eqb (size_field capability) 0) 256 (size_field capability)

-- a bit whose number is the size or more reads 0 (ours)
abbrev pub vector_bit : List ℕ → ℕ → ℕ → Bool
vector_bit s i k = ltb k (vector_size (capability s i)) && stored_bit s i k
