-- Request 1/13, a full-size vector: worked cases of its own, on Fabric F with other Capabilities, vectors and Port Numbers.
use Rattle.std.specs.Prelude.{◌≡◌, Bool, true, false, List, [], ◌∷◌, ◌++◌, ℕ, replicate}
use Rattle.rules.specs.declared.Letter.TheVariants.{Egress}
use Rattle.rules.specs.declared.Outcome.TheVariants.{Violated}
use Rattle.rules.specs.Route.{hop, Trip}
use Rattle.rules.specs.Refuse.{Result, refused}
use Rattle.rules.specs.Snapshot.{vector_bit}
use Rattle.cases.specs.Worked.{Case, case, ends}
use Rattle.cases.specs.FabricF.{fabric, request, read, plain, directly, by_the_top}

-- these low bits and none above, or bit 255 alone, or all 256
abbrev pub low : ℕ → List ℕ
low bits = bits ∷ replicate 31 0

abbrev pub bit255 : List ℕ
bit255 = replicate 31 0 ++ (0x80 ∷ [])

abbrev pub all : List ℕ
all = replicate 32 0xFF

-- flags 02h, this Capability, Control and vector on all three ports, Port Numbers of nodes 2 and 3
unfoldable pub with : ℕ → ℕ → List ℕ → ℕ → ℕ → List ℕ
unfolding fabric
with capability control vector = fabric 2 (record { capability = capability; control = control; vector = vector })

unfoldable pub stopped : Result Trip
stopped = ends (Violated Egress 2 true) (hop 2 7 ∷ [])

unfoldable pub reading : List ℕ
unfolding request
reading = request read 0 3 0x80100000

unfoldable pub vectors : List Case
vectors =
    case (with 0x007F 0x37 (low 0) 1 2) plain directly  -- F15: 00h, no bit set
    ∷ case (with 0x007F 0x37 (low 4) 1 2) plain by_the_top  -- F16: 00h, bit 2 set
    ∷ case (with 0x007F 0x20 (low 4) 1 2) reading stopped  -- F17: the same without R
    ∷ case (with 0x017F 0x20 (low 3) 2 0) reading stopped  -- F18: 01h, Port Number 0 is below the size
    ∷ case (with 0x017F 0x20 (low 3) 2 1) reading directly  -- Port Number 1 is the size itself
    ∷ case (with 0x017F 0x20 (low 3) 1 1) reading (refused 4 3)  -- and node 2's number too
    ∷ case (with 0x007F 0x20 bit255 1 255) reading stopped  -- F19: 00h reaches Port Number 255
    ∷ case (with 0xFF7F 0x20 bit255 1 255) reading directly  -- and FFh does not
    ∷ case (with 0x005F 0x20 (low 4) 1 2) reading (refused 4 0)  -- F20: no E in the Capability, so none in Control
    ∷ []

-- one bit of node 2's vector, all 256 being stored set
pub record Bit : Type 0 where
  pub capability : ℕ
  pub number : ℕ
  pub reads : Bool

abbrev pub at : ℕ → ℕ → Bool → Bit
at capability number reads = record { capability = capability; number = number; reads = reads }

unfoldable pub bits : List Bit
bits =
    at 0x007F 0 true ∷ at 0x007F 255 true  -- 00h with E: 256 bits
    ∷ at 0x017F 0 true ∷ at 0x017F 1 false ∷ at 0xFF7F 254 true ∷ at 0xFF7F 255 false  -- 01h to FFh mean themselves
    ∷ at 0x005F 0 false ∷ at 0x005F 255 false ∷ at 0x085F 7 true ∷ at 0x085F 8 false  -- without E the field as it is
    ∷ []

abbrev pub EveryBit : List Bit → Type 0
EveryBit [] = Unit {0}
EveryBit (b ∷ l) = (vector_bit (with b.capability 0 all 1 2) 2 b.number ≡ b.reads) × EveryBit l
