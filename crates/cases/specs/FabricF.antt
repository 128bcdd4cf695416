-- Fabric F, and the cases F1 to F12 as one table.
use Rattle.std.specs.Prelude.{true, false, List, [], ◌∷◌, ◌++◌, ℕ, ◌*◌, ◌/◌, ◌%◌, replicate}
use Rattle.rules.specs.declared.Letter.TheVariants.{Source, Translation, Egress, Validation}
use Rattle.rules.specs.declared.Outcome.TheVariants.{Delivered, Host, Unclaimed, Undefined, Violated}
use Rattle.rules.specs.Bytes.{le_bytes}
use Rattle.rules.specs.Route.{hop, Trip}
use Rattle.rules.specs.Snapshot.{complex}
use Rattle.rules.specs.Refuse.{Result}
use Rattle.cases.specs.Worked.{Case, case, ends}

-- range 0, and five closed ranges
unfoldable pub ranges : ℕ → ℕ → List ℕ
ranges f l = le_bytes 8 f ++ le_bytes 8 l ++ shut ++ shut ++ shut ++ shut ++ shut
  where
    shut : List ℕ
    shut = le_bytes 8 1 ++ le_bytes 8 0

-- the ACS registers of a port, and the 32 bytes of its vector
pub record Registers : Type 0 where
  pub capability : ℕ
  pub control : ℕ
  pub vector : List ℕ

-- a port: kind, Port Number, parent, own bus, byte 5, secondary, subordinate; registers; range 0
unfoldable pub port : ℕ → ℕ → ℕ → ℕ → ℕ → ℕ → ℕ → Registers → ℕ → ℕ → List ℕ
port kind number parent own devfn secondary subordinate acs f l =
    (kind ∷ number ∷ le_bytes 2 parent) ++ (own ∷ devfn ∷ secondary ∷ subordinate ∷ le_bytes 2 acs.capability) ++ le_bytes 2 acs.control
    ++ le_bytes 4 0 ++ acs.vector ++ ranges f l

-- a node that is no port: kind, parent, own bus, secondary, subordinate; range 0
unfoldable pub node : ℕ → ℕ → ℕ → ℕ → ℕ → ℕ → ℕ → List ℕ
node kind parent own secondary subordinate f l =
    (kind ∷ 0 ∷ le_bytes 2 parent) ++ (own ∷ 0 ∷ secondary ∷ subordinate ∷ replicate 40 0) ++ ranges f l

-- the fabric with these flags, these registers on all three ports and these Port Numbers on nodes 2 and 3, taken at 0 and good until 0
unfoldable pub fabric : ℕ → Registers → ℕ → ℕ → List ℕ
unfolding le_bytes ranges port node
fabric flags acs number₂ number₃ =
    (0x41 ∷ 0x43 ∷ 0x53 ∷ flags ∷ le_bytes 2 1) ++ le_bytes 2 6 ++ le_bytes 8 0 ++ le_bytes 8 0
    ++ port 1 0 complex 0 8 1 4 acs 0x80000000 0x803FFFFF
    ++ node 2 0 1 2 4 0x80000000 0x803FFFFF
    ++ port 3 number₂ 1 2 0 3 3 acs 0x80000000 0x800FFFFF
    ++ port 3 number₃ 1 2 8 4 4 acs 0x80100000 0x801FFFFF
    ++ node 4 2 3 0 0 0x80000000 0x80000FFF
    ++ node 4 3 4 0 0 0x80100000 0x80100FFF

-- Fabric F's registers, with this control and this vector byte 0
abbrev pub registers_f : ℕ → ℕ → Registers
registers_f control vector = record { capability = 0x087F; control = control; vector = vector ∷ replicate 31 0 }

-- Fabric F, with this control and this vector byte 0
unfoldable pub fabric_f : ℕ → ℕ → ℕ → List ℕ
unfolding fabric
fabric_f flags control vector = fabric flags (registers_f control vector) 1 2

-- a request of 1 doubleword with a 12-byte header: byte 0, address type, requester's bus, address
unfoldable pub request : ℕ → ℕ → ℕ → ℕ → List ℕ
request form translation bus address =
    form ∷ 0 ∷ 4 * translation ∷ 1 ∷ bus ∷ 0 ∷ 0 ∷ 0
    ∷ address / 0x1000000 % 256 ∷ address / 0x10000 % 256 ∷ address / 0x100 % 256 ∷ address % 256 ∷ []

abbrev pub read : ℕ
read = 0x00

abbrev pub write : ℕ
write = 0x40

-- unless said: flags 02h, and a write from requester 0300h to 80100000h, AT 0
unfoldable pub plain : List ℕ
unfolding request
plain = request write 0 3 0x80100000

abbrev pub set : ℕ → ℕ → List ℕ
set control vector = fabric_f 2 control vector

-- the ways of F1 and of F2
unfoldable pub directly : Result Trip
directly = ends (Delivered 5 false) (hop 2 4 ∷ hop 3 6 ∷ hop 5 7 ∷ [])

unfoldable pub by_the_top : Result Trip
by_the_top = ends (Delivered 5 true) (hop 2 2 ∷ hop 0 5 ∷ hop 0 6 ∷ hop 3 6 ∷ hop 5 7 ∷ [])

unfoldable pub table : List Case
table =
    case (set 0x00 0) plain directly  -- F1
    ∷ case (set 0x17 0) plain by_the_top  -- F2
    ∷ case (fabric_f 0 0x17 0) plain (ends (Violated Validation 0 false) (hop 2 2 ∷ hop 0 7 ∷ []))  -- F3
    ∷ case (set 0x07 0) plain (ends (Undefined 0) (hop 2 2 ∷ hop 0 7 ∷ []))  -- F4
    ∷ case (set 0x37 0) plain directly  -- F5
    ∷ case (set 0x37 4) plain by_the_top  -- F6
    ∷ case (set 0x20 4) (request read 0 3 0x80100000) (ends (Violated Egress 2 true) (hop 2 7 ∷ []))  -- F7
    ∷ case (set 0x17 0) (request write 2 4 0x80100000) (ends (Violated Source 2 false) (hop 2 7 ∷ []))  -- F8
    ∷ case (set 0x17 0) (request write 2 3 0x80100000) (ends (Violated Translation 2 false) (hop 2 7 ∷ []))  -- F9
    ∷ case (set 0x55 0) (request write 2 3 0x80100000) directly  -- F10
    ∷ case (set 0x00 0) (request write 0 3 0x80300000) (ends (Unclaimed 1) (hop 2 1 ∷ hop 1 7 ∷ []))  -- F11
    ∷ case (set 0x00 0) (request write 0 3 0x1000) (ends Host (hop 2 1 ∷ hop 0 1 ∷ hop complex 7 ∷ []))  -- F12
    ∷ []
