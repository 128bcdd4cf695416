-- Request 3/13, E, R and the vector bit: worked cases of its own, on Fabric F with other vectors and Port Numbers.
use Rattle.std.specs.Prelude.{false, List, [], ◌∷◌, ℕ}
use Rattle.rules.specs.declared.Letter.TheVariants.{Egress}
use Rattle.rules.specs.declared.Outcome.TheVariants.{Violated}
use Rattle.rules.specs.Route.{hop, Trip}
use Rattle.rules.specs.Refuse.{Result}
use Rattle.cases.specs.Worked.{Case, case, ends}
use Rattle.cases.specs.FabricF.{fabric, registers_f, plain, directly, by_the_top}

-- the write of Fabric F, with this Control and this vector byte 0 on all three ports, and these Port Numbers of nodes 2 and 3
unfoldable pub row : ℕ → ℕ → ℕ → ℕ → Result Trip → Case
unfolding fabric
row control vector number₂ number₃ wanted = case (fabric 2 (registers_f control vector) number₂ number₃) plain wanted

-- violation E at node 2; a write is dropped
unfoldable pub blocked : Result Trip
blocked = ends (Violated Egress 2 false) (hop 2 7 ∷ [])

-- F21, the eight settings of E, R and the bit: V, B and U on; the peer's bit alone is set, or it is clear and those of Ports 3 to 7 are set
unfoldable pub settings : List Case
settings =
    row 0x13 0x04 1 2 directly ∷ row 0x13 0xF8 1 2 directly  -- E 0, R 0
    ∷ row 0x17 0x04 1 2 by_the_top ∷ row 0x17 0xF8 1 2 by_the_top  -- E 0, R 1
    ∷ row 0x33 0x04 1 2 blocked ∷ row 0x33 0xF8 1 2 directly  -- E 1, R 0
    ∷ row 0x37 0x04 1 2 by_the_top ∷ row 0x37 0xF8 1 2 directly  -- E 1, R 1
    ∷ []

-- the register page's examples for an 8-port switch (7.16.4)
unfoldable pub examples : List Case
examples =
    row 0x33 0xFC 1 7 blocked ∷ row 0x37 0xFC 1 7 by_the_top  -- F22: Port 1 may reach no other, 1111 1100b
    ∷ row 0x33 0x52 2 3 directly ∷ row 0x33 0x52 2 5 directly ∷ row 0x33 0x52 2 7 directly  -- F23: Port 2 may reach 3, 5 and 7, 0101 0010b
    ∷ row 0x33 0x52 2 1 blocked ∷ row 0x33 0x52 2 4 blocked ∷ row 0x33 0x52 2 6 blocked
    ∷ []
