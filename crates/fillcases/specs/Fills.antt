-- Request 2/13, a record filled from a configuration space image: worked cases of its own, each with its whole answer and every byte
-- of the record.
use Rattle.std.specs.Prelude.{◌≡◌, List, [], ◌∷◌, ◌++◌, ℕ, ◌+◌, ◌-◌, ◌*◌, replicate}
use Rattle.rules.specs.Refuse.{Result, refused, answered}
use Rattle.rules.specs.Bytes.{le_bytes}
use Rattle.rules.specs.declared.Extent.{Extent}
use Rattle.rules.specs.Image.{extent}
use Rattle.rules.specs.Fill.{Field, field, fill_all, filling, record_after}

-- an answer, and the record after it
pub record Done : Type 0 where
  pub answer : Result Extent
  pub after : List ℕ

abbrev pub done : Result Extent → List ℕ → Done
done answer after = record { answer = answer; after = after }

pub record Case : Type 0 where
  pub image : List ℕ
  pub before : List ℕ
  pub wanted : Done

abbrev pub given : Case → Done
given c =
    done (filling c.image c.before) (record_after (filling c.image c.before) c.image c.before)

-- each case of the list comes out as wanted
abbrev pub Every : List Case → Type 0
Every [] = Unit {0}
Every (c ∷ l) = (given c ≡ c.wanted) × Every l

-- an image of zeros but for these bytes
unfoldable pub image : List Field → List ℕ
image named = fill_all named (replicate 4096 0)

-- the header of an extended capability: ID, version, next offset
abbrev pub header : ℕ → ℕ → ℕ → List ℕ
header id version next = le_bytes 2 id ++ le_bytes 2 (version + 16 * next)

abbrev pub other : ℕ → ℕ → Field
other at next = field at (header 0x0001 1 next)

-- Capability and Control
abbrev pub registers : ℕ → ℕ → List ℕ
registers capability control = le_bytes 2 capability ++ le_bytes 2 control

-- an ACS structure of version 1, with 32 bytes EEh behind its registers
abbrev pub acs : ℕ → ℕ → Field
acs at capability = field at (header 0x000D 1 0 ++ registers capability 0x001D ++ replicate 32 0xEE)

-- one of this version, with nothing behind them
abbrev pub short : ℕ → ℕ → ℕ → Field
short at version capability = field at (header 0x000D version 0 ++ registers capability 0x001D)

-- a record of bytes A5h
unfoldable pub a5 : List ℕ
a5 = replicate 144 0xA5

-- that record filled: buses; Capability, Control, the vector's first bytes; two ranges
unfoldable pub left : ℕ → ℕ → ℕ → ℕ → ℕ → ℕ → ℕ → ℕ → ℕ → ℕ → List ℕ
left own secondary subordinate capability control read f₀ l₀ f₁ l₁ =
    replicate 4 0xA5 ++ (own ∷ 0xA5 ∷ secondary ∷ subordinate ∷ []) ++ le_bytes 2 capability ++ le_bytes 2 control ++ replicate 4 0xA5
    ++ replicate read 0xEE ++ replicate (32 - read) 0
    ++ le_bytes 8 f₀ ++ le_bytes 8 l₀ ++ le_bytes 8 f₁ ++ le_bytes 8 l₁ ++ replicate 64 0xA5

-- of an image with no bridge header: buses 0, base and limit 0 in both windows, which is 1 MiB from 0 on
unfoldable pub listed : List Field → ℕ → ℕ → ℕ → ℕ → ℕ → Case
unfolding image a5 left
listed named at n capability control read =
    record {
      image = image named;
      before = a5;
      wanted = done (answered (extent at n)) (left 0 0 0 capability control read 0 0xFFFFF 0 0xFFFFF);
    }

unfoldable pub none : List Field → Case
unfolding listed
none named = listed named 0 0 0 0 0

unfoldable pub bad : List Field → Case
unfolding image a5
bad named = record { image = image named; before = a5; wanted = done (refused 9 0) a5 }

-- a bridge that doesn't answer reads all ones: the next offset is FFFh
unfoldable pub silent : Case
unfolding a5
silent = record { image = replicate 4096 0xFF; before = a5; wanted = done (refused 9 0) a5 }

-- of a bridge on bus 2 with buses 3 to 7 below it and no list: the registers from 20h on
unfoldable pub windows : List ℕ → ℕ → ℕ → ℕ → ℕ → Case
unfolding image a5 left
windows registers f₀ l₀ f₁ l₁ =
    record {
      image = image (field 0x18 (2 ∷ 3 ∷ 7 ∷ []) ∷ field 0x20 registers ∷ []);
      before = a5;
      wanted = done (answered (extent 0 0)) (left 2 3 7 0 0 0 f₀ l₀ f₁ l₁);
    }

-- memory base and limit, prefetchable base and limit, their upper halves
abbrev pub bridge : ℕ → ℕ → ℕ → ℕ → ℕ → ℕ → List ℕ
bridge base limit pbase plimit ubase ulimit =
    le_bytes 2 base ++ le_bytes 2 limit ++ le_bytes 2 pbase ++ le_bytes 2 plimit ++ le_bytes 4 ubase ++ le_bytes 4 ulimit

unfoldable pub sized : List ℕ → List ℕ → Case
sized image before = record { image = image; before = before; wanted = done (refused 8 0) before }

-- the list
unfoldable pub lists : List Case
lists =
    none []  -- all zeros: the header at 100h ends the list
    ∷ none (other 0x100 0x140 ∷ field 0x140 (header 0x0003 1 0) ∷ [])  -- two others
    ∷ none (field 0x100 (header 0x000E 1 0) ∷ [])  -- the ID beside it
    ∷ listed (short 0x100 1 0x005F ∷ []) 0x100 8 0x005F 0x001D 0  -- first
    ∷ listed (other 0x100 0x104 ∷ other 0x104 0xFF8 ∷ short 0xFF8 1 0x005F ∷ []) 0xFF8 8 0x005F 0x001D 0  -- last, without E
    ∷ bad (other 0x100 0xFF8 ∷ short 0xFF8 1 0x087F ∷ [])  -- with E its vector runs past the image
    ∷ listed (other 0x100 0xFF4 ∷ field 0xFF4 (header 0x000D 1 0 ++ registers 0x087F 0x001D ++ replicate 4 0xEE) ∷ [])
    0xFF4 12 0x087F 0x001D 4  -- and fits 4 bytes below
    ∷ bad (other 0x100 0xFFC ∷ field 0xFFC (header 0x000D 1 0) ∷ [])  -- its Capability is not there
    ∷ bad (short 0x100 2 0x005F ∷ [])  -- version 2
    ∷ bad (short 0x100 0 0x005F ∷ [])  -- version 0
    ∷ listed (field 0x100 (header 0x000D 1 0xFFF ++ registers 0x005F 0) ∷ []) 0x100 8 0x005F 0 0  -- its own next offset isn't looked at
    ∷ listed (other 0x100 0x200 ∷ field 0x200 (header 0x000D 1 0x300 ++ registers 0x005F 0x0011) ∷ acs 0x300 0x007F ∷ [])
    0x200 8 0x005F 0x0011 0  -- the first of two, which leads on to the second
    ∷ []

-- refusals 9 for a next offset
unfoldable pub offsets : List Case
offsets =
    bad (other 0x100 0x001 ∷ [])
    ∷ bad (other 0x100 0x0FC ∷ [])
    ∷ bad (other 0x100 0x106 ∷ [])
    ∷ bad (other 0x100 0xFFF ∷ [])
    ∷ bad (other 0x100 0x100 ∷ [])  -- a loop of one
    ∷ bad (other 0x100 0x140 ∷ other 0x140 0x180 ∷ other 0x180 0x140 ∷ [])  -- of two, behind the start
    ∷ bad (other 0x100 0x140 ∷ other 0x140 0x180 ∷ other 0x180 0x100 ∷ [])  -- of three
    ∷ silent
    ∷ []

-- the size of the vector
unfoldable pub sizes : List Case
sizes =
    listed (acs 0x100 0x007F ∷ []) 0x100 40 0x007F 0x001D 32  -- 00h: 256 bits
    ∷ listed (acs 0x100 0x017F ∷ []) 0x100 12 0x017F 0x001D 4
    ∷ listed (acs 0x100 0x207F ∷ []) 0x100 12 0x207F 0x001D 4
    ∷ listed (acs 0x100 0x217F ∷ []) 0x100 16 0x217F 0x001D 8
    ∷ listed (acs 0x100 0xFF7F ∷ []) 0x100 40 0xFF7F 0x001D 32
    ∷ listed (acs 0x100 0x215F ∷ []) 0x100 8 0x215F 0x001D 0  -- without E there is no vector
    ∷ listed (acs 0x100 0x21FF ∷ []) 0x100 16 0x21FF 0x001D 8  -- a reserved bit is copied
    ∷ []

-- the two windows
unfoldable pub ranges : List Case
ranges =
    windows (bridge 0x8000 0x8030 0x9000 0x9010 0 0) 0x80000000 0x803FFFFF 0x90000000 0x901FFFFF
    ∷ windows (bridge 0x8000 0x8000 0x9000 0x9000 0 0) 0x80000000 0x800FFFFF 0x90000000 0x900FFFFF  -- base = limit: 1 MiB
    ∷ windows (bridge 0x8010 0x8000 0x9010 0x9000 0 0) 1 0 1 0  -- base above limit
    ∷ windows (bridge 0x800F 0x8000 0x9001 0x900F 0 0) 0x80000000 0x800FFFFF 0x90000000 0x900FFFFF  -- the low four bits are no address
    ∷ windows (bridge 0xFFF0 0xFFFF 0xFFF0 0xFFF0 5 5) 0xFFF00000 0xFFFFFFFF 0xFFF00000 0xFFFFFFFF  -- low four 0: upper halves count as 0
    ∷ windows (bridge 0 0 0x9001 0x9011 0x12 0x345678) 0 0xFFFFF 0x1290000000 0x345678901FFFFF  -- low four 1
    ∷ windows (bridge 0 0 0x9002 0x9010 0x80000000 0xFFFFFFFF) 0 0xFFFFF 0x8000000090000000 0xFFFFFFFF901FFFFF  -- low four 2, of the limit 0
    ∷ windows (bridge 0 0 0x9001 0x9011 1 0) 0 0xFFFFF 1 0  -- base above limit by the upper half only
    ∷ windows (bridge 0 0 0x9011 0x9001 0 1) 0 0xFFFFF 0x90100000 0x1900FFFFF  -- and not above by it
    ∷ windows (bridge 0 0 0x9000 0x9011 1 0) 0 0xFFFFF 0x90000000 0x901FFFFF  -- the base's low four bits decide, not the limit's
    ∷ []

-- refusal 8, and before 9
unfoldable pub lengths : List Case
unfolding a5
lengths =
    sized (replicate 4095 0) a5
    ∷ sized (replicate 4097 0) a5
    ∷ sized [] a5
    ∷ sized (replicate 256 0) a5
    ∷ sized (replicate 4096 0) (replicate 143 0xA5)
    ∷ sized (replicate 4096 0xFF) (replicate 145 0xA5)  -- with a bad list
    ∷ sized (replicate 4096 0xFF) []
    ∷ []

unfoldable pub fills : List Case
unfolding lists offsets sizes ranges lengths
fills = lists ++ offsets ++ sizes ++ ranges ++ lengths
