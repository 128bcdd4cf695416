-- What is read from the configuration space image of a bridge (document 02, 2/13). Numbers in it are little-endian.
use Rattle.std.specs.Prelude.{Bool, false, cond, ◌&&◌, ◌||◌, not, List, [], ◌∷◌, ℕ, zero, suc, ◌+◌, ◌*◌, ◌/◌, ◌%◌, ◌^◌, eqb, leb, ltb, length, take, drop}
use Rattle.rules.specs.Bytes.{byte, le, bit}
use Rattle.rules.specs.Snapshot.{bit_e, vector_size}
use Rattle.rules.specs.declared.Range.{Range}
use Rattle.std.specs.Prelude.{Option, Some, None, Result, Ok, Err}
use Rattle.rules.specs.declared.Extent.{Extent}
use Rattle.rules.specs.declared.Refusal.{Refusal}
use Rattle.rules.specs.declared.Refusal.TheVariants.{Capabilities}

-- "From a 4,096-byte configuration space image of a bridge"
abbrev pub image_size : ℕ
image_size = 4096

-- "Bus numbers stand at 18h to 1Ah": the bridge's own, the secondary, the subordinate
abbrev pub primary_bus : List ℕ → ℕ
primary_bus image = byte image 0x18

abbrev pub secondary_bus : List ℕ → ℕ
secondary_bus image = byte image 0x19

abbrev pub subordinate_bus : List ℕ → ℕ
subordinate_bus image = byte image 0x1A

abbrev pub range : ℕ → ℕ → Range
range f l = record { first = f; last = l }

-- "A base above its limit is a closed range.", which a record writes (1, 0)
unfoldable pub window : ℕ → ℕ → Range
window base limit = cond (ltb limit base) (range 1 0) (range base limit)

-- "as the bridge header defines them": bits 15:4 of a base are bits 31:20 of the first address, with zeros below; of a limit they
-- are those of the last, with ones below. The low four bits are no part of the address.
abbrev pub base_address : ℕ → ℕ
base_address register = 0x100000 * (register / 16)

abbrev pub limit_address : ℕ → ℕ
limit_address register = 0x100000 * (register / 16) + 0xFFFFF

-- "memory base and limit at 20h and 22h"
unfoldable pub memory_window : List ℕ → Range
memory_window image = window (base_address (le 2 image 0x20)) (limit_address (le 2 image 0x22))

-- "If the low four bits of the prefetchable base are 0, the upper halves count as 0."
unfoldable pub upper_half : List ℕ → ℕ → ℕ
upper_half image at = cond (eqb (le 2 image 0x24 % 16) 0) 0 (le 4 image at)

-- "prefetchable at 24h and 26h with upper halves at 28h and 2Ch"
unfoldable pub prefetchable_window : List ℕ → Range
prefetchable_window image =
    window (base_address (le 2 image 0x24) + 2 ^ 32 * upper_half image 0x28) (limit_address (le 2 image 0x26) + 2 ^ 32 * upper_half image 0x2C)

-- The header of an extended capability: ID in bits 15:0, version in bits 19:16, the next one's offset in bits 31:20.
abbrev pub capability_id : List ℕ → ℕ → ℕ
capability_id image at = le 2 image at

abbrev pub capability_version : List ℕ → ℕ → ℕ
capability_version image at = le 2 image (at + 2) % 16

abbrev pub next_offset : List ℕ → ℕ → ℕ
next_offset image at = le 2 image (at + 2) / 16

-- "ACS has ID 000Dh and version 1": the version is looked at below, in structure_at
abbrev pub is_acs : List ℕ → ℕ → Bool
is_acs image at = eqb (capability_id image at) 0x000D

-- what an image is found to have: an ACS structure at an offset, of a length; a list that ends without one; or refusal 9
abbrev pub Structure : Type 0
Structure = Result (Option Extent) Refusal

abbrev pub extent : ℕ → ℕ → Extent
extent offset length = record { offset = offset; length = length }

abbrev pub stands : ℕ → ℕ → Structure
stands at n = Ok (Some (extent at n))

abbrev pub absent : Structure
absent = Ok None

abbrev pub bad : Structure
bad = Err Capabilities

-- The ACS structure at an offset has its Capability register 4 bytes on, Control 6, the vector 8. "its structure is 8 bytes, plus
-- with E the vector in whole doublewords" of 32 bits
abbrev pub structure_length : ℕ → ℕ
structure_length capability = 8 + cond (bit bit_e capability) (4 * ((vector_size capability + 31) / 32)) 0

-- 9: "an ACS structure of another version or running past the image"
unfoldable pub structure_at : List ℕ → ℕ → Structure
structure_at image at =
    cond (eqb (capability_version image at) 1 && leb (at + structure_length (le 2 image (at + 4))) (length image))
    (stands at (structure_length (le 2 image (at + 4)))) bad

-- "Extended capabilities start at 100h as a linked list"
abbrev pub list_start : ℕ
list_start = 0x100

-- "a multiple of 4 from 100h"
abbrev pub is_offset : ℕ → Bool
is_offset at = leb list_start at && eqb (at % 4) 0

-- the offset is one of these
unfoldable pub is_among : ℕ → List ℕ → Bool
is_among at [] = false
is_among at (x ∷ l) = eqb at x || is_among at l

-- The walk from an offset on; `visited` has the offsets at which a header was read. 0 ends the list. 9: "a next offset neither 0
-- nor a multiple of 4 from 100h, or already visited". "The walk stops at the first ACS". There is a step less at each header; that
-- none is left never comes up with the steps below (theorem enough_steps_lem).
unfoldable pub follow : List ℕ → ℕ → List ℕ → ℕ → Structure
follow image zero visited at = bad
follow image (suc steps) visited at =
    cond (eqb at 0) absent
    (cond (not (is_offset at) || is_among at visited) bad
    (cond (is_acs image at) (structure_at image at)
    (follow image steps (at ∷ visited) (next_offset image at))))

-- There are 960 multiples of 4 from 100h in an image, so the 961st offset is 0, or bad, or already visited.
abbrev pub enough_steps : ℕ
enough_steps = 961

unfoldable pub acs_structure : List ℕ → Structure
acs_structure image = follow image enough_steps [] list_start

-- "Hand back the ACS structure itself as that part of the image." "A list that ends without ACS gives .. an empty part."
abbrev pub part_of : List ℕ → Structure → List ℕ
part_of image (Ok (Some x)) = take x.length (drop x.offset image)
part_of image (Ok None) = []
part_of image (Err why) = []
