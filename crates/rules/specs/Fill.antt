-- A record filled from a configuration space image (document 02, 2/13): what is written where, what stays, and what is refused.
use Rattle.std.specs.Prelude.{◌≡◌, Bool, true, false, ◌&&◌, ◌||◌, not, List, [], ◌∷◌, ◌++◌, ℕ, ◌+◌, ◌<◌, eqb, length}
use Rattle.rules.specs.declared.Range.{Range}
use Rattle.rules.specs.declared.Extent.{Extent}
use Rattle.std.specs.Prelude.{Some, None, Ok, Err}
use Rattle.rules.specs.Bytes.{byte, le_bytes, bytes_from, laid, within}
use Rattle.rules.specs.Snapshot.{base}
use Rattle.rules.specs.Image.{image_size, primary_bus, secondary_bus, subordinate_bus, memory_window, prefetchable_window}
use Rattle.rules.specs.Image.{Structure, extent, acs_structure, part_of}
use Rattle.rules.specs.Refuse.{Result, refused, answered, unless, through}

-- a record of a snapshot
abbrev pub record_size : ℕ
record_size = 144

unfoldable pub range_bytes : Range → List ℕ
range_bytes r = le_bytes 8 r.first ++ le_bytes 8 r.last

-- the bytes that are written from a byte of the record on
pub record Field : Type 0 where
  pub from : ℕ
  pub bytes : List ℕ

abbrev pub field : ℕ → List ℕ → Field
field from bytes = record { from = from; bytes = bytes }

-- Capability, Control and Egress Control Vector of the ACS structure acs. "A list that ends without ACS gives Capability and Control
-- 0": of an empty part every byte reads 0. "Vector bytes not read are 0.": they are past the structure's end.
abbrev pub acs_fields : List ℕ → List Field
acs_fields acs = field 8 (bytes_from 2 acs 4) ∷ field 10 (bytes_from 2 acs 6) ∷ field 16 (bytes_from 32 acs 8) ∷ []

-- "fill a record's bus numbers, windows and ACS fields"
abbrev pub filled_fields : List ℕ → List ℕ → List Field
filled_fields image acs =
    (field 4 (primary_bus image ∷ []) ∷ field 6 (secondary_bus image ∷ subordinate_bus image ∷ []) ∷ [])
    ++ acs_fields acs
    ++ (field 48 (range_bytes (memory_window image)) ∷ field 64 (range_bytes (prefetchable_window image)) ∷ [])

-- "Other record bytes stay"
abbrev pub fill_all : List Field → List ℕ → List ℕ
fill_all [] r = r
fill_all (x ∷ l) r = fill_all l (laid r x.from x.bytes)

unfoldable pub filled : List ℕ → List ℕ → List ℕ
filled image r = fill_all (filled_fields image (part_of image (acs_structure image))) r

-- where the ACS structure stands; both 0 where there is none
abbrev pub extent_of : Structure → Extent
extent_of (Ok (Some x)) = x
extent_of (Ok None) = extent 0 0
extent_of (Err why) = extent 0 0

-- "8 image not 4,096 bytes", "8 also for a record not 144 bytes, before 9"
unfoldable pub whole_sizes : List ℕ → List ℕ → Bool
whole_sizes image r = eqb (length image) image_size && eqb (length r) record_size

-- 9: the list or the ACS structure is bad
abbrev pub is_sound : Structure → Bool
is_sound (Ok found) = true
is_sound (Err why) = false

unfoldable pub listed : Structure → Result Extent
listed acs = through (unless (is_sound acs) 9 ∷ []) (answered (extent_of acs))

-- "Here and below a new refusal's index is 0 unless named."
unfoldable pub filling : List ℕ → List ℕ → Result Extent
filling image r = through (unless (whole_sizes image r) 8 ∷ []) (listed (acs_structure image))

-- "Other record bytes stay, and on a refusal all of them."
abbrev pub record_after : Result Extent → List ℕ → List ℕ → List ℕ
record_after (refused number i) image r = r
record_after (answered x) image r = filled image r

-- a byte of no field that is filled
abbrev pub is_other : ℕ → Bool
is_other k = not (eqb k 4 || within 6 k 11 || within 16 k 79)

-- The record byte by byte after a fill: what is filled, of an image and the ACS structure acs, and that every other byte stays.
pub record ByteByByte (image acs before after : List ℕ) : Type 0 where
  pub size : length after ≡ length before
  pub own : byte after 4 ≡ primary_bus image
  pub secondary : byte after 6 ≡ secondary_bus image
  pub subordinate : byte after 7 ≡ subordinate_bus image
  pub capability : (k : ℕ) → k < 2 → byte after (8 + k) ≡ byte acs (4 + k)
  pub control : (k : ℕ) → k < 2 → byte after (10 + k) ≡ byte acs (6 + k)
  pub vector : (k : ℕ) → k < 32 → byte after (16 + k) ≡ byte acs (8 + k)
  pub memory : (k : ℕ) → k < 16 → byte after (48 + k) ≡ byte (range_bytes (memory_window image)) k
  pub prefetchable : (k : ℕ) → k < 16 → byte after (64 + k) ≡ byte (range_bytes (prefetchable_window image)) k
  pub others : (k : ℕ) → is_other k ≡ true → byte after k ≡ byte before k

-- record i of the snapshot s has these bytes
pub record Holds (s : List ℕ) (i : ℕ) (r : List ℕ) : Type 0 where
  pub bytes : (k : ℕ) → k < record_size → byte s (base i + k) ≡ byte r k
