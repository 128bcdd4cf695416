-- The TLP header, big-endian.
use Rattle.std.specs.Prelude.{Bool, cond, ◌&&◌, ◌||◌, not, List, ℕ, ◌+◌, ◌*◌, ◌/◌, ◌%◌, eqb, ltb, length}
use Rattle.rules.specs.declared.Target.{Target}
use Rattle.rules.specs.declared.Target.TheVariants.{Address, Id}
use Rattle.rules.specs.declared.Tlp.{Tlp}
use Rattle.rules.specs.Bytes.{byte, be, bit}

-- Byte 0: 00h and 40h, read and write with 12-byte header; 20h and 60h with 16; 0Ah and 4Ah, completions with 12.
abbrev pub is_read : ℕ → Bool
is_read form = eqb form 0x00 || eqb form 0x20

abbrev pub is_write : ℕ → Bool
is_write form = eqb form 0x40 || eqb form 0x60

abbrev pub is_request : ℕ → Bool
is_request form = is_read form || is_write form

abbrev pub is_completion : ℕ → Bool
is_completion form = eqb form 0x0A || eqb form 0x4A

-- a header of 16 bytes, with a 64-bit address
abbrev pub is_long : ℕ → Bool
is_long form = eqb form 0x20 || eqb form 0x60

-- The slice has exactly that length.
abbrev pub header_length : ℕ → ℕ
header_length form = cond (is_long form) 16 12

-- Byte 2: bit 5 Relaxed Ordering, bits 3:2 address type AT, bits 1:0 and byte 3 the length in doublewords, 0 meaning 1,024.
abbrev pub relaxed : List ℕ → Bool
relaxed h = bit 5 (byte h 2)

abbrev pub address_type : List ℕ → ℕ
address_type h = byte h 2 / 4 % 4

abbrev pub doublewords : List ℕ → ℕ
doublewords h = cond (eqb (byte h 2 % 4 * 256 + byte h 3) 0) 1024 (byte h 2 % 4 * 256 + byte h 3)

-- Bytes 4-5 are a request's Requester ID, bus first.
abbrev pub requester_bus : List ℕ → ℕ
requester_bus h = byte h 4

-- Address: bytes 8-11 or 8-15, big-endian, low two bits taken as 0.
abbrev pub address_bytes : ℕ → ℕ
address_bytes form = cond (is_long form) 8 4

unfoldable pub address : List ℕ → ℕ
address h = be (address_bytes (byte h 0)) h 8 / 4 * 4

-- A request whose address mod 4,096 plus length in bytes exceeds 4,096 is bad.
unfoldable pub crosses : List ℕ → Bool
crosses h = ltb 4096 (address h % 4096 + 4 * doublewords h)

unfoldable pub header_fine : List ℕ → Bool
header_fine h =
    eqb (length h) (header_length (byte h 0))
    && (is_completion (byte h 0) || (is_request (byte h 0) && not (crosses h)))

-- A completion goes to the ID in bytes 8-9. Other fields aren't looked at.
unfoldable pub target_of : List ℕ → Target
target_of h = cond (is_completion (byte h 0)) (Id (record { 0 = byte h 8 }) (byte h 9)) (Address (address h))

unfoldable pub tlp_of : List ℕ → Tlp
tlp_of h =
    record {
      request = is_request (byte h 0);
      completion_owed = is_read (byte h 0);
      straight = relaxed h;
      address_type = address_type h;
      requester_bus = record { 0 = requester_bus h };
      target = target_of h;
    }
