-- Numbers in bytes. A list of bytes reads 0 past its end.
use Rattle.std.specs.Prelude.{Bool, ◌&&◌, List, [], ◌∷◌, ℕ, zero, suc, ◌+◌, ◌*◌, ◌^◌, ◌/◌, ◌%◌, eqb, leb, get_or}
use Rattle.std.proofs.lemmas.List.Edits.{sets}

abbrev pub byte : List ℕ → ℕ → ℕ
byte b i = get_or b i 0

-- n bytes from i on, little-endian
abbrev pub le : ℕ → List ℕ → ℕ → ℕ
le zero b i = 0
le (suc n) b i = byte b i + 256 * le n b (i + 1)

-- n bytes from i on, big-endian
unfoldable pub be : ℕ → List ℕ → ℕ → ℕ
be zero b i = 0
be (suc n) b i = 256 * be n b i + byte b (i + n)

-- a number in n bytes, little-endian
unfoldable pub le_bytes : ℕ → ℕ → List ℕ
le_bytes zero x = []
le_bytes (suc n) x = x % 256 ∷ le_bytes n (x / 256)

-- the n bytes from i on; past the end they are 0
unfoldable pub bytes_from : ℕ → List ℕ → ℕ → List ℕ
bytes_from zero b i = []
bytes_from (suc n) b i = byte b i ∷ bytes_from n b (i + 1)

-- b with the bytes x laid in, one after the other from `at` on, and every other byte as it was
unfoldable pub laid : List ℕ → ℕ → List ℕ → List ℕ
laid b at x = sets b at x

-- bit k of x
abbrev pub bit : ℕ → ℕ → Bool
bit k x = eqb (x / 2 ^ k % 2) 1

-- x lies in a..b, both ends with it
abbrev pub within : ℕ → ℕ → ℕ → Bool
within a x b = leb a x && leb x b
