-- Text as bytes.
use mathlib.Core.List as list
use Rattle.std.specs.Prelude.{ℕ}
use Prim.Native.Char.{code}
use Prim.Native.String.{String, [], ◌∷◌}

-- the codes of a text's characters: its bytes, where all are ASCII
abbrev pub ascii : String → list.List ℕ
ascii [] = list.[]
ascii (c ∷ s) = list.◌∷◌ (code c) (ascii s)
