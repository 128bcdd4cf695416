-- F1 as an input of `acsroute`, and the two lines that document 01 has for it.
use Rattle.std.specs.Prelude.{List, ◌∷◌, ◌++◌, ℕ}
use Rattle.rules.specs.Bytes.{le_bytes}
use Rattle.cases.specs.FabricF.{set, plain}
use Rattle.text.specs.Ascii.{ascii}

-- length, snapshot, now 0, origin 4, header length, header
unfoldable pub input_f1 : List ℕ
input_f1 = le_bytes 2 888 ++ set 0x00 0 ++ le_bytes 8 0 ++ le_bytes 2 4 ++ (12 ∷ plain)

unfoldable pub lines_f1 : List ℕ
lines_f1 = ascii "ACS 1 records 6\n" ++ ascii "delivered 5 unvalidated 2:4 3:6 5:7\n"
