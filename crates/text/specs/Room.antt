-- The room of a text.
use Rattle.std.specs.Prelude.{List, ◌++◌, ℕ, ◌-◌, length, take}

-- how many bytes a text has room for
abbrev pub room : ℕ
room = 4096

-- the text t with x put after it, as much of x as there is room for
unfoldable pub put : List ℕ → List ℕ → List ℕ
put t x = t ++ take (room - length t) x
