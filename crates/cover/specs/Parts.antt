-- Parts of covering that a function of their own works out.
use Rattle.std.specs.Prelude.{◌≡◌, false, cond, List, ℕ, ◌≤◌, ◌<◌, eqb}
use Rattle.rules.specs.Snapshot.{count, parent, is_endpoint}

-- every sibling of p stands at r or behind it
pub record SiblingsFrom (s : List ℕ) (p r : ℕ) : Type 0 where
  pub within : r ≤ count s
  pub none_before : (j : ℕ) → j < r → eqb (parent s j) (parent s p) ≡ false

-- how many ranges a node of this kind uses: an endpoint six, a bridge its two windows
abbrev pub ranges_used : ℕ → ℕ
ranges_used kind = cond (is_endpoint kind) 6 2
