-- Every record but a root port stands under an earlier one, and a root port under the root complex.
use mathlib.Core.Path.{◌≡◌}
use mathlib.Core.Bool.{true, false}
use mathlib.Core.List.{List}
use Prim.Native.Nat.{ℕ, ◌<◌}
use lib.Dec.{ltb}
use borrow.Author.Tests.{ltb-true, eqb-true}
use Rattle.rules.specs.Snapshot.{kind, parent, complex, is_root}
use Rattle.rules.specs.Records.{parent_fine, stands_under}
use Rattle.rules.proofs.Logic.{both}

module _ (s : List ℕ) (i : ℕ) (fine : parent_fine s i ≡ true) where
  pub lower : is_root (kind s i) ≡ false → parent s i < i
  unfolding parent_fine
  lower off = ltb-true (parent s i) i (both (ltb (parent s i) i) (stands_under (kind s i) (kind s (parent s i))) (rw off at fine)).0

  pub root_under_complex : is_root (kind s i) ≡ true → parent s i ≡ complex
  unfolding parent_fine
  root_under_complex root = eqb-true (parent s i) complex (rw root at fine)
