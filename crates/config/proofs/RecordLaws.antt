-- A range put into a record: its two ends stand side by side.
use mathlib.Core.Path.{◌≡◌, ◌∙◌}
use mathlib.Core.List.{List}
use Prim.Native.Nat.{ℕ, ◌+◌}
use Rattle.rules.specs.declared.Range.{Range}
use Rattle.rules.specs.Bytes.{le_bytes, laid}
use Rattle.rules.specs.Fill.{range_bytes}
use Rattle.numbers.proofs.Laid.{laid_both}

pub range_put : (b : List ℕ) (at : ℕ) (w : Range) {a c : List ℕ} → a ≡ laid b at (le_bytes 8 w.first)
    → c ≡ laid a (at + 8) (le_bytes 8 w.last) → c ≡ laid b at (range_bytes w)
unfolding range_bytes le_bytes
range_put b at w ha hc = hc ∙ rw ha (laid_both (le_bytes 8 w.first) (le_bytes 8 w.last) b at)
