-- The list of extended capabilities walked without a look back, as the code does it.
use Rattle.std.specs.Prelude.{cond, List, ℕ, zero, suc, eqb}
use Rattle.rules.specs.Image.{Structure, absent, bad, is_offset, is_acs, structure_at, next_offset}

-- 0 ends the list; another offset at which no header stands is bad
unfoldable pub chain : List ℕ → ℕ → ℕ → Structure
chain image zero at = bad
chain image (suc steps) at =
    cond (is_offset at)
    (cond (is_acs image at) (structure_at image at) (chain image steps (next_offset image at)))
    (cond (eqb at 0) absent bad)
