-- Text put at a place of a buffer.
use Rattle.std.specs.Prelude.{◌≡◌, List, ℕ, ◌+◌, ◌≤◌, length}
use Rattle.rules.specs.Bytes.{laid}

-- The text x, at most `most` bytes, was put into the buffer b from `at` on: where it has room, `next` is the place after it and b is then
-- `after`, with x laid in and nothing else changed.
pub record Put (most : ℕ) (b : List ℕ) (at : ℕ) (x : List ℕ) (next : ℕ) (after : List ℕ) : Type 0 where
  pub kept : length after ≡ length b
  pub short : length x ≤ most
  pub moves : at + length x ≤ length b → next ≡ at + length x
  pub bytes : at + length x ≤ length b → after ≡ laid b at x
