-- Parts of the check that a function of their own works out.
use Rattle.std.specs.Prelude.{Bool, cond, List, ℕ, Result, Ok, Err}
use Rattle.rules.specs.declared.Refusal.{Refusal}
use Rattle.rules.specs.declared.Refusal.TheVariants.{Malformed, Version, Time}
use Rattle.rules.specs.Refuse.{known_version, well_made, in_time}

-- a test that holds lets pass what stands behind it, and else refuses
abbrev pub after : Bool → Refusal → Result (Unit {0}) Refusal → Result (Unit {0}) Refusal
after holds why rest = cond holds rest (Err why)

-- the refusals of a header that has begun, in their order: 2, the rest of 1, 3
unfoldable pub header_verdict : List ℕ → ℕ → Result (Unit {0}) Refusal
header_verdict s time = after (known_version s) Version (after (well_made s) Malformed (after (in_time s time) Time (Ok tt)))
