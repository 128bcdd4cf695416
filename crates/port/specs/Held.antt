-- Which handlings hold a request.
use Rattle.std.specs.Prelude.{Bool, true, false}
use Rattle.rules.specs.declared.Handling.{Handling}
use Rattle.rules.specs.declared.Handling.TheVariants.{Direct, Redirect, Violation}

-- held: blocked or redirected
abbrev pub held : Handling → Bool
held Direct = false
held Redirect = true
held Violation = true
