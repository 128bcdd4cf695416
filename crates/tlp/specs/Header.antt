-- What reading a header gives: the TLP that it describes where it is fine.
use Rattle.std.specs.Prelude.{cond, ◌||◌, not, List, ℕ, Option, Some, None}
use Rattle.rules.specs.declared.Target.{Target}
use Rattle.rules.specs.declared.Tlp.{Tlp}
use Rattle.rules.specs.Bytes.{byte}
use Rattle.rules.specs.Tlp.{is_completion, crosses, header_fine, target_of, tlp_of}

unfoldable pub header_read : List ℕ → Option Tlp
header_read h = cond (header_fine h) (Some (tlp_of h)) None

-- where the TLP goes, but for a request that crosses a boundary
unfoldable pub target_read : List ℕ → Option Target
target_read h = cond (is_completion (byte h 0) || not (crosses h)) (Some (target_of h)) None
