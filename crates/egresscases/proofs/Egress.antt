-- The worked cases of request 3/13 come out as the notice's table and its register page say, each by computation.
use mathlib.Core.Path.{refl}
use Rattle.cases.specs.Worked.{Every}
use Rattle.cases.specs.FabricF.{plain, directly, by_the_top}
use Rattle.cases.proofs.Computes.{computes}
use Rattle.egresscases.specs.Egress.{row, blocked, settings, examples}

settings_right : Every settings
unfolding computes row plain directly by_the_top blocked settings
settings_right = (refl, (refl, (refl, (refl, (refl, (refl, (refl, (refl, tt))))))))

examples_right : Every examples
unfolding computes row plain directly by_the_top blocked examples
examples_right = (refl, (refl, (refl, (refl, (refl, (refl, (refl, (refl, tt))))))))

pub peer_requests_as_said : Every settings × Every examples
peer_requests_as_said = (settings_right, examples_right)
