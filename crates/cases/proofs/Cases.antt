-- F1 to F12 come out as document 01 says, each by computation.
use mathlib.Core.Path.{refl}
use Rattle.cases.specs.Worked.{Every}
use Rattle.cases.specs.FabricF.{fabric_f, request, plain, directly, by_the_top, table}
use Rattle.cases.proofs.Computes.{computes}

pub F1-to-F12 : Every table
unfolding computes fabric_f request plain directly by_the_top table
F1-to-F12 =
    (refl, (refl, (refl, (refl, (refl, (refl, (refl, (refl, (refl, (refl, (refl, (refl, tt))))))))))))
