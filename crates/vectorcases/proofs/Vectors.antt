-- The worked cases of request 1/13 come out as document 02 says, each by computation.
use mathlib.Core.Path.{refl}
use Rattle.cases.specs.Worked.{Every}
use Rattle.cases.specs.FabricF.{plain, directly, by_the_top}
use Rattle.cases.proofs.Computes.{computes}
use Rattle.vectorcases.specs.Vectors.{with, stopped, reading, vectors, bits, EveryBit}

pub full_size_vectors : Every vectors
unfolding computes with plain directly by_the_top stopped reading vectors
full_size_vectors = (refl, (refl, (refl, (refl, (refl, (refl, (refl, (refl, (refl, tt)))))))))

pub vector_bits : EveryBit bits
unfolding with bits
vector_bits = (refl, (refl, (refl, (refl, (refl, (refl, (refl, (refl, (refl, (refl, tt))))))))))
