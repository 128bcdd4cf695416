-- Trails: hops that are put one after the other.
use mathlib.Core.Path.{◌∙◌}
use mathlib.Core.List.{List, [], ◌∷◌}
use native.Mathlib.Omega.{arith}
use Rattle.rules.specs.Route.{Hop}
use Rattle.walk.specs.declared.hops.Trail.{Trail}
use Rattle.walk.specs.Hops.{puts}
use Rattle.walk.specs.Trails.{Extends}

-- one hop, and then these hops
pub then_these : {t t₁ t₂ : Trail} {h : Hop} {hs : List Hop} → Extends t (h ∷ []) t₁ → Extends t₁ hs t₂ → Extends t (h ∷ hs) t₂
unfolding puts
then_these {t} {t₁} {t₂} {h} {hs} one rest =
    let a = one.counted in
    let b = rest.counted in
    record { same_buffer = rest.same_buffer ∙ one.same_buffer; counted = omega arith; laid = rest.laid ∙ rw (one.laid, one.counted) }
