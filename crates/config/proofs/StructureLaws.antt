-- That an ACS structure stands inside the image, and that the list is refused with 9 alone.
use mathlib.Core.Path.{◌≡◌, refl, sym, subst}
use mathlib.Core.Bool.{◌&&◌, ◌||◌, not}
use mathlib.Core.List.{List, [], ◌∷◌}
use Prim.Native.Nat.{ℕ, zero, suc, ◌+◌, ◌≤◌}
use native.Mathlib.Omega.{arith}
use lib.Dec.{eqb, leb}
use lib.ListN.{length}
use borrow.Author.Tests.{leb-true}
use Rattle.std.specs.Prelude.{Some, None, Ok, Err}
use Rattle.rules.specs.declared.Refusal.{Refusal}
use Rattle.rules.specs.declared.Refusal.TheVariants.{Capabilities}
use Rattle.rules.specs.Bytes.{le}
use Rattle.rules.specs.Image.{Structure, stands, bad, capability_version, next_offset, is_offset, is_among, is_acs, structure_length, structure_at}
use Rattle.rules.specs.Image.{enough_steps, list_start, follow, acs_structure, part_of}
use Rattle.rules.specs.Fill.{extent_of}
use Rattle.rules.proofs.Logic.{cond_case, both}

abbrev Inside : List ℕ → Structure → Type 0
Inside image (Ok (Some x)) = x.offset + x.length ≤ length image
Inside image (Ok None) = Unit {0}
Inside image (Err why) = why ≡ Capabilities

inside_at : (image : List ℕ) (at : ℕ) → Inside image (structure_at image at)
unfolding structure_at
inside_at image at =
    let n : ℕ = structure_length (le 2 image (at + 4)) in
    cond_case (Inside image) (eqb (capability_version image at) 1 && leb (at + n) (length image)) {x = stands at n} {y = bad}
    (λ p. leb-true (at + n) (length image) (both (eqb (capability_version image at) 1) (leb (at + n) (length image)) p).1)
    (λ q. refl)

inside_from : (image : List ℕ) (steps : ℕ) (visited : List ℕ) (at : ℕ) → Inside image (follow image steps visited at)
unfolding follow
inside_from image zero visited at = refl
inside_from image (suc steps) visited at =
    cond_case (Inside image) (eqb at 0) (λ p. tt) (λ q.
    cond_case (Inside image) (not (is_offset at) || is_among at visited) (λ p. refl) (λ q.
    cond_case (Inside image) (is_acs image at) (λ p. inside_at image at) (λ q. inside_from image steps (at ∷ visited) (next_offset image at))))

pub ends_inside : (image : List ℕ) {acs : Structure} → acs ≡ acs_structure image → (extent_of acs).offset + (extent_of acs).length ≤ length image
unfolding acs_structure
ends_inside image {acs} e = go acs (subst (Inside image) (sym e) (inside_from image enough_steps [] list_start))
  where
    go : (acs : Structure) → Inside image acs → (extent_of acs).offset + (extent_of acs).length ≤ length image
    go (Ok (Some x)) h = h
    go (Ok None) h = omega arith
    go (Err why) h = omega arith

pub refused_for_list : (image : List ℕ) {why : Refusal} → ◌≡◌ {A = Structure} (Err why) (acs_structure image) → why ≡ Capabilities
unfolding acs_structure
refused_for_list image e = subst (Inside image) (sym e) (inside_from image enough_steps [] list_start)

-- where there is none, the part is empty
pub part_of_extent : (image : List ℕ) (acs : Structure) → part_of image (Ok (Some (extent_of acs))) ≡ part_of image acs
part_of_extent image (Ok (Some x)) = refl
part_of_extent image (Ok None) = refl
part_of_extent image (Err why) = refl
