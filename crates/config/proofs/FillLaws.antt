-- A fill, refusal by refusal.
use mathlib.Core.Path.{◌≡◌, sym, ◌∙◌}
use mathlib.Core.Bool.{Bool, true, false}
use mathlib.Core.List.{List}
use Prim.Native.Nat.{ℕ}
use lib.Dec.{eqb}
use lib.ListN.{length}
use borrow.Author.Tests.{eq-eqb, ne_eqb, eqb-true}
use Rattle.std.specs.Prelude.{Option, Some, Ok, Err}
use Rattle.rules.specs.declared.Extent.{Extent}
use Rattle.rules.specs.declared.Refusal.TheVariants.{Length, Capabilities}
use Rattle.rules.specs.Image.{Structure, bad, image_size, acs_structure, part_of}
use Rattle.rules.specs.Refuse.{through}
use Rattle.rules.specs.Fill.{record_size, fill_all, filled_fields, filled, whole_sizes, extent_of, listed, filling, record_after}
use Rattle.rules.specs.Word.{Fill, refused_for, fill_of}
use Rattle.rules.proofs.Logic.{both, and_right_false}
use Rattle.config.proofs.StructureLaws.{part_of_extent}

-- what the call answers, and what it leaves of the record
pub record Done (image r : List ℕ) (f : Fill) (after : List ℕ) : Type 0 where
  pub says : fill_of f ≡ filling image r
  pub leaves : after ≡ record_after (filling image r) image r

module _ (image r : List ℕ) where
  pub wrong_size : {f : Fill} → whole_sizes image r ≡ false → f ≡ Err (refused_for Length) → Done image r f r
  unfolding filling through
  wrong_size w e = record { says = rw (e, w); leaves = rw w }

  pub wrong_image : {f : Fill} → (length image ≡ image_size → ⊥) → f ≡ Err (refused_for Length) → Done image r f r
  unfolding whole_sizes
  wrong_image h = wrong_size (rw (ne_eqb (length image) image_size h))

  pub wrong_record : {f : Fill} → (length r ≡ record_size → ⊥) → f ≡ Err (refused_for Length) → Done image r f r
  unfolding whole_sizes
  wrong_record h = wrong_size (and_right_false (eqb (length image) image_size) _ (ne_eqb (length r) record_size h))

  pub right_sizes : {whole : Bool} → whole ≡ whole_sizes image r → whole ≡ true → (length image ≡ image_size) × (length r ≡ record_size)
  unfolding whole_sizes
  right_sizes e p =
      let (i, l) = both (eqb (length image) image_size) (eqb (length r) record_size) (sym e ∙ p) in
      (eqb-true (length image) image_size i, eqb-true (length r) record_size l)

  module _ (i : length image ≡ image_size) (l : length r ≡ record_size) where
    sized : {acs : Structure} → acs ≡ acs_structure image → filling image r ≡ listed acs
    unfolding filling whole_sizes through
    sized e = rw (eq-eqb (length image) image_size i, eq-eqb (length r) record_size l, e)

    pub refuses : {f : Fill} → bad ≡ acs_structure image → f ≡ Err (refused_for Capabilities) → Done image r f r
    unfolding listed through
    refuses e h = record { says = rw (sized e, h); leaves = rw (sized e) }

    pub fills : {f : Fill} {found : Option Extent} {part after : List ℕ} → ◌≡◌ {A = Structure} (Ok found) (acs_structure image)
        → f ≡ Ok (extent_of (Ok found))
        → part ≡ part_of image (Ok (Some (extent_of (Ok found)))) → after ≡ fill_all (filled_fields image part) r → Done image r f after
    unfolding listed through filled
    fills {found} e h hp ha = record {
      says = rw (sized e, h);
      leaves = ha ∙ rw (sized e, hp, part_of_extent image (Ok found), ← e);
    }
