-- The walk of the list: a walk without a look back comes to what the literal one does, and the loop's turns are its steps.
use mathlib.Core.Path.{◌≡◌, refl, sym, ◌∙◌, ap, subst}
use mathlib.Core.Bool.{Bool, true, false, cond}
use mathlib.Core.List.{List, [], ◌∷◌}
use Prim.Native.Nat.{ℕ, zero, suc, ◌+◌, ◌-◌, ◌≤◌, ◌<◌}
use native.Mathlib.Omega.{arith}
use lib.Dec.{eqb}
use borrow.Author.Tests.{ne_eqb, eqb-true}
use Rattle.rules.specs.Image.{Structure, absent, bad, image_size, enough_steps, list_start, next_offset, is_offset, is_among, is_acs}
use Rattle.rules.specs.Image.{structure_at, follow, acs_structure}
use Rattle.rules.proofs.Logic.{either, or_case, contradiction}
use Rattle.config.specs.Chain.{chain}

-- the header at an offset leads on to the next
record Leads (image : List ℕ) (at next : ℕ) : Type 0 where
  fine : is_offset at ≡ true
  other : is_acs image at ≡ false
  is : next_offset image at ≡ next

-- one header after the other, from an offset to another
data Path (image : List ℕ) : ℕ → ℕ → Type 0 where
  one : {at next : ℕ} → Leads image at next → Path image at next
  more : {at next end : ℕ} → Leads image at next → Path image next end → Path image at end

then : {image : List ℕ} {at next end : ℕ} → Path image at next → Leads image next end → Path image at end
then (one l) m = more l (one m)
then (more l p) m = more l (then p m)

-- an offset that leads back to itself leads nowhere else
round : (image : List ℕ) (steps at : ℕ) → Path image at at → chain image steps at ≡ bad
unfolding chain
round image zero at p = refl
round image (suc steps) at (one l) = rw (l.fine, l.other, l.is) (round image steps at (one l))
round image (suc steps) at (more {next = next} l p) = rw (l.fine, l.other, l.is) (round image steps next (then p l))

-- every offset visited leads here
abbrev AllLead : List ℕ → List ℕ → ℕ → Type 0
AllLead image [] at = Unit {0}
AllLead image (x ∷ l) at = Path image x at × AllLead image l at

all_then : (image visited : List ℕ) {at next : ℕ} → Leads image at next → AllLead image visited at → AllLead image visited next
all_then image [] l h = tt
all_then image (x ∷ v) l (p, h) = (then p l, all_then image v l h)

back : (image visited : List ℕ) (at : ℕ) → is_among at visited ≡ true → AllLead image visited at → Path image at at
unfolding is_among
back image [] at p h = contradiction p refl
back image (x ∷ v) at p (q, h) =
    or_case (eqb at x) (is_among at v) p
    (λ e. subst (λ (y : ℕ). Path image y at) (sym (eqb-true at x e)) q)
    (λ r. back image v at r h)

-- the two walks come to the same
same_walk : (image : List ℕ) (steps : ℕ) (visited : List ℕ) (at : ℕ) → AllLead image visited at
    → follow image steps visited at ≡ chain image steps at
unfolding follow chain
same_walk image zero visited at h = refl
same_walk image (suc steps) visited at h =
    either (eqb at 0) (λ p. rw (eqb-true at 0 p)) (λ some.
    either (is_offset at) (λ fine.
    either (is_among at visited) (λ p. rw (some, fine, p) (sym (round_here fine (back image visited at p h)))) (λ new.
    either (is_acs image at) (λ p. rw (some, fine, new, p)) (λ other.
    let l : Leads image at (next_offset image at) = record { fine = fine; other = other; is = refl } in
    rw (some, fine, new, other) (same_walk image steps (at ∷ visited) (next_offset image at) (one l, all_then image visited l h)))))
    (λ q. rw (some, q)))
  where
    round_here : is_offset at ≡ true → Path image at at
        → cond (is_acs image at) (structure_at image at) (chain image steps (next_offset image at)) ≡ bad
    round_here fine p = sym (rw fine) ∙ round image (suc steps) at p

-- The loop has read `counter` headers and stands at an offset; the rest of the walk is owed.
pub record Walking (image : List ℕ) (at counter : ℕ) : Type 0 where
  pub inside : at < image_size
  pub upto : counter ≤ enough_steps
  pub owes : chain image (enough_steps - counter) at ≡ acs_structure image

pub walk_begins : (image : List ℕ) → Walking image list_start 0
unfolding acs_structure
walk_begins image = record { inside = omega arith; upto = omega arith; owes = sym (same_walk image enough_steps [] list_start tt) }

-- at a turn the counter is below the loop's bound, which is no higher than the steps that are enough
module _ {image : List ℕ} {at counter : ℕ} (w : Walking image at counter) where
  turn : {bound : ℕ} → counter < bound → bound ≤ enough_steps → chain image (suc (enough_steps - (counter + 1))) at ≡ acs_structure image
  turn l few =
      let m : suc (enough_steps - (counter + 1)) ≡ enough_steps - counter = omega arith in
      ap (λ (n : ℕ). chain image n at) m ∙ w.owes

  pub list_over : {bound : ℕ} → counter < bound → bound ≤ enough_steps → at ≡ 0 → absent ≡ acs_structure image
  unfolding chain
  list_over l few e = sym (rw e) ∙ turn l few

  pub leaves_list : {bound : ℕ} → counter < bound → bound ≤ enough_steps → is_offset at ≡ false → (at ≡ 0 → ⊥) → bad ≡ acs_structure image
  unfolding chain
  leaves_list l few q z = sym (rw (q, ne_eqb at 0 z)) ∙ turn l few

  -- the header that stands there, in the code's words
  pub first_found : {bytes : List ℕ} {place : ℕ} {r : Structure} {a : Bool} {bound : ℕ} → counter < bound → bound ≤ enough_steps
      → (is_offset at ≡ true) × ((place ≡ at) × (bytes ≡ image))
      → a ≡ is_acs bytes place → a ≡ true → r ≡ structure_at bytes place → r ≡ acs_structure image
  unfolding chain
  first_found l few (p, (b, c)) i q e =
      let i' = rw (b, c) at i in
      let e' = rw (b, c) at e in e' ∙ sym (rw (p, sym i' ∙ q)) ∙ turn l few

  pub walks_on : {bytes : List ℕ} {place next : ℕ} {a : Bool} {bound : ℕ} → counter < bound → bound ≤ enough_steps
      → (is_offset at ≡ true) × ((place ≡ at) × (bytes ≡ image))
      → a ≡ is_acs bytes place → a ≡ false → next ≡ next_offset bytes place → next < image_size → Walking image next (counter + 1)
  unfolding chain
  walks_on l few (p, (b, c)) i q e in_image =
      let i' = rw (b, c) at i in
      let e' = rw (b, c) at e in
      record { inside = in_image; upto = omega arith; owes = rw e' (sym (rw (p, sym i' ∙ q)) ∙ turn l few) }

  pub goes_round : (bound : ℕ) → bound ≤ counter → enough_steps ≤ bound → bad ≡ acs_structure image
  unfolding chain
  goes_round bound l many = let m : 0 ≡ enough_steps - counter = omega arith in ap (λ (n : ℕ). chain image n at) m ∙ w.owes
