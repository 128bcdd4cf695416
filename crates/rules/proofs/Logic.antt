-- Tests taken apart and put together: eliminators of `cond`, `among` and the Boolean operators.
use mathlib.Core.Path.{◌≡◌, refl, sym, ◌∙◌, ap}
use mathlib.Core.Bool.{Bool, true, false, cond, ◌&&◌, ◌||◌, not}
use Prim.Native.Nat.{ℕ}
use native.Mathlib.Nat.{le_trans}
use native.Mathlib.Omega.{arith}
use lib.Dec.{leb}
use borrow.Author.Tests.{leb-true, le-leb}
use Rattle.rules.specs.declared.Handling.TheVariants.{Direct, Redirect, Violation}
use Rattle.rules.specs.Below.{among}
use Rattle.std.specs.Prelude.{Option, Some, None}

-- a test cannot both pass and fail
pub contradiction : {A : Type 0} {b : Bool} → b ≡ true → b ≡ false → A
contradiction p q = let z : ◌≡◌ {A = ℕ} 0 1 = cc in absurd (omega arith)

pub cond_case : {A : Type 0} (P : A → Type 0) (b : Bool) {x y : A} → (b ≡ true → P x) → (b ≡ false → P y) → P (cond b x y)
cond_case P true f g = f refl
cond_case P false f g = g refl

pub among_case : {A : Type 0} (P : A → Type 0) (o : Option ℕ) {f : ℕ → A} {z : A}
    → ((i : ℕ) → o ≡ Some i → P (f i)) → (o ≡ None → P z) → P (among o f z)
among_case P (Some i) f z = f i refl
among_case P None f z = z refl

pub either : {A : Type 0} (b : Bool) → (b ≡ true → A) → (b ≡ false → A) → A
either true f g = f refl
either false f g = g refl

pub both : (a b : Bool) → (a && b) ≡ true → (a ≡ true) × (b ≡ true)
both true b h = (refl, h)
both false b h = contradiction h refl

pub and_both : {a b : Bool} → a ≡ true → b ≡ true → (a && b) ≡ true
and_both p q = rw (p, q)

pub and_left_false : (a b : Bool) → a ≡ false → (a && b) ≡ false
and_left_false a b p = rw p

pub and_right_false : (a b : Bool) → b ≡ false → (a && b) ≡ false
and_right_false true b p = p
and_right_false false b p = refl

pub or_false : (a b : Bool) → (a || b) ≡ false → (a ≡ false) × (b ≡ false)
or_false true b h = contradiction refl h
or_false false b h = (refl, h)

pub or_case : {A : Type 0} (a b : Bool) → (a || b) ≡ true → (a ≡ true → A) → (b ≡ true → A) → A
or_case true b h f g = f refl
or_case false b h f g = g h

pub or_left : (a b : Bool) → a ≡ true → (a || b) ≡ true
or_left a b p = rw p

pub or_right : (a b : Bool) → b ≡ true → (a || b) ≡ true
or_right true b p = refl
or_right false b p = p

pub not_true : {b : Bool} → not b ≡ true → b ≡ false
not_true {b} = go b
  where
    go : (b : Bool) → not b ≡ true → b ≡ false
    go true h = sym h
    go false h = refl

pub not_false : {b : Bool} → not b ≡ false → b ≡ true
not_false {b} = go b
  where
    go : (b : Bool) → not b ≡ false → b ≡ true
    go true h = refl
    go false h = sym h

-- where what a would give does not hold, a fails
pub implies : {a b : Bool} → (a ≡ true → b ≡ true) → b ≡ false → a ≡ false
implies {a} h n = either a (λ p. contradiction (h p) n) (λ q. q)

-- two tests are equal where each passes with the other
pub same_test : (a b : Bool) → (a ≡ true → b ≡ true) → (b ≡ true → a ≡ true) → a ≡ b
same_test true b f g = sym (f refl)
same_test false b f g = sym (implies g refl)

-- an `if` whose else is false is a conjunction
pub then_and : {x a b r : Bool} → x ≡ a → x ≡ true → r ≡ b → r ≡ (a && b)
then_and {x} {a} {b} {r} e t h = h ∙ sym (ap (λ (z : Bool). z && b) (sym e ∙ t))

pub else_and : {x a : Bool} (b : Bool) → x ≡ a → x ≡ false → false ≡ (a && b)
else_and b e f = sym (ap (λ (z : Bool). z && b) (sym e ∙ f))

pub leb_trans : (a b c : ℕ) → leb a b ≡ true → leb b c ≡ true → leb a c ≡ true
leb_trans a b c p q = le-leb a c (le_trans (leb-true a b p) (leb-true b c q))

-- handlings told apart
pub redirect_no_direct : {A : Type 0} → Redirect ≡ Direct → A
redirect_no_direct e = let z : ◌≡◌ {A = ℕ} 0 1 = cc in absurd (omega arith)

pub violation_no_direct : {A : Type 0} → Violation ≡ Direct → A
violation_no_direct e = let z : ◌≡◌ {A = ℕ} 0 1 = cc in absurd (omega arith)
