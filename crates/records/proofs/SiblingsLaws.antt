-- The four rules of siblings, which one pass over the earlier records tests, and where that pass may begin.
use mathlib.Core.Path.{◌≡◌, refl, ◌∙◌, ap}
use mathlib.Core.Bool.{Bool, true, false, ◌&&◌, ◌||◌, not}
use mathlib.Core.List.{List}
use Prim.Native.Nat.{ℕ, zero, suc, ◌+◌, ◌^◌, ◌<◌}
use native.Mathlib.Omega.{arith}
use borrow.Author.Tests.{ne_eqb}
use Rattle.rules.specs.Below.{any_below}
use Rattle.rules.specs.Snapshot.{kind, parent, is_root}
use Rattle.rules.specs.Records.{parent_fine, siblings, under_port, only_child, ranges_fine}
use Rattle.rules.specs.Records.{buses_meet, buses_apart, numbers_meet, numbers_apart, ranges_meet, ranges_apart}
use Rattle.rules.proofs.Logic.{either, and_left_false}
use Rattle.rules.proofs.Loops.{any_false, any_miss, any_same}
use Rattle.rules.proofs.Sound.{keeps}
use Rattle.records.specs.Parts.{conflict, apart, Earlier, Behind}
use Rattle.records.proofs.ParentsLaws.{lower, root_under_complex}

-- What the pass works out, joined, and the four rules of siblings.

any_or : (f g : ℕ → Bool) (n : ℕ) → any_below n (λ j. f j || g j) ≡ (any_below n f || any_below n g)
unfolding any_below
any_or f g zero = refl
any_or f g (suc n) = rw (any_or f g n) (across (any_below n f) (any_below n g) (f n) (g n))
  where
    across : (a b c d : Bool) → ((a || b) || (c || d)) ≡ ((a || c) || (b || d))
    across true b c d = refl
    across false true true d = refl
    across false true false d = refl
    across false false c d = refl

-- where nothing passes, nothing passes a further test
any_and_none : (f g : ℕ → Bool) (n : ℕ) → any_below n f ≡ false → any_below n (λ j. f j && g j) ≡ false
any_and_none f g n h = any_miss (λ j. f j && g j) n (λ j l. and_left_false (f j) (g j) (any_false n f h j l))

-- a conflict is of one of three kinds
any_and_or : (p a b c : ℕ → Bool) (n : ℕ)
    → any_below n (λ j. p j && (a j || b j || c j))
    ≡ (any_below n (λ j. p j && a j) || any_below n (λ j. p j && b j) || any_below n (λ j. p j && c j))
any_and_or p a b c n =
    any_same (λ j. p j && (a j || b j || c j)) (λ j. (p j && a j) || (p j && b j) || (p j && c j)) n (λ j l. spread (p j) (a j) (b j) (c j))
    ∙ any_or (λ j. (p j && a j) || (p j && b j)) (λ j. p j && c j) n
    ∙ ap (λ (x : Bool). x || any_below n (λ j. p j && c j)) (any_or (λ j. p j && a j) (λ j. p j && b j) n)
  where
    spread : (p a b c : Bool) → (p && (a || b || c)) ≡ ((p && a) || (p && b) || (p && c))
    spread true a b c = refl
    spread false a b c = refl

-- a record is apart from its siblings exactly if it keeps the four rules
pub apart_rules : (s : List ℕ) (i : ℕ) → apart s i ≡ (only_child s i && buses_apart s i && numbers_apart s i && ranges_apart s i)
unfolding apart conflict only_child buses_apart numbers_apart ranges_apart
apart_rules s i = either u
    (λ on. rw on (alone (any_below i p) (any_and_none p b i) (any_and_none p n i) (any_and_none p r i)))
    (λ off. rw (off, any_and_or p b n r i) (none_of (any_below i (λ j. p j && b j)) (any_below i (λ j. p j && n j)) (any_below i (λ j. p j && r j))))
  where
    u : Bool
    u = under_port (kind s i)

    p : ℕ → Bool
    p = siblings s i

    b : ℕ → Bool
    b = buses_meet s i

    n : ℕ → Bool
    n = numbers_meet s i

    r : ℕ → Bool
    r = ranges_meet s i

    alone : (p : Bool) {a b c : Bool} → (p ≡ false → a ≡ false) → (p ≡ false → b ≡ false) → (p ≡ false → c ≡ false)
        → not p ≡ (not p && not a && not b && not c)
    alone true f g h = refl
    alone false f g h = rw (f refl, g refl, h refl)

    none_of : (a b c : Bool) → not (a || b || c) ≡ (not a && not b && not c)
    none_of true b c = refl
    none_of false true c = refl
    none_of false false c = refl

-- No record up to the parent of i has that parent, where the records before i stand behind their own.
pub behind_parent : (s : List ℕ) (i : ℕ) {p : ℕ} → is_root (kind s i) ≡ false → p ≡ parent s i → i < 2 ^ 16 → parent_fine s i ≡ true → Earlier s i
    → Behind s i (p + 1)
behind_parent s i {p} not_root is fits fine earlier =
    record { within = omega (arith, above); none_before = λ j below. ne_eqb (parent s i) (parent s j) (differ j below) }
  where
    above : p < i
    above = omega (arith, lower s i fine not_root)

    differ : (j : ℕ) → j < p + 1 → parent s i ≡ parent s j → ⊥
    differ j below e =
        either (is_root (kind s j))
        (λ q. omega (arith, root_under_complex s j stands q, above))
        (λ q. omega (arith, lower s j stands q))
      where
        stands : parent_fine s j ≡ true
        stands = (keeps s j (earlier j (omega (arith, above)))).parents

-- no sibling, no conflict
pub no_conflict : (s : List ℕ) (i j : ℕ) → siblings s i j ≡ false → conflict s i j ≡ false
unfolding conflict
no_conflict s i j e = and_left_false (siblings s i j) _ e

-- an earlier record that is fine keeps the rules of its ranges
pub earlier_ranges : (s : List ℕ) {i : ℕ} (j : ℕ) → Earlier s i → j < i → ranges_fine s j ≡ true
earlier_ranges s j earlier l = (keeps s j (earlier j l)).ranges
