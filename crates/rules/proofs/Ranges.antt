-- What `all`, `any` and `find` over a range of numbers promise, said with all_below, any_below and find_from.
use mathlib.Core.Path.{◌≡◌, refl, sym, ◌∙◌, ap, subst}
use mathlib.Core.Bool.{Bool, true, false, true≢false, cond, ◌&&◌, ◌||◌}
use mathlib.Core.List.{List}
use Prim.Native.Nat.{ℕ, zero, suc, ◌+◌, ◌-◌, ◌≤◌, ◌<◌}
use native.Mathlib.Omega.{arith}
use lib.ListN.{length, get_or}
use denote.Ref.{Bor}
use denote.Param.Members.{Mut}
use Rattle.std.specs.Prelude.{Option, Some, None}
use Rattle.std.specs.Bool.{MatchBool}
use Rattle.std.specs.Fn.{Called, CalledAt}
use Rattle.std.specs.Iterator.{ChecksAll, ChecksAny, FindsItem}
use Rattle.std.specs.List.{range_with_len, AllWithin, HoldsAt}
use Rattle.std.specs.Option.{MatchOption}
use Rattle.std.specs.declared.ops.Range.{Range}
use Rattle.std.proofs.iter.Yields.{nat_range_steps}
use Rattle.std.proofs.lemmas.Iterator.{YieldsList-from_range, cases_from_all, cases_from_any, first_from_Range}
use Rattle.std.proofs.lemmas.List.FromFn.{length-range_with_len, get_or-range_with_len}
use Rattle.rules.specs.Below.{all_below, any_below, find_from}

-- ---- the definitions, told by cases

-- all_below is true where f passes at each number below n, and false where it fails at one
pub all_below_cases : (n : ℕ) (f : ℕ → Bool) → MatchBool (all_below n f) ((k : ℕ) → k < n → f k ≡ true) ((k : ℕ) × (k < n) × (f k ≡ false))
unfolding all_below
all_below_cases zero f = λ k l. absurd (omega arith)
all_below_cases (suc n) f = go (all_below n f) (f n) refl (all_below_cases n f)
  where
    go : (a b : Bool) → f n ≡ b → MatchBool a ((k : ℕ) → k < n → f k ≡ true) ((k : ℕ) × (k < n) × (f k ≡ false))
        → MatchBool (a && b) ((k : ℕ) → k < suc n → f k ≡ true) ((k : ℕ) × (k < suc n) × (f k ≡ false))
    go true true e h = λ k l. grind arith
    go true false e h = (n, omega arith, e)
    go false b e h = (h.0, omega (arith, h.1), h.2)

-- any_below is true where f passes at some number below n, and false where it fails at each
pub any_below_cases : (n : ℕ) (f : ℕ → Bool) → MatchBool (any_below n f) ((k : ℕ) × (k < n) × (f k ≡ true)) ((k : ℕ) → k < n → f k ≡ false)
unfolding any_below
any_below_cases zero f = λ k l. absurd (omega arith)
any_below_cases (suc n) f = go (any_below n f) (f n) refl (any_below_cases n f)
  where
    go : (a b : Bool) → f n ≡ b → MatchBool a ((k : ℕ) × (k < n) × (f k ≡ true)) ((k : ℕ) → k < n → f k ≡ false)
        → MatchBool (a || b) ((k : ℕ) × (k < suc n) × (f k ≡ true)) ((k : ℕ) → k < suc n → f k ≡ false)
    go false false e h = λ k l. grind arith
    go false true e h = (n, omega arith, e)
    go true b e h = (h.0, omega (arith, h.1), h.2)

-- find_from gives the first number that passes, and `None` where each of the k numbers from i on fails
pub find_from_cases : (f : ℕ → Bool) (k i : ℕ)
    → MatchOption (find_from f k i) ((j : ℕ) → i ≤ j → j < i + k → f j ≡ false)
    (λ x. (i ≤ x) × (x < i + k) × (f x ≡ true) × ((j : ℕ) → i ≤ j → j < x → f j ≡ false))
unfolding find_from
find_from_cases f zero i = λ j a b. absurd (omega arith)
find_from_cases f (suc k) i = go (f i) refl (find_from f k (suc i)) (find_from_cases f k (suc i))
  where
    go : (b : Bool) → f i ≡ b → (o : Option ℕ)
        → MatchOption o ((j : ℕ) → suc i ≤ j → j < suc i + k → f j ≡ false)
        (λ x. (suc i ≤ x) × (x < suc i + k) × (f x ≡ true) × ((j : ℕ) → suc i ≤ j → j < x → f j ≡ false))
        → MatchOption (cond b (Some i) o) ((j : ℕ) → i ≤ j → j < i + suc k → f j ≡ false)
        (λ x. (i ≤ x) × (x < i + suc k) × (f x ≡ true) × ((j : ℕ) → i ≤ j → j < x → f j ≡ false))
    go true e o h = (omega arith, omega arith, e, λ j a b. absurd (omega arith))
    go false e None h = λ j a b. grind arith
    go false e (Some x) h = (omega (arith, h.0), omega (arith, h.1), h.2, λ j a b. grind arith)

-- where no number is left, nothing is found
pub find_from_none : (f : ℕ → Bool) (k i : ℕ) → k ≡ 0 → None ≡ find_from f k i
unfolding find_from
find_from_none f k i e = sym (ap (λ (m : ℕ). find_from f m i) e)

-- ---- a result that is told by cases

module _ (test : ℕ → Bool) where
  -- r is all_below, if it says where the test passes
  pub all_below_is : (n : ℕ) (r : Bool) → MatchBool r ((k : ℕ) → k < n → true ≡ test k) ((k : ℕ) × (k < n) × (false ≡ test k)) → r ≡ all_below n test
  all_below_is n r h = go r (all_below n test) h (all_below_cases n test)
    where
      go : (r b : Bool) → MatchBool r ((k : ℕ) → k < n → true ≡ test k) ((k : ℕ) × (k < n) × (false ≡ test k))
          → MatchBool b ((k : ℕ) → k < n → test k ≡ true) ((k : ℕ) × (k < n) × (test k ≡ false)) → r ≡ b
      go true true h e = refl
      go true false h e = h e.0 e.1 ∙ e.2
      go false true h e = h.2 ∙ e h.0 h.1
      go false false h e = refl

  -- .. and any_below
  pub any_below_is : (n : ℕ) (r : Bool) → MatchBool r ((k : ℕ) × (k < n) × (true ≡ test k)) ((k : ℕ) → k < n → false ≡ test k) → r ≡ any_below n test
  any_below_is n r h = go r (any_below n test) h (any_below_cases n test)
    where
      go : (r b : Bool) → MatchBool r ((k : ℕ) × (k < n) × (true ≡ test k)) ((k : ℕ) → k < n → false ≡ test k)
          → MatchBool b ((k : ℕ) × (k < n) × (test k ≡ true)) ((k : ℕ) → k < n → test k ≡ false) → r ≡ b
      go true true h e = refl
      go true false h e = h.2 ∙ e h.0 h.1
      go false true h e = h e.0 e.1 ∙ e.2
      go false false h e = refl

  -- .. and find_from
  pub find_from_is : (k i : ℕ) (r : Option ℕ)
      → MatchOption r ((j : ℕ) → i ≤ j → j < i + k → false ≡ test j)
      (λ x. (i ≤ x) × (x < i + k) × (true ≡ test x) × ((j : ℕ) → i ≤ j → j < x → false ≡ test j))
      → r ≡ find_from test k i
  find_from_is k i r h = go r (find_from test k i) h (find_from_cases test k i)
    where
      go : (r o : Option ℕ)
          → MatchOption r ((j : ℕ) → i ≤ j → j < i + k → false ≡ test j)
          (λ x. (i ≤ x) × (x < i + k) × (true ≡ test x) × ((j : ℕ) → i ≤ j → j < x → false ≡ test j))
          → MatchOption o ((j : ℕ) → i ≤ j → j < i + k → test j ≡ false)
          (λ x. (i ≤ x) × (x < i + k) × (test x ≡ true) × ((j : ℕ) → i ≤ j → j < x → test j ≡ false))
          → r ≡ o
      go None None h e = refl
      go None (Some y) h e = absurd (true≢false (sym (h y e.0 e.1 ∙ e.2)))
      go (Some x) None h e = absurd (true≢false (h.2 ∙ e x h.0 h.1))
      go (Some x) (Some y) h e = ap Some same
        where
          above : x < y → ⊥
          above l = true≢false (h.2 ∙ e.3 x h.0 l)

          under : y < x → ⊥
          under l = true≢false (sym (h.3 y e.0 l ∙ e.2))

          same : x ≡ y
          same = omega (arith, above, under)

-- ---- the calls over a range

-- what holds of each of the first m numbers of a range
each_in_range : (P : ℕ → Type 0) (i n m : ℕ) → m ≤ n → AllWithin P (range_with_len i n) 0 m → (k : ℕ) → i ≤ k → k < i + m → P k
each_in_range P i n m l h k a b =
    subst P {x = get_or (range_with_len i n) (k - i) 0} {y = k} (omega (arith, get_or-range_with_len i n (k - i) 0 (omega arith)))
    (h (k - i) 0 (omega arith) (omega arith))

-- what holds at a place of it
one_in_range : (P : ℕ → Type 0) (i n m : ℕ) → m < n → HoldsAt P (range_with_len i n) m → P (i + m)
one_in_range P i n m l h = subst P (get_or-range_with_len i n m 0 l) (h 0)

module _ {F : Type 0} {g : Mut F (ℕ × Unit {0}) Bool} {u : Range ℕ} {f : F} {r : Bool} {test : ℕ → Bool} where
  -- `(0..n).all(f)`, where each call of f answers test and leaves f as it was; m is how the promise writes n
  pub all_below_from_range : {n m : ℕ} → ChecksAll nat_range_steps g (record { start = 0; end = n }) f r u → n ≡ m
      → ((x : ℕ) (b : Bool) (q : F) → Called g f (x, tt) b q → (q ≡ f) × (b ≡ test x)) → r ≡ all_below m test
  all_below_from_range {n} {m} ran same told =
      all_below_is test n r
      (by r
      (cases_from_all u f r (λ y. true ≡ test y) (λ y. false ≡ test y) ran (YieldsList-from_range 0 n n refl (omega arith))
      (λ x q. told x true q) (λ x q c. (told x false q c).1)))
      ∙ ap (λ k. all_below k test) same
    where
      all : List ℕ
      all = range_with_len 0 n

      long : length all ≡ n
      long = length-range_with_len 0 n

      by : (b : Bool)
          → MatchBool b (AllWithin (λ y. true ≡ test y) all 0 (length all)) ((k : ℕ) × (k < length all) × HoldsAt (λ y. false ≡ test y) all k)
          → MatchBool b ((k : ℕ) → k < n → true ≡ test k) ((k : ℕ) × (k < n) × (false ≡ test k))
      by true h = λ k l.
          each_in_range (λ y. true ≡ test y) 0 n n (omega arith) (subst (λ m. AllWithin (λ y. true ≡ test y) all 0 m) long h) k (omega arith)
          (omega arith)
      by false h =
          let l : h.0 < n = omega (arith, h.1, long) in
          let e : false ≡ test (0 + h.0) = one_in_range (λ y. false ≡ test y) 0 n h.0 l h.2 in
          (h.0, l, subst (λ k. false ≡ test k) {x = 0 + h.0} {y = h.0} (omega arith) e)

  -- `(from..n).any(f)`, where each call of f answers test and leaves f as it was, and no number below from passes
  pub any_below_from : {from n m : ℕ} → ChecksAny nat_range_steps g (record { start = from; end = n }) f r u → n ≡ m
      → ((k : ℕ) → k < from → test k ≡ false)
      → ((x : ℕ) (b : Bool) (q : F) → Called g f (x, tt) b q → (q ≡ f) × (b ≡ test x)) → r ≡ any_below m test
  any_below_from {from} {n} {m} ran same none told =
      any_below_is test n r
      (by r
      (cases_from_any u f r (λ y. true ≡ test y) (λ y. false ≡ test y) ran (YieldsList-from_range from n (n - from) refl refl)
      (λ x q c. (told x true q c).1) (λ x q. told x false q)))
      ∙ ap (λ k. any_below k test) same
    where
      all : List ℕ
      all = range_with_len from (n - from)

      long : length all ≡ n - from
      long = length-range_with_len from (n - from)

      by : (b : Bool)
          → MatchBool b ((k : ℕ) × (k < length all) × HoldsAt (λ y. true ≡ test y) all k) (AllWithin (λ y. false ≡ test y) all 0 (length all))
          → MatchBool b ((k : ℕ) × (k < n) × (true ≡ test k)) ((k : ℕ) → k < n → false ≡ test k)
      by true h =
          let l : h.0 < n - from = omega (arith, h.1, long) in
          (from + h.0, omega arith, one_in_range (λ y. true ≡ test y) from (n - from) h.0 l h.2)
      by false h = λ k l. grind (arith, none, later k)
        where
          later : (k : ℕ) → from ≤ k → k < n → false ≡ test k
          later k a l =
              each_in_range (λ y. false ≡ test y) from (n - from) (n - from) (omega arith)
              (subst (λ m. AllWithin (λ y. false ≡ test y) all 0 m) long h) k a (omega arith)

  -- `(0..n).any(f)`
  pub any_below_from_range : {n m : ℕ} → ChecksAny nat_range_steps g (record { start = 0; end = n }) f r u → n ≡ m
      → ((x : ℕ) (b : Bool) (q : F) → Called g f (x, tt) b q → (q ≡ f) × (b ≡ test x)) → r ≡ any_below m test
  any_below_from_range ran same told = any_below_from ran same (λ k l. absurd (omega arith)) told

-- `(from..n).find(f)`, where each call of f answers test and leaves f as it was; k is how the promise writes the count of numbers
pub find_from_range : {F : Type 0} {g : Mut F (Bor ℕ × Unit {0}) Bool} (u : Range ℕ) {f : F} {r : Option ℕ} {test : ℕ → Bool} {from n k : ℕ}
    → FindsItem nat_range_steps g (record { start = from; end = n }) f r u → n - from ≡ k
    → ((x : ℕ) (b : Bool) (q : F) → CalledAt g f x b q → (q ≡ f) × (b ≡ test x)) → r ≡ find_from test k from
find_from_range {F} {g} u {f} {r} {test} {from} {n} {k} ran same told =
    find_from_is test (n - from) from r
    (by r
    (first_from_Range (record { start = from; end = n }) u f r (λ y. true ≡ test y) (λ y. false ≡ test y) ran
    (λ x q c. (told x true q c).1) (λ x q. told x false q)))
    ∙ ap (λ m. find_from test m from) same
  where
    by : (o : Option ℕ)
        → MatchOption o ((k : ℕ) → from ≤ k → k < n → false ≡ test k)
        (λ i. (from ≤ i) × (i < n) × (true ≡ test i) × ((k : ℕ) → from ≤ k → k < i → false ≡ test k))
        → MatchOption o ((k : ℕ) → from ≤ k → k < from + (n - from) → false ≡ test k)
        (λ i. (from ≤ i) × (i < from + (n - from)) × (true ≡ test i) × ((k : ℕ) → from ≤ k → k < i → false ≡ test k))
    by None h = λ k a l. h k a (omega arith)
    by (Some i) h = (h.0, omega (arith, h.0, h.1), h.2, h.3)
