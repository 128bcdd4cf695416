-- The decimal digits of a number are those that the library prints.
use mathlib.Core.Path.{◌≡◌, sym}
use mathlib.Core.List.{List, [], ◌∷◌, ◌++◌}
use Prim.Native.Nat.{ℕ, zero, suc, ◌+◌, ◌/◌, ◌%◌, ◌^◌, ◌≤◌, ◌<◌}
use native.Mathlib.Omega.{arith}
use lib.ListN.{length, length-append}
use lib.Dec.{ltb}
use borrow.Author.Tests.{lt-ltb, le-ltb, ltb-false}
use Rattle.std.specs.Fmt as printed
use Rattle.std.proofs.lemmas.Fmt.{AppendsLastDigit, decimal_from_appends, length-decimal-le_succ, length-decimal-le}
use Rattle.rules.proofs.Logic.{either}
use Rattle.text.specs.Text.{digit, decimal, number}

-- enough fuel is enough
enough : (f g n : ℕ) → n < f → n < g → decimal f n ≡ decimal g n
unfolding decimal
enough zero g n l r = absurd (omega arith)
enough (suc f) zero n l r = absurd (omega arith)
enough (suc f) (suc g) n l r =
    either (ltb n 10)
    (λ p. rw (p))
    (λ q. let h : 10 ≤ n = ltb-false n 10 q in rw (q, enough f g (n / 10) (omega arith) (omega arith)))

pub number_digit : (n : ℕ) → n < 10 → number n ≡ digit n ∷ []
unfolding number decimal
number_digit n l = rw (lt-ltb n 10 l)

pub number_more : (n : ℕ) → 10 ≤ n → number n ≡ number (n / 10) ++ (digit (n % 10) ∷ [])
unfolding number decimal
number_more n l = rw (le-ltb n 10 l, enough n (suc (n / 10)) (n / 10) (omega arith) (omega arith))

appends : AppendsLastDigit decimal
unfolding decimal
appends = record { one = λ k n l. rw (lt-ltb n 10 l); more = λ k n l. rw (le-ltb n 10 l) }

pub number_printed : (n : ℕ) → n < 2 ^ 16 → printed.decimal n ≡ number n
unfolding number
number_printed n l =
    let m : n < 2 ^ 64 = omega arith in
    let k = length-decimal-le_succ n m in
    sym (decimal_from_appends decimal appends (suc n) n m (omega arith))

-- a number of 16 bits has at most five digits
pub number_short : (n : ℕ) → n < 2 ^ 16 → length (number n) ≤ 5
number_short n l = rw (← number_printed n l) (length-decimal-le 5 n (omega arith) (omega arith) (omega arith))

-- two words, a number after each
pub named_twice_short : (w x : List ℕ) (i j : ℕ) → length (number i) ≤ 5 → length (number j) ≤ 5
    → length (w ++ (number i ++ (x ++ number j))) ≤ length w + length x + 10
named_twice_short w x i j l r =
    rw (length-append w (number i ++ (x ++ number j)), length-append (number i) (x ++ number j), length-append x (number j)) (omega arith)
