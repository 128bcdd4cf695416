-- The promises leave no choice: two answers that give the same numbers are the same answer.
use mathlib.Core.Path.{◌≡◌, refl, sym, ◌∙◌, ap}
use mathlib.Core.Bool.{true, false, cond}
use mathlib.Core.List.{List}
use Prim.Native.Nat.{ℕ, ◌≤◌}
use native.Mathlib.Omega.{arith}
use lib.Dec.{eqb}
use borrow.Author.Tests.{ne_eqb}
use Rattle.rules.specs.declared.Letter.{Letter}
use Rattle.rules.specs.declared.Letter.TheVariants.{Source, Translation, Egress, Validation}
use Rattle.rules.specs.declared.Outcome.{Outcome}
use Rattle.rules.specs.declared.Outcome.TheVariants.{Delivered, Host, Unclaimed, Undefined, Violated}
use Rattle.rules.specs.declared.Refusal.{Refusal}
use Rattle.rules.specs.declared.Refusal.TheVariants.{Malformed, Version, Time, Faulty, Origin, Header, Room, Length, Capabilities}
use Rattle.rules.specs.declared.Refused.{Refused}
use Rattle.rules.specs.declared.Extent.{Extent}
use Rattle.std.specs.Prelude.{Ok, Err}
use Rattle.rules.specs.Refuse.{Result, refused, answered, verdict}
use Rattle.rules.specs.Fill.{filling}
use Rattle.rules.specs.Word.{Check, Answer, Fill, Fields, number_of, end_fields, verdict_of, answer_fields, fill_of}

-- the refusal that has this number
abbrev pub refusal_of : ℕ → Refusal
refusal_of n =
    cond (eqb n 1) Malformed
    (cond (eqb n 2) Version
    (cond (eqb n 3) Time
    (cond (eqb n 4) Faulty
    (cond (eqb n 5) Origin
    (cond (eqb n 6) Header
    (cond (eqb n 7) Room
    (cond (eqb n 8) Length Capabilities)))))))

pub refusal_back : (why : Refusal) → refusal_of (number_of why) ≡ why
refusal_back Malformed = refl
refusal_back Version = refl
refusal_back Time = refl
refusal_back Faulty = refl
refusal_back Origin = refl
refusal_back Header = refl
refusal_back Room = refl
refusal_back Length = refl
refusal_back Capabilities = refl

-- a refusal by its number, and its index
abbrev pub refused_with : ℕ → ℕ → Refused
refused_with n i = record { why = refusal_of n; index = i }

pub refused_back : (x : Refused) → refused_with (number_of x.why) x.index ≡ x
refused_back x = ap (λ (w : Refusal). record { why = w; index = x.index }) (refusal_back x.why)

check_of : Result (Unit {0}) → Check
check_of (refused n i) = Err (refused_with n i)
check_of (answered ok) = Ok tt

check_back : (c : Check) → check_of (verdict_of c) ≡ c
unfolding check_of
check_back (Ok ok) = refl
check_back (Err x) = ap (λ (w : Refused). Err w) (refused_back x)

pub check_once : (s : List ℕ) (time : ℕ) (a b : Check) → verdict_of a ≡ verdict s time → verdict_of b ≡ verdict s time → a ≡ b
check_once s time a b p q = sym (check_back a) ∙ ap check_of (p ∙ sym q) ∙ check_back b

abbrev letter_of : ℕ → Letter
letter_of n = cond (eqb n 0) Source (cond (eqb n 1) Translation (cond (eqb n 5) Egress Validation))

abbrev pub end_of : Fields → Outcome
end_of x =
    cond (eqb x.kind 0) (Delivered x.node false)
    (cond (eqb x.kind 1) (Delivered x.node true)
    (cond (eqb x.kind 2) Host
    (cond (eqb x.kind 3) (Unclaimed x.node)
    (cond (eqb x.kind 4) (Undefined x.node) (Violated (letter_of x.detail) x.node (eqb x.abort 1))))))

pub end_back : (end : Outcome) (n : ℕ) → end_of (end_fields end n) ≡ end
end_back (Delivered i true) n = refl
end_back (Delivered i false) n = refl
end_back Host n = refl
end_back (Unclaimed i) n = refl
end_back (Undefined i) n = refl
end_back (Violated Source i true) n = refl
end_back (Violated Source i false) n = refl
end_back (Violated Translation i true) n = refl
end_back (Violated Translation i false) n = refl
end_back (Violated Egress i true) n = refl
end_back (Violated Egress i false) n = refl
end_back (Violated Validation i true) n = refl
end_back (Violated Validation i false) n = refl

pub end_count : (end : Outcome) (n : ℕ) → (end_fields end n).count ≡ n
end_count (Delivered i c) n = refl
end_count Host n = refl
end_count (Unclaimed i) n = refl
end_count (Undefined i) n = refl
end_count (Violated l i a) n = refl

-- no outcome has the kind of a refusal
pub end_kind : (end : Outcome) (n : ℕ) → (end_fields end n).kind ≤ 5
end_kind (Delivered i true) n = omega arith
end_kind (Delivered i false) n = omega arith
end_kind Host n = omega arith
end_kind (Unclaimed i) n = omega arith
end_kind (Undefined i) n = omega arith
end_kind (Violated l i a) n = omega arith

abbrev answer_of : Fields → Answer
answer_of x = cond (eqb x.kind 6) (Err (refused_with x.detail x.node)) (Ok (record { end = end_of x; count = x.count }))

answer_back : (a : Answer) → answer_of (answer_fields a) ≡ a
answer_back (Err x) = ap (λ (w : Refused). Err w) (refused_back x)
answer_back (Ok x) =
    let l = end_kind x.end x.count in
    rw (ne_eqb (end_fields x.end x.count).kind 6 (λ z. omega arith), end_back x.end x.count, end_count x.end x.count)

pub answer_once : (a b : Answer) (x : Fields) → answer_fields a ≡ x → answer_fields b ≡ x → a ≡ b
answer_once a b x p q = sym (answer_back a) ∙ ap answer_of (p ∙ sym q) ∙ answer_back b

abbrev fill_from : Result Extent → Fill
fill_from (refused n i) = Err (refused_with n i)
fill_from (answered x) = Ok x

fill_back : (f : Fill) → fill_from (fill_of f) ≡ f
fill_back (Err x) = ap (λ (w : Refused). Err w) (refused_back x)
fill_back (Ok x) = refl

pub fill_once : (image r : List ℕ) (a b : Fill) → fill_of a ≡ filling image r → fill_of b ≡ filling image r → a ≡ b
fill_once image r a b p q = sym (fill_back a) ∙ ap fill_from (p ∙ sym q) ∙ fill_back b
