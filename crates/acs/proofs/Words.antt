-- The calls' promises, from what the functions below say.
use mathlib.Core.Path.{◌≡◌, ◌∙◌, ap}
use mathlib.Core.List.{List}
use Prim.Native.Nat.{ℕ}
use lib.ListN.{length}
use Rattle.rules.specs.Refuse.{verdict, result, written}
use Rattle.rules.specs.Fill.{filling, record_after}
use Rattle.rules.specs.Word.{Check, Answer, Fill, result_fields, fill_fields, word_of, verdict_word, verdict_of, answer_fields, fill_of}
use Rattle.acs.specs.Promise.{answer_word, word_of_check, word_of_fill, Judged, Routed, Filled}

pub check_says : (s : List ℕ) (now : ℕ) (c : Check) {w : ℕ} → verdict_of c ≡ verdict s now → w ≡ word_of_check c → Judged s now w
check_says s now c is h = record { says = h ∙ ap verdict_word is }

pub route_says : (s : List ℕ) (now o : ℕ) (h b : List ℕ) (a : Answer) {w : ℕ} {b₁ : List ℕ}
    → answer_fields a ≡ result_fields (result s now o h (length b)) → b₁ ≡ written (result s now o h (length b)) b → w ≡ answer_word a
    → Routed s now o h b w b₁
route_says s now o h b a is left e = record { says = e ∙ ap word_of is; leaves = left }

pub fill_says : (image r : List ℕ) (f : Fill) {w : ℕ} {after : List ℕ} → fill_of f ≡ filling image r
    → after ≡ record_after (filling image r) image r → w ≡ word_of_fill f → Filled image r w after
fill_says image r f is left e = record { says = e ∙ ap (λ x. word_of (fill_fields x)) is; leaves = left }
