-- What the calls promise, for all inputs: no contract asks anything of its caller.
use Rattle.std.specs.Prelude.{◌≡◌, List, ℕ, length}
use Rattle.rules.specs.Refuse.{verdict, result, written}
use Rattle.rules.specs.Fill.{filling, record_after}
use Rattle.rules.specs.Word.{Check, Answer, Fill, result_fields, fill_fields, word_of, verdict_word, verdict_of, answer_fields, fill_of}

-- acs_check: the word is 0 for an accepted snapshot, else it has the refusal's number and index
pub record Judged (snapshot : List ℕ) (now word : ℕ) : Type 0 where
  pub says : word ≡ verdict_word (verdict snapshot now)

-- acs_route: the word has kind, refusal number or violation letter, node or index, hop count and abort of the answer, and the
-- buffer ends as the answer leaves it
pub record Routed (snapshot : List ℕ) (now origin : ℕ) (header before : List ℕ) (word : ℕ) (after : List ℕ) : Type 0 where
  pub says : word ≡ word_of (result_fields (result snapshot now origin header (length before)))
  pub leaves : after ≡ written (result snapshot now origin header (length before)) before

-- acs_fill: the word has the refusal's number and index, or offset and length of the ACS structure, and the record ends as the fill
-- leaves it
pub record Filled (image before : List ℕ) (word : ℕ) (after : List ℕ) : Type 0 where
  pub says : word ≡ word_of (fill_fields (filling image before))
  pub leaves : after ≡ record_after (filling image before) image before

-- the words of the answers that the code is given
abbrev pub answer_word : Answer → ℕ
answer_word a = word_of (answer_fields a)

abbrev pub word_of_check : Check → ℕ
word_of_check c = verdict_word (verdict_of c)

abbrev pub word_of_fill : Fill → ℕ
word_of_fill f = word_of (fill_fields (fill_of f))
