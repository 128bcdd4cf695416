-- The text that `acsroute` prints for its input, byte by byte.
use Rattle.std.specs.Prelude.{Bool, true, false, cond, List, [], ◌∷◌, ◌++◌, ℕ, zero, suc, ◌+◌, ◌*◌, ◌/◌, ◌%◌, ltb}
use Prim.Native.Char.{code}
use Rattle.rules.specs.declared.Letter.{Letter}
use Rattle.rules.specs.declared.Letter.TheVariants.{Source, Translation, Egress, Validation}
use Rattle.rules.specs.declared.Outcome.{Outcome}
use Rattle.rules.specs.declared.Outcome.TheVariants.{Delivered, Host, Unclaimed, Undefined, Violated}
use Rattle.rules.specs.Snapshot.{version, count, complex}
use Rattle.rules.specs.Route.{Hop, Trip, hop}
use Rattle.rules.specs.Refuse.{Result, refused, answered}
use Rattle.text.specs.Ascii.{ascii}

abbrev pub digit : ℕ → ℕ
digit d = code "0" + d

-- decimal, with no leading zeros; n + 1 digits are enough for n
unfoldable pub decimal : ℕ → ℕ → List ℕ
decimal zero n = []
decimal (suc fuel) n = cond (ltb n 10) (digit n ∷ []) (decimal fuel (n / 10) ++ (digit (n % 10) ∷ []))

unfoldable pub number : ℕ → List ℕ
number n = decimal (suc n) n

-- a violation's letter
abbrev pub letter_of : Letter → ℕ
letter_of Source = code "V"
letter_of Translation = code "B"
letter_of Egress = code "E"
letter_of Validation = code "X"

abbrev pub checked_text : Bool → List ℕ
checked_text true = ascii " checked"
checked_text false = ascii " unvalidated"

abbrev pub abort_text : Bool → List ℕ
abort_text true = ascii " abort"
abort_text false = ascii " drop"

-- outcome, node where it ended (65535 for host or complex), for a delivery checked or unvalidated, for a violation its letter and
-- `abort` or `drop`
unfoldable pub end_text : Outcome → List ℕ
end_text (Delivered i checked) = ascii "delivered " ++ (number i ++ checked_text checked)
end_text Host = ascii "host " ++ number complex
end_text (Unclaimed i) = ascii "unclaimed " ++ number i
end_text (Undefined i) = ascii "undefined " ++ number i
end_text (Violated letter i aborts) =
    ascii "violation " ++ (number i ++ (ascii " " ++ ((letter_of letter ∷ []) ++ abort_text aborts)))

-- a hop as index:action
unfoldable pub hop_text : Hop → List ℕ
hop_text h = ascii " " ++ (number h.index ++ (ascii ":" ++ number h.action))

unfoldable pub hops_text : List Hop → List ℕ
hops_text [] = []
hops_text (h ∷ l) = hop_text h ++ hops_text l

-- the hops of a hop buffer, four bytes each: the index in two, the action, and one that is not told
unfoldable pub hops_in : List ℕ → List ℕ
hops_in (low ∷ high ∷ action ∷ last ∷ l) = hop_text (hop (low + 256 * high) action) ++ hops_in l
hops_in l = []

-- mark, version, record count
unfoldable pub head_text : List ℕ → List ℕ
head_text s = ascii "ACS " ++ (number (version s) ++ (ascii " records " ++ number (count s)))

-- a refusal's number and index
unfoldable pub refusal_text : ℕ → ℕ → List ℕ
refusal_text why i = ascii "refusal " ++ (number why ++ (ascii " " ++ number i))

abbrev pub newline : List ℕ
newline = ascii "\n"

-- one line for a refusal, two for an answer of snapshot s
unfoldable pub answer_text : List ℕ → Result Trip → List ℕ
answer_text s (refused why i) = refusal_text why i
answer_text s (answered r) = head_text s ++ (newline ++ (end_text r.end ++ hops_text r.hops))
