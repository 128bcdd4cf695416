-- The answer as numbers: the eight bytes of the answer word, and the value of each for every case. Refusal numbers, indexes, nodes and
-- hop counts are the documents'; kinds and letters have the numbers of the C interface.
use Rattle.std.specs.Prelude.{cond, ℕ, ◌+◌, ◌*◌, ◌^◌, length}
use Rattle.rules.specs.Snapshot.{complex}
use Rattle.rules.specs.declared.Letter.{Letter}
use Rattle.rules.specs.declared.Letter.TheVariants.{Source, Translation, Egress, Validation}
use Rattle.rules.specs.declared.Outcome.{Outcome}
use Rattle.rules.specs.declared.Outcome.TheVariants.{Delivered, Host, Unclaimed, Undefined, Violated}
use Rattle.rules.specs.declared.Refusal.{Refusal}
use Rattle.rules.specs.declared.Refusal.TheVariants.{Malformed, Version, Time, Faulty, Origin, Header, Room, Length, Capabilities}
use Rattle.rules.specs.declared.Refused.{Refused}
use Rattle.rules.specs.declared.Ended.{Ended}
use Rattle.rules.specs.declared.Extent.{Extent}
use Rattle.std.specs.Prelude.{Ok, Err}
use Rattle.std.specs.Prelude as std
use Rattle.rules.specs.Route.{Trip}
use Rattle.rules.specs.Refuse.{Result, refused, answered}

pub record Fields : Type 0 where
  -- 0 delivered unvalidated, 1 delivered checked, 2 host, 3 unclaimed, 4 undefined, 5 violation, 6 refused; of a fill 0
  pub kind : ℕ
  -- the refusal number, or the violation letter (V 0, B 1, E 5, X 7), else 0
  pub detail : ℕ
  -- FFFFh for host or complex; of a refusal its index; of a fill the offset of the ACS structure
  pub node : ℕ
  -- hop count; of a refusal 0; of a fill the length of the ACS structure
  pub count : ℕ
  -- 1 for completer abort, else 0
  pub abort : ℕ

abbrev pub fields : ℕ → ℕ → ℕ → ℕ → ℕ → Fields
fields kind detail node count abort = record { kind = kind; detail = detail; node = node; count = count; abort = abort }

-- the refusal numbers
abbrev pub number_of : Refusal → ℕ
number_of Malformed = 1
number_of Version = 2
number_of Time = 3
number_of Faulty = 4
number_of Origin = 5
number_of Header = 6
number_of Room = 7
number_of Length = 8
number_of Capabilities = 9

abbrev pub letter_number : Letter → ℕ
letter_number Source = 0
letter_number Translation = 1
letter_number Egress = 5
letter_number Validation = 7

abbrev pub end_fields : Outcome → ℕ → Fields
end_fields (Delivered i checked) count = fields (cond checked 1 0) 0 i count 0
end_fields Host count = fields 2 0 complex count 0
end_fields (Unclaimed i) count = fields 3 0 i count 0
end_fields (Undefined i) count = fields 4 0 i count 0
end_fields (Violated letter i abort) count = fields 5 (letter_number letter) i count (cond abort 1 0)

abbrev pub refusal_fields : ℕ → ℕ → Fields
refusal_fields number i = fields 6 number i 0 0

abbrev pub result_fields : Result Trip → Fields
result_fields (refused number i) = refusal_fields number i
result_fields (answered r) = end_fields r.end (length r.hops)

-- from the low byte up: kind, detail, node (2), hop count (2), abort, 0
abbrev pub word_of : Fields → ℕ
word_of x = x.kind + 2 ^ 8 * x.detail + 2 ^ 16 * x.node + 2 ^ 32 * x.count + 2 ^ 48 * x.abort

-- of a check: 0 for an accepted snapshot, else the refusal
abbrev pub verdict_word : Result (Unit {0}) → ℕ
verdict_word (refused number i) = word_of (refusal_fields number i)
verdict_word (answered ok) = 0

-- of a fill: byte 0 is 0; bytes 2-3 the offset of the ACS structure in the image, bytes 4-5 its length; else the refusal
abbrev pub fill_fields : Result Extent → Fields
fill_fields (refused number i) = refusal_fields number i
fill_fields (answered x) = fields 0 0 x.offset x.length 0

-- a refusal without an index has index 0
abbrev pub refused_for : Refusal → Refused
refused_for why = record { why = why; index = 0 }

-- what the code answers: a check, a query and a fill
abbrev pub Check : Type 0
Check = std.Result (Unit {0}) Refused

abbrev pub Answer : Type 0
Answer = std.Result Ended Refused

abbrev pub Fill : Type 0
Fill = std.Result Extent Refused

-- the numbers for each case of it
abbrev pub verdict_of : Check → Result (Unit {0})
verdict_of (Ok ok) = answered tt
verdict_of (Err x) = refused (number_of x.why) x.index

abbrev pub answer_fields : Answer → Fields
answer_fields (Ok x) = end_fields x.end x.count
answer_fields (Err x) = refusal_fields (number_of x.why) x.index

abbrev pub fill_of : Fill → Result Extent
fill_of (Ok x) = answered x
fill_of (Err x) = refused (number_of x.why) x.index
