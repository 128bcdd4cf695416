-- The refusals 1 to 4 in their order, and what an answer of the check gives its callers.
use mathlib.Core.Path.{◌≡◌, refl, sym, ◌∙◌, ap}
use mathlib.Core.Bool.{Bool, true, false}
use mathlib.Core.List.{List, [], ◌∷◌}
use Prim.Native.Nat.{ℕ, ◌≤◌}
use native.Mathlib.Omega.{arith}
use lib.ListN.{length}
use Rattle.rules.specs.declared.Refused.{Refused}
use Rattle.rules.specs.declared.Refusal.{Refusal}
use Rattle.rules.specs.declared.Refusal.TheVariants.{Malformed, Version, Time, Faulty}
use Rattle.rules.specs.Snapshot.{base, count}
use Rattle.rules.specs.Records.{lowest_faulty}
use Rattle.rules.specs.Refuse.{Gate, unless, unless_found, Result, refused, answered, through, begun, known_version, well_made, in_time, read_gates, verdict}
use Rattle.rules.specs.Word.{Check, number_of, refused_for, verdict_of}
use Rattle.rules.specs.Accepted.{Accepted}
use Rattle.rules.proofs.Gates.{through_open, through_refused}
use Rattle.rules.proofs.Accepted.{well_made_lem, accepted}
use Rattle.snapshot.specs.Parts.{after, header_verdict}
use Rattle.std.specs.Option.{ok_or}
use Rattle.std.specs.Prelude as std
use Rattle.std.specs.Prelude.{Option, Some, None, Ok, Err, IfErr, IsErrAnd}

-- a header's refusal is that of the first test that fails, and a header that passes passes them all
header_shut : (v m t : Bool) {why : Refusal} (l : List Gate) → Err why ≡ after v Version (after m Malformed (after t Time (Ok tt)))
    → ◌≡◌ {A = Result (Unit {0})} (through (unless v 2 ∷ unless m 1 ∷ unless t 3 ∷ l) (answered tt)) (refused (number_of why) 0)
unfolding through
header_shut true true true l e = absurd (cc)
header_shut true true false l e = let same : Time ≡ _ = cc in ap (λ (why : Refusal). refused (number_of why) 0) same
header_shut true false t l e = let same : Malformed ≡ _ = cc in ap (λ (why : Refusal). refused (number_of why) 0) same
header_shut false m t l e = let same : Version ≡ _ = cc in ap (λ (why : Refusal). refused (number_of why) 0) same

header_open : (v m t : Bool) {x : Unit {0}} → Ok x ≡ after v Version (after m Malformed (after t Time (Ok tt)))
    → (v ≡ true) × (m ≡ true) × (t ≡ true)
header_open true true true e = (refl, refl, refl)
header_open true true false e = absurd (cc)
header_open true false t e = absurd (cc)
header_open false m t e = absurd (cc)

-- The whole check of the bytes b, by where it ends: what begins is read as the snapshot s.
pub ends_short : (b : List ℕ) (time : ℕ) → false ≡ begun b → verdict b time ≡ refused 1 0
unfolding verdict through
ends_short b time e = rw (← e)

module _ {s b : List ℕ} (same : s ≡ b) (time : ℕ) (begins : true ≡ begun b) where
  pub ends_in_header : {why : Refusal} → Err why ≡ header_verdict s time → verdict b time ≡ refused (number_of why) 0
  unfolding verdict through header_verdict
  ends_in_header e =
      rw (← begins, ← same)
      (header_shut (known_version s) (well_made s) (in_time s time) (unless_found (lowest_faulty s) 4 ∷ []) e)

  module _ {x : Unit {0}} (header : Ok x ≡ header_verdict s time) where
    pub ends_at_record : {i : ℕ} → lowest_faulty s ≡ Some i → verdict b time ≡ refused 4 i
    unfolding verdict through header_verdict
    ends_at_record f =
        let (v, m, t) = header_open (known_version s) (well_made s) (in_time s time) header in
        rw (← begins, ← same, v, m, t, f)

    pub ends_accepted : lowest_faulty s ≡ None → verdict b time ≡ answered tt
    unfolding verdict through header_verdict
    ends_accepted f =
        let (v, m, t) = header_open (known_version s) (well_made s) (in_time s time) header in
        rw (← begins, ← same, v, m, t, f)

-- a header that passes counts records that are there
pub records_there : (s : List ℕ) (time : ℕ) {x : Unit {0}} → Ok x ≡ header_verdict s time → base (count s) ≤ length s
unfolding header_verdict
records_there s time header =
    let (v, m, t) = header_open (known_version s) (well_made s) (in_time s time) header in
    let (few, size) = well_made_lem s m in
    omega arith

-- a value that is missing is refused as Malformed
pub missing : {A : Type 0} {o : Option A} {x : Refusal} → Err x ≡ ok_or o Malformed → o ≡ None → x ≡ Malformed
missing e none = let same = rw none at e in cc

-- a test's refusal has no index, and a record's has its own
pub refuses_as : {A : Type 0} (r : std.Result A Refused) (why : Refusal) {v : Result (Unit {0})} → IsErrAnd r (λ e. e ≡ refused_for why)
    → v ≡ refused (number_of why) 0 → IfErr r (λ e. v ≡ refused (number_of e.why) e.index)
refuses_as (Ok x) why h q = tt
refuses_as (Err e) why h q = rw h q

pub refuses_record : {A : Type 0} (r : std.Result A Refused) {v : Result (Unit {0})} {e : Refused} → IsErrAnd r (λ x. x ≡ e) → e.why ≡ Faulty
    → v ≡ refused 4 e.index → IfErr r (λ x. v ≡ refused (number_of x.why) x.index)
refuses_record (Ok x) h same q = tt
refuses_record (Err x) h same q = rw (h, same) q

-- What callers learn of a snapshot: where the verdict accepts it, its gates let every answer through,
pub accepted_opens : {A : Type 0} (s : List ℕ) (time : ℕ) → verdict s time ≡ answered tt → (x : Result A) → through (read_gates s time) x ≡ x
unfolding verdict
accepted_opens s time e x = through_open (read_gates s time) x e

-- and where it refuses it, they refuse every answer with its number and index.
pub refused_refuses : {A : Type 0} (s : List ℕ) (time : ℕ) {n i : ℕ} → verdict s time ≡ refused n i → (x : Result A)
    → through (read_gates s time) x ≡ refused n i
unfolding verdict
refused_refuses s time {n} {i} e x = through_refused (read_gates s time) n i x e

-- The same of what `check` ensures and the case of its answer: an accepted snapshot is all that acceptance gives,
pub check_accepts : {s : List ℕ} (time : ℕ) {r : Check} → verdict_of r ≡ verdict s time → r ≡ Ok tt → Accepted s
check_accepts {s} time e is = accepted s time (sym e ∙ ap verdict_of is)

-- its gates let every answer through,
pub check_opens : {A : Type 0} (s : List ℕ) (time : ℕ) {r : Check} → verdict_of r ≡ verdict s time → r ≡ Ok tt
    → (x : Result A) → through (read_gates s time) x ≡ x
check_opens s time e is x = accepted_opens s time (sym e ∙ ap verdict_of is) x

-- and those of a refused one refuse every answer with its number and index.
pub check_refuses : {A : Type 0} (s : List ℕ) (time : ℕ) {r : Check} {why : Refused} → verdict_of r ≡ verdict s time
    → r ≡ Err why → (x : Result A) → through (read_gates s time) x ≡ refused (number_of why.why) why.index
check_refuses s time e is x = refused_refuses s time (sym e ∙ ap verdict_of is) x
