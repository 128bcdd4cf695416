use Rattle.std.proofs.Common.{◌∙◌, Ok, sym, refl}
use Rattle.snapshot.proofs.CheckLaws.{ends_short, ends_in_header, ends_at_record, ends_accepted, records_there, missing, refuses_as, refuses_record}
use Rattle.snapshot.proofs.CheckLaws.{check_accepts}
use Rattle.snapshot.proofs.check.accept.Goals as goal

pub returns-in_err-snapshot-clause-refused : goal.returns-in_err-snapshot-clause-refused
returns-in_err-snapshot-clause-refused c =
    let why = missing c.in_err-snapshot.ensures.value c.in_err-snapshot.ensures.ok_part in
    let begins = c.in_err-snapshot.ensures.variant ∙ c.begun.ensures.begun in
    refuses_as _ _ c.from_residual.ensures.1 (rw why (ends_short c.args.bytes.now c.args.time begins))

pub returns-in_err-check_header-clause-refused : goal.returns-in_err-check_header-clause-refused
returns-in_err-check_header-clause-refused c =
    let same = rw c.in_ok-snapshot.ensures.ok_part at c.begun.ensures.bytes in
    let begins = c.in_ok-snapshot.ensures.variant ∙ c.begun.ensures.begun in
    refuses_as _ _ c.from_residual-in_err-check_header.ensures.1 (ends_in_header same c.args.time begins c.in_err-check_header.ensures)

pub require_faultless-requires : goal.require_faultless-requires
require_faultless-requires c = records_there c.in_ok-snapshot.snapshot.bytes.now c.args.time c.in_ok-check_header.ensures

pub returns-in_err-require_faultless-clause-refused : goal.returns-in_err-require_faultless-clause-refused
returns-in_err-require_faultless-clause-refused c =
    let same = rw c.in_ok-snapshot.ensures.ok_part at c.begun.ensures.bytes in
    let begins = c.in_ok-snapshot.ensures.variant ∙ c.begun.ensures.begun in
    let (why, found) = c.in_err-require_faultless.ensures.refuses in
    refuses_record _ c.from_residual-in_err-require_faultless.ensures.1 why
    (ends_at_record same c.args.time begins c.in_ok-check_header.ensures found)

pub invariant_of-result : goal.invariant_of-result
invariant_of-result c =
    let same = rw c.in_ok-snapshot.ensures.ok_part at c.begun.ensures.bytes in
    let begins = c.in_ok-snapshot.ensures.variant ∙ c.begun.ensures.begun in
    let faultless = c.in_ok-require_faultless.ensures.passes in
    let verdict = ends_accepted same c.args.time begins c.in_ok-check_header.ensures faultless in
    record { accepted = check_accepts c.args.time {r = Ok tt} (sym verdict) refl }

pub returns-clause-accepted : goal.returns-clause-accepted
returns-clause-accepted c =
    let same = rw c.in_ok-snapshot.ensures.ok_part at c.begun.ensures.bytes in
    let begins = c.in_ok-snapshot.ensures.variant ∙ c.begun.ensures.begun in
    ends_accepted same c.args.time begins c.in_ok-check_header.ensures c.in_ok-require_faultless.ensures.passes
