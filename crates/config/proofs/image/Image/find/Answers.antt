use Rattle.std.proofs.Common.{◌≡◌, arith, ◌∙◌}
use Rattle.std.proofs.lemmas.Grind.{common_steps}
use Rattle.rules.specs.Image.{enough_steps, bad}
use Rattle.config.proofs.ListLaws.{walk_begins, list_over, leaves_list, first_found, walks_on, goes_round}
use Rattle.config.proofs.image.Image.find.Goals as goal

pub loop-init : goal.loop-init
loop-init c = walk_begins _

pub header_at-requires : goal.header_at-requires
header_at-requires c = c.loop.invariant.inside

pub returns-in_err-header : goal.returns-in_err-header
returns-in_err-header c =
    let off = c.in_err-header.ensures.1 in
    let e : c.from_residual.result ≡ bad = grind (arith, common_steps, c.in_err-header.ensures) in
    e ∙ leaves_list c.loop.invariant {bound = enough_steps} (omega arith) (omega arith) off.0 off.1

pub returns-in_default : goal.returns-in_default
returns-in_default c = list_over c.loop.invariant {bound = enough_steps} (omega arith) (omega arith) (rw c.in_default.is at c.in_ok-header.ensures)

pub returns-then-is_acs : goal.returns-then-is_acs
returns-then-is_acs c =
    let there = rw c.in-Some.is at c.in_ok-header.ensures in
    first_found c.loop.invariant {bound = enough_steps} (omega arith) (omega arith) there c.is_acs.ensures c.if-is_acs.true c.structure.ensures

pub loop-preserved : goal.loop-preserved
loop-preserved c =
    let there = rw c.in-Some.is at c.in_ok-header.ensures in
    walks_on c.loop.invariant {bound = enough_steps} (omega arith) (omega arith) there c.is_acs.ensures c.if-is_acs.false
    c.next_offset-at.ensures.value c.next_offset-at.ensures.upper_bound

pub returns : goal.returns
returns c = goes_round c.loop.invariant enough_steps (omega arith) (omega arith)
