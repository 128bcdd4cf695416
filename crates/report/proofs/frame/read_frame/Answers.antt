-- Whole exactly where the lengths add up.
use Rattle.std.proofs.Common.{◌∙◌, ◌≡◌, ◌+◌, rules}
use borrow.Author.Tests.{true-ltb, false-ltb}
use Rattle.rules.specs.Bytes.{byte}
use Rattle.report.proofs.Frames.{framed_short, framed_cut, framed_whole}
use Rattle.report.proofs.frame.read_frame.Goals as goal

pub returns-then-input-lt13 : goal.returns-then-input-lt13
returns-then-input-lt13 c = framed_short _ c.if-input-lt13.true

pub returns-in_err-header : goal.returns-in_err-header
returns-in_err-header c =
    c.from_residual.ensures ∙ framed_cut _ _ c.le-snapshot.ensures (false-ltb _ _ c.in_err-header.ensures.lookup.0)

pub returns : goal.returns
returns c =
    let there = c.in_ok-header.ensures.lookup in
    let is : c.in_ok-header.field-0.now ≡ byte c.args.input.now (c.le-snapshot.result + 12) = search rules in
    c.then_some.ensures ∙ rw is (framed_whole _ _ c.le-snapshot.ensures (true-ltb _ _ there.0))
