-- The answer of a whole input, or `input`.
use Rattle.std.proofs.Common.{arith}
use Rattle.report.specs.Printed.{said}
use Rattle.report.proofs.Frames.{framed_is_whole, framed_length, framed_snapshot, framed_broken}
use Rattle.report.proofs.say.Goals as goal

pub tell-requires : goal.tell-requires
tell-requires c =
    (framed_length _ _ c.read_frame.ensures c.in-Some.is, framed_snapshot _ _ c.read_frame.ensures c.in-Some.is)

pub returns-in-Some-clause-line : goal.returns-in-Some-clause-line
unfolding said
returns-in-Some-clause-line c = rw (framed_is_whole _ _ c.read_frame.ensures c.in-Some.is) c.tell.ensures.line

pub returns-in-Some-clause-short : goal.returns-in-Some-clause-short
unfolding said
returns-in-Some-clause-short c = rw (framed_is_whole _ _ c.read_frame.ensures c.in-Some.is) c.tell.ensures.short

pub returns-in-None-clause-line : goal.returns-in-None-clause-line
unfolding said
returns-in-None-clause-line c = rw (framed_broken _ c.read_frame.ensures c.in-None.is) c.push_str.ensures

pub returns-in-None-clause-short : goal.returns-in-None-clause-short
unfolding said
returns-in-None-clause-short c = rw (framed_broken _ c.read_frame.ensures c.in-None.is) (omega arith)
