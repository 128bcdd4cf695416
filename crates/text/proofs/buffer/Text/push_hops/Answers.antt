use Rattle.std.proofs.Common.{arith, sym, ◌∙◌}
use Rattle.text.proofs.Hopping.{hop_put, hops_put, hops_short}
use Rattle.text.proofs.buffer.Text.push_hops.Goals as goal

pub loop-hop-preserved : goal.loop-hop-preserved
loop-hop-preserved c =
    let step = c.in-Some.ensures.steps in
    let size = c.loop-hop.invariant.0 in
    (step.0 ∙ size, hop_put _ _ _ _ step.1.0 (step.1.1 ∙ size) c.le.ensures c.push_hop.ensures.line ∙ c.loop-hop.invariant.1)

pub returns-clause-line : goal.returns-clause-line
returns-clause-line c =
    let short = c.in-None.ensures.steps.1.0 in
    sym (hops_put _ _ (omega (arith, c.loop-hop.invariant.0))) ∙ c.loop-hop.invariant.1

pub returns-clause-short : goal.returns-clause-short
returns-clause-short c = hops_short _ (λ i. let fits = c.type_inv.hops i in omega arith)
