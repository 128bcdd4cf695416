use Rattle.std.proofs.Common.{arith, sym, ◌∙◌}
use Rattle.std.proofs.lemmas.Grind.{common_steps}
use Rattle.tlp.proofs.HeaderLaws.{read_empty, no_form, misfit}
use Rattle.tlp.proofs.header.Header.new.Goals as goal

pub returns-in_err-first : goal.returns-in_err-first
returns-in_err-first c = rw c.from_residual.ensures (grind (arith, common_steps, read_empty))

pub returns-in_err-form : goal.returns-in_err-form
returns-in_err-form c = rw c.from_residual-in_err-form.ensures (grind (arith, common_steps, no_form))

pub returns-else-bytes-header_length : goal.returns-else-bytes-header_length
returns-else-bytes-header_length c =
    misfit c.args.bytes.now c.in_ok-form.form (grind (arith, common_steps)) (λ e. omega (arith, e ∙ sym c.header_length.ensures))
