use Rattle.std.proofs.Common.{◌∙◌, sym}
use Rattle.tlp.proofs.HeaderLaws.{read_good, read_bad}
use Rattle.tlp.proofs.header.Header.tlp.Goals as goal

pub returns-in_err-target : goal.returns-in_err-target
returns-in_err-target c =
    let h = c.args.self in
    c.from_residual.ensures ∙ sym (read_bad h.bytes.now h.form h.begins h.whole (sym c.target.ensures ∙ c.in_err-target.was))

pub returns : goal.returns
returns c =
    let h = c.args.self in
    read_good h.bytes.now h.form h.begins h.whole c.is_request-request.ensures c.is_read-read.ensures (sym c.target.ensures ∙ c.in_ok-target.was)
