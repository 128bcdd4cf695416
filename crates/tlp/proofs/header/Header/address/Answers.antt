use Rattle.rules.specs.Tlp.{address}
use Rattle.tlp.proofs.header.Header.address.Goals as goal

pub returns : goal.returns
unfolding address
returns c = rw (c.args.self.begins) (simp (c.be.ensures, c.address_bytes.ensures))
