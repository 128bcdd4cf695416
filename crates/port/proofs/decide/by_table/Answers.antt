use Rattle.port.proofs.DecideLaws.{table_read}
use Rattle.port.proofs.decide.by_table.Goals as goal

pub returns : goal.returns
returns c = table_read c.args.visit.query.bytes.now c.args.visit.query.tlp c.args.visit.node c.args.q c.peer_request.ensures (cc) (cc) (cc)
