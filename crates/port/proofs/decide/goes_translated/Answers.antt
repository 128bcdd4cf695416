use Rattle.port.proofs.DecideLaws.{translated_on, translated_off}
use Rattle.port.proofs.decide.goes_translated.Goals as goal

pub returns-then-on : goal.returns-then-on
returns-then-on c = translated_on c.args.visit.query.bytes.now c.args.visit.query.tlp _ (cc) (cc)

pub returns-else-on : goal.returns-else-on
returns-else-on c = translated_off c.args.visit.query.bytes.now c.args.visit.query.tlp _ (cc) (cc)
