use Rattle.std.proofs.Common.{◌≡◌}
use borrow.Author.Tests.{eqb-true}
use Rattle.cover.proofs.CoverLaws.{endpoint_yes, endpoint_no, at_bridge}
use Rattle.cover.proofs.Visit.covers_id.Goals as goal

pub returns-then-eq : goal.returns-then-eq
returns-then-eq c =
    let e : c.own_bus.result.0 ≡ c.args.bus.0 = eqb-true _ _ (cc) in
    endpoint_yes c.args.self.query.bytes.now c.args.bus c.args.devfn c.args.self.node (cc) (cc) (cc)

pub returns-else-eq : goal.returns-else-eq
returns-else-eq c =
    endpoint_no c.args.self.query.bytes.now c.args.bus c.args.devfn c.args.self.node (cc) (cc) (cc)

pub returns-else-is : goal.returns-else-is
returns-else-is c =
    at_bridge c.args.self.query.bytes.now c.args.bus c.args.devfn c.args.self.node (cc) (cc)
