-- `walk::way::Start::walk` meets its contract: from the top for the host, and up for an endpoint.
use Rattle.std.proofs.Common.{rules, ◌≡◌}
use Rattle.rules.specs.Snapshot.{parent}
use Rattle.walk.proofs.WayLaws.{walks_down, endpoint_here, under_port, under_low, walks_up}
use Rattle.walk.proofs.way.Start.walk.Goals as goal

pub returns-then-self-eq-COMPLEX : goal.returns-then-self-eq-COMPLEX
returns-then-self-eq-COMPLEX c = search walks_down

pub invariant_of-card : goal.invariant_of-card
invariant_of-card c = search endpoint_here

pub go_up-requires : goal.go_up-requires
go_up-requires c =
    let under : c.parent.result ≡ parent c.args.self.query.bytes.now c.args.self.origin = search rules in (search under_port, search under_low)

pub returns : goal.returns
returns c = let under : c.parent.result ≡ parent c.args.self.query.bytes.now c.args.self.origin = search rules in search walks_up
