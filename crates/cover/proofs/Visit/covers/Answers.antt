use Rattle.cover.proofs.CoverLaws.{by_target}
use Rattle.cover.proofs.Visit.covers.Goals as goal

pub returns-in-Address : goal.returns-in-Address
returns-in-Address c = by_target _ _ _ c.in-Address.is c.covers_address.ensures

pub returns-in-Id : goal.returns-in-Id
returns-in-Id c = by_target _ _ _ c.in-Id.is c.covers_id.ensures
