use Rattle.std.proofs.Common.{rules}
use Rattle.config.proofs.RecordLaws.{range_put}
use Rattle.config.proofs.record.put_range.Goals as goal

pub returns : goal.returns
returns c = search (rules, range_put)
