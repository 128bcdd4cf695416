use Rattle.port.proofs.DecideLaws.{direct_barred, direct_of_root, direct_below}
use Rattle.port.proofs.decide.direct.Goals.{else-is-via-then-is+else-not-roots_reach, else-is-via-else-is}
use Rattle.port.proofs.decide.direct.Goals as goal

pub returns-then-not-roots_reach : goal.returns-then-not-roots_reach
returns-then-not-roots_reach c = direct_barred _ c.args.visit.query.tlp _ _ (cc) (cc) (cc)

pub returns-else-is : goal.returns-else-is
returns-else-is c =
    elim c.else-is.branch [
      | else-is-via-then-is+else-not-roots_reach w ↦ direct_of_root _ c.args.visit.query.tlp _ _ (cc) (cc) (cc)
      | else-is-via-else-is w ↦ direct_below _ c.args.visit.query.tlp _ _ (cc) (cc)
    ]
