use Rattle.port.proofs.DecideLaws.{handling_translated, handling_by_table, handling_back, handling_straight}
use Rattle.port.proofs.decide.peer_handling.Goals as goal

pub returns-then-goes_translated : goal.returns-then-goes_translated
returns-then-goes_translated c = handling_translated _ _ _ _ (cc) (cc) (cc)

pub returns-else-goes_translated : goal.returns-else-goes_translated
returns-else-goes_translated c = handling_by_table _ _ _ _ (cc) (cc) (cc)

pub returns-then-turns_back : goal.returns-then-turns_back
returns-then-turns_back c = handling_back _ _ _ _ (cc) (cc) (cc)

pub returns-else-turns_back : goal.returns-else-turns_back
returns-else-turns_back c = handling_straight _ _ _ _ (cc) (cc) (cc)
