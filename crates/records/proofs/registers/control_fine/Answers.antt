use Rattle.std.proofs.Common.{rules, refl}
use borrow.Author.Tests.{lt-ltb}
use Rattle.rules.proofs.Ranges.{all_below_from_range}
use Rattle.records.proofs.registers.control_fine.Goals as goal

pub returns-then-register-lt-CONTROL_END : goal.returns-then-register-lt-CONTROL_END
returns-then-register-lt-CONTROL_END c =
    rw (lt-ltb c.args.register.0 128 c.if-register-lt-CONTROL_END.true) (all_below_from_range c.all.ensures.ran refl (search rules))
