use Rattle.std.proofs.Common.{◌≡◌, ◌∙◌, false, not, sym, rules, tests, arith, below_more, refl}
use Rattle.rules.specs.Snapshot.{count}
use Rattle.rules.specs.Records.{fine, faulty, lowest_faulty}
use Rattle.rules.proofs.Logic.{not_false}
use Rattle.rules.proofs.Loops.{find_all}
use Rattle.rules.proofs.Ranges.{find_from_range}
use Rattle.records.specs.Parts.{Earlier}
use Rattle.records.proofs.Turns.{callable_in_range}
use Rattle.records.proofs.faulty.lowest_faulty.Goals as goal

pub find-requires-clause-callable : goal.find-requires-clause-callable
find-requires-clause-callable c =
    callable_in_range _ _ (Earlier c.args.s.bytes.now)
    (λ x q l j k.
    let told : (q ≡ _) × (false ≡ not (fine c.args.s.bytes.now x)) = search (rules, tests) in
    (told.0, below_more _ _ j (not_false (sym told.1))))
    (λ x l j. search (rules, tests, arith))
    (λ j l. absurd (omega arith))

pub returns : goal.returns
unfolding lowest_faulty faulty
returns c =
    let found : c.find.result ≡ lowest_faulty c.args.s.bytes.now =
    find_from_range _ c.find.ensures.ran refl (search rules)
    ∙ find_all (faulty c.args.s.bytes.now) _ (count c.args.s.bytes.now) c.count.ensures in
    grind (arith, found)
