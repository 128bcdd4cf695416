use Rattle.std.proofs.Common.{rules, true}
use mathlib.Core.Path.{◌≡◌, ◌∙◌}
use borrow.Author.Tests.{tests}
use Rattle.std.proofs.lemmas.Fn.{fold_over, fronts}
use Rattle.std.proofs.lemmas.Iterator.{YieldsList-from_slice}
use Rattle.numbers.proofs.NumbersLaws.{blank, blank_none, blank_more, blank_part}
use Rattle.numbers.proofs.numbers.is_zero.Goals as goal

pub returns : goal.returns
returns c =
    fold_over fronts (λ y. y.now) _ (λ ys a. a ≡ blank ys) _
    (λ ys a x b q j k. (blank_more ys x.now j (search (rules, tests)), search rules))
    c.iter.result _ true c.fold.result (YieldsList-from_slice _ c.iter.ensures.rest).runs blank_none c.fold.ensures.ran
    ∙ blank_part c.args.s.now c.args.at c.args.n c.requires
