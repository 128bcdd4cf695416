use Rattle.std.proofs.Common.{ℕ, rules}
use Rattle.std.proofs.lemmas.Fn.{fold_over, fronts, slice_gives}
use Rattle.tlp.proofs.BytesLaws.{Sum, sum_none, sum_more, sum_all}
use Rattle.tlp.proofs.header.be.Goals as goal

pub returns : goal.returns
returns c =
    let sum : Sum c.iter.result.rest.now c.fold.result =
    fold_over (fronts {A = ℕ}) (λ y. y.now) _ Sum _
    (λ ys a x b f' j k. (sum_more ys a x.now b j (search rules) (search rules), search rules))
    c.iter.result _ _ _ (slice_gives c.iter.result) sum_none c.fold.ensures.ran
    in sum_all c.args.s.now c.args.at c.args.n c.requires.0 c.requires.1 (rw (c.iter.ensures.rest) at sum)
