use mathlib.Core.Path.{ap₂}
use Rattle.std.proofs.Common.{◌≡◌, ◌∙◌, sym, Ok, Err, Option, Some, None, length, arith}
use Rattle.std.proofs.lemmas.Grind.{common_steps}
use Rattle.rules.specs.declared.Refusal.TheVariants.{Length, Capabilities}
use Rattle.rules.specs.Image.{extent}
use Rattle.rules.specs.Fill.{record_size, extent_of}
use Rattle.rules.specs.Word.{refused_for}
use Rattle.std.specs.Option.{UnwrapsOrElse}
use Rattle.rules.specs.declared.Extent.{Extent}
use Rattle.config.proofs.StructureLaws.{ends_inside, refused_for_list}
use Rattle.config.proofs.FillLaws.{Done, wrong_size, wrong_record, right_sizes, refuses, fills}
use Rattle.config.proofs.fill.fill.Goals as goal

unwraps : (found : Option Extent) (x : Extent) → UnwrapsOrElse found (λ d. (d.offset ≡ 0) × (d.length ≡ 0)) x → x ≡ extent_of (Ok found)
unwraps None x h = ap₂ extent h.0 h.1
unwraps (Some y) x h = h

not_whole : (c : goal.After-into) → Done c.args.image.now c.args.into.now (Err c.into.result) c.args.into.now
not_whole c = wrong_size _ _ (sym c.whole_sizes.ensures ∙ c.if-not-whole_sizes.true) (rw c.into.ensures)

pub returns-then-not-whole_sizes-clause-result_value : goal.returns-then-not-whole_sizes-clause-result_value
returns-then-not-whole_sizes-clause-result_value c = (not_whole c).says

pub returns-then-not-whole_sizes-clause-into_after : goal.returns-then-not-whole_sizes-clause-into_after
returns-then-not-whole_sizes-clause-into_after c = (not_whole c).leaves

pub invariant_of-image : goal.invariant_of-image
invariant_of-image c = record { whole = (right_sizes _ _ c.whole_sizes.ensures c.if-not-whole_sizes.false).0 }

in_record : (c : goal.After-from_residual) → Done c.args.image.now c.args.into.now c.from_residual.result c.args.into.now
in_record c =
    let e : c.from_residual.result ≡ Err (refused_for Length) = grind (arith, common_steps) in
    let n : length c.args.into.now ≡ record_size → ⊥ = grind (arith, common_steps) in
    wrong_record _ _ n e

pub returns-in_err-record-clause-result_value : goal.returns-in_err-record-clause-result_value
returns-in_err-record-clause-result_value c = (in_record c).says

pub returns-in_err-record-clause-into_after : goal.returns-in_err-record-clause-into_after
returns-in_err-record-clause-into_after c = (in_record c).leaves

in_find : (c : goal.After-from_residual-in_err-find) → Done c.args.image.now c.args.into.now c.from_residual-in_err-find.result c.in_ok-record.record.now
in_find c =
    let kept : c.in_ok-record.record.now ≡ c.args.into.now = grind (arith, common_steps) in
    let why = refused_for_list c.args.image.now c.in_err-find.ensures in
    let e : c.from_residual-in_err-find.result ≡ Err (refused_for Capabilities) = grind (arith, common_steps) in
    let sizes = right_sizes _ _ c.whole_sizes.ensures c.if-not-whole_sizes.false in
    rw kept (refuses _ _ sizes.0 sizes.1 (rw why at c.in_err-find.ensures) e)

pub returns-in_err-find-clause-result_value : goal.returns-in_err-find-clause-result_value
returns-in_err-find-clause-result_value c = (in_find c).says

pub returns-in_err-find-clause-into_after : goal.returns-in_err-find-clause-into_after
returns-in_err-find-clause-into_after c = (in_find c).leaves

pub part-requires : goal.part-requires
part-requires c =
    let e = unwraps c.in_ok-find.field-0 c.unwrap_or_default-acs.result c.unwrap_or_default-acs.ensures in
    rw e (omega (arith, ends_inside c.args.image.now c.in_ok-find.ensures))

pub returns : goal.returns
returns c =
    let kept : c.in_ok-record.record.now ≡ c.args.into.now = grind (arith, common_steps) in
    let e = unwraps c.in_ok-find.field-0 c.unwrap_or_default-acs.result c.unwrap_or_default-acs.ensures in
    let part = rw e at c.part.ensures in
    let after = rw kept at c.put_fields.ensures in
    let sizes = right_sizes _ _ c.whole_sizes.ensures c.if-not-whole_sizes.false in
    let d : Done c.args.image.now c.args.into.now (Ok c.unwrap_or_default-acs.result) c.put_fields.new.into =
    fills _ _ sizes.0 sizes.1 c.in_ok-find.ensures (rw e) part after
    in record { result_value = d.says; into_after = d.leaves }
