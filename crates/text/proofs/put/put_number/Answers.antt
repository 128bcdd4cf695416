use Rattle.std.proofs.Common.{◌∙◌}
use Rattle.text.proofs.Decimals.{number_printed, number_short}
use Rattle.text.proofs.Placing.{tight, named}
use Rattle.text.proofs.put.put_number.Goals as goal

pub returns : goal.returns
returns c =
    tight (number_short c.args.n c.ranges.n.fits)
    (named (c.as_bytes.ensures.value ∙ c.format.ensures.text ∙ number_printed c.args.n c.ranges.n.fits) c.put_word.ensures)
