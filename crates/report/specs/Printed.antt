-- What is printed for an input.
use Rattle.std.specs.Prelude.{cond, List, ◌++◌, ℕ}
use Rattle.text.specs.Ascii.{ascii}
use Rattle.text.specs.Text.{newline, answer_text}
use Rattle.report.specs.Framing.{whole, snapshot_of, answer_to}

-- Input shorter or longer than its lengths say prints only `input`.
unfoldable pub said : List ℕ → List ℕ
said b = cond (whole b) (answer_text (snapshot_of b) (answer_to b)) (ascii "input")

-- every line ends in a newline, the last one too
unfoldable pub printed : List ℕ → List ℕ
printed b = said b ++ newline
