-- The form that a header's first byte stands for.
use Rattle.std.specs.Prelude.{cond, ℕ, Result, Ok, Err, eqb}
use Rattle.tlp.specs.declared.form.Form.{Form}
use Rattle.tlp.specs.declared.form.Form.TheVariants.{ShortRead, LongRead, ShortWrite, LongWrite, Completion, DataCompletion}
use Rattle.tlp.specs.declared.form.UnknownForm.{UnknownForm}

-- 00h and 40h, read and write with 12-byte header; 20h and 60h with 16; 0Ah and 4Ah, completions with 12
abbrev pub byte_of : Form → ℕ
byte_of ShortRead = 0x00
byte_of LongRead = 0x20
byte_of ShortWrite = 0x40
byte_of LongWrite = 0x60
byte_of Completion = 0x0A
byte_of DataCompletion = 0x4A

abbrev pub form_of : ℕ → Result Form UnknownForm
form_of byte =
    cond (eqb byte 0x00) (Ok ShortRead)
    (cond (eqb byte 0x20) (Ok LongRead)
    (cond (eqb byte 0x40) (Ok ShortWrite)
    (cond (eqb byte 0x60) (Ok LongWrite)
    (cond (eqb byte 0x0A) (Ok Completion)
    (cond (eqb byte 0x4A) (Ok DataCompletion) (Err (record { 0 = byte })))))))
