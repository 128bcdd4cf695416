-- F1 prints exactly document 01's two lines.
use mathlib.Core.Path.{◌≡◌, refl, ◌∙◌, ap}
use mathlib.Core.Bool.{true}
use mathlib.Core.List.{List, ◌++◌}
use Prim.Native.Nat.{ℕ}
use Rattle.rules.specs.Bound.{room_for_all}
use Rattle.rules.specs.Refuse.{result}
use Rattle.cases.specs.FabricF.{fabric_f, set, plain, directly, table}
use Rattle.cases.proofs.Cases.{F1-to-F12}
use Rattle.report.specs.Framing.{whole, snapshot_of, now_of, origin_of, header_of, answer_to}
use Rattle.text.specs.Text.{newline, decimal, number, end_text, hop_text, hops_text, head_text, answer_text}
use Rattle.report.specs.Printed.{said, printed}
use Rattle.sample.specs.First.{input_f1, lines_f1}

framed : whole input_f1 ≡ true
unfolding whole input_f1 fabric_f plain
framed = refl

snapshot_is : snapshot_of input_f1 ≡ set 0x00 0
unfolding input_f1 fabric_f plain
snapshot_is = refl

header_is : header_of input_f1 ≡ plain
unfolding input_f1 fabric_f plain
header_is = refl

now_is : now_of input_f1 ≡ 0
unfolding input_f1 fabric_f plain
now_is = refl

origin_is : origin_of input_f1 ≡ 4
unfolding input_f1 fabric_f plain
origin_is = refl

routed : result (set 0x00 0) 0 4 plain room_for_all ≡ directly
unfolding table
routed = F1-to-F12.0

answer_is : answer_to input_f1 ≡ directly
answer_is =
    ap (λ (s : List ℕ). result s (now_of input_f1) (origin_of input_f1) (header_of input_f1) room_for_all) snapshot_is
    ∙ ap (λ (h : List ℕ). result (set 0x00 0) (now_of input_f1) (origin_of input_f1) h room_for_all) header_is
    ∙ ap (λ (t : ℕ). result (set 0x00 0) t (origin_of input_f1) plain room_for_all) now_is
    ∙ ap (λ (o : ℕ). result (set 0x00 0) 0 o plain room_for_all) origin_is
    ∙ routed

text_is : answer_text (set 0x00 0) directly ++ newline ≡ lines_f1
unfolding answer_text head_text end_text hops_text hop_text number decimal directly lines_f1 fabric_f
text_is = refl

pub F1-prints : printed input_f1 ≡ lines_f1
unfolding printed said
F1-prints = rw (framed, answer_is, snapshot_is) text_is
