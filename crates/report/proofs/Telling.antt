-- What the router's answer result_fields is the text of the result that it stands for.
use mathlib.Core.Path.{◌≡◌, refl, sym, ◌∙◌, ap}
use mathlib.Core.List.{List, [], ◌++◌}
use Prim.Native.Nat.{ℕ, ◌+◌, ◌-◌, ◌*◌, ◌≤◌}
use native.Mathlib.Omega.{arith}
use lib.ListN.{length, take, drop, length-drop, length-append}
use lib.Seq.{take_all, take-append_seam, length-take-le}
use Rattle.rules.specs.declared.Outcome.{Outcome}
use Rattle.rules.specs.Bytes.{le}
use Rattle.rules.specs.Route.{Trip, hop_bytes}
use Rattle.rules.specs.Refuse.{Result, refused, answered, result, written}
use Rattle.rules.specs.Bound.{most_hops, room_for_all}
use Rattle.rules.specs.Word.{Answer, Fields, number_of, result_fields, end_fields, answer_fields}
use Rattle.rules.specs.Accepted.{Accepted}
use Rattle.rules.proofs.Gates.{result_answered}
use Rattle.rules.proofs.Accepted.{accepted}
use Rattle.rules.proofs.Answers.{end_of, end_back, end_count, end_kind}
use Rattle.rules.proofs.Theorems.{never_above_257}
use Rattle.rules.specs.declared.Refusal.{Refusal}
use Rattle.rules.specs.declared.Refused.{Refused}
use Rattle.rules.specs.declared.Ended.{Ended}
use Rattle.std.specs.Prelude.{Ok, Err}
use Rattle.route.specs.Parts.{Answers}
use Rattle.report.specs.Framing.{snapshot_length, header_start, header_length, snapshot_of, now_of, origin_of, header_of, answer_to}
use Rattle.text.specs.Text.{newline, head_text, end_text, hops_in, hops_text, refusal_text, answer_text}
use Rattle.text.specs.Room.{put}
use Rattle.text.proofs.Putting.{then, put_whole}
use Rattle.report.specs.Printed.{said, printed}
use Rattle.text.proofs.Hopping.{hops_told, length_hop_bytes}

-- the result is an answer with this end and so many hops
record IsTrip (x : Result Trip) (end : Outcome) (count : ℕ) : Type 0 where
  trip : Trip
  is : x ≡ answered trip
  ends : end ≡ trip.end
  counts : count ≡ length trip.hops

is_trip : (x : Result Trip) (end : Outcome) (count : ℕ) → answer_fields (Ok (record { end = end; count = count })) ≡ result_fields x → IsTrip x end count
is_trip (refused number i) end count e =
    let k : (end_fields end count).kind ≡ 6 = ap (λ (t : Fields). t.kind) e in let l = end_kind end count in absurd (omega arith)
is_trip (answered r) end count e =
    record {
      trip = r;
      is = refl;
      ends = sym (end_back end count) ∙ ap end_of e ∙ end_back r.end (length r.hops);
      counts = sym (end_count end count) ∙ ap (λ (t : Fields). t.count) e ∙ end_count r.end (length r.hops);
    }

-- a route has a whole header, and few hops
module _ (s : List ℕ) (time origin : ℕ) (h b : List ℕ) {a : Answer} {b₁ : List ℕ} {y : Ended}
    (x : Answers (result s time origin h (length b)) b a b₁) (e : a ≡ Ok y) where
  trip : IsTrip (result s time origin h (length b)) y.end y.count
  trip = is_trip (result s time origin h (length b)) y.end y.count (sym (ap answer_fields e) ∙ x.says)

  pub trip_begins : 8 ≤ length s
  trip_begins =
      let ok : Accepted s = accepted s time (result_answered s time origin h (length b) trip.trip trip.is).read in
      let n = ok.size in
      omega arith

  pub trip_few : y.count ≤ most_hops
  trip_few =
      let f : length trip.trip.hops ≤ most_hops = never_above_257 s time origin h (length b) trip.trip trip.is in
      let c = trip.counts in
      omega arith

  -- the buffer has the hops
  pub trip_room : 4 * y.count ≤ length b₁
  trip_room =
      let r = trip.trip in
      let c = trip.counts in
      let w : b₁ ≡ written (answered r) b = x.leaves ∙ ap (λ (y : Result Trip). written y b) trip.is in
      rw (w, length-append (hop_bytes r.hops) (drop (4 * length r.hops) b), length_hop_bytes r.hops) (omega arith)

  pub trip_hops : 4 * y.count ≡ length (take (4 * y.count) b₁)
  trip_hops = sym (length-take-le (4 * y.count) b₁ trip_room)

-- the texts

-- the hops that a route writes are those of its trip
hops_of : (r : Trip) (zeros : List ℕ) → hops_in (take (4 * length r.hops) (written (answered r) zeros)) ≡ hops_text r.hops
hops_of r zeros =
    rw (← length_hop_bytes r.hops, take-append_seam (hop_bytes r.hops) (drop (length (hop_bytes r.hops)) zeros)) (hops_told r.hops)

trip_of : (s : List ℕ) (r : Trip) (hops zeros : List ℕ) → hops ≡ written (answered r) zeros
    → head_text s ++ (newline ++ (end_text r.end ++ hops_in (take (4 * length r.hops) hops))) ≡ answer_text s (answered r)
unfolding answer_text
trip_of s r hops zeros w = rw (w, hops_of r zeros) refl

trip_text : (s : List ℕ) (x : Result Trip) (end : Outcome) (count : ℕ) (hops zeros : List ℕ)
    → answer_fields (Ok (record { end = end; count = count })) ≡ result_fields x
    → hops ≡ written x zeros → head_text s ++ (newline ++ (end_text end ++ hops_in (take (4 * count) hops))) ≡ answer_text s x
trip_text s x end count hops zeros e w =
    let t : IsTrip x end count = is_trip x end count e in
    ap (λ (o : Outcome). head_text s ++ (newline ++ (end_text o ++ hops_in (take (4 * count) hops)))) t.ends
    ∙ ap (λ (k : ℕ). head_text s ++ (newline ++ (end_text t.trip.end ++ hops_in (take (4 * k) hops)))) t.counts
    ∙ trip_of s t.trip hops zeros (w ∙ ap (λ (y : Result Trip). written y zeros) t.is)
    ∙ sym (ap (answer_text s) t.is)

refused_text : (s : List ℕ) (x : Result Trip) (why : Refusal) (i : ℕ) → answer_fields (Err (record { why = why; index = i })) ≡ result_fields x
    → refusal_text (number_of why) i ≡ answer_text s x
unfolding answer_text
refused_text s (refused number j) why i e =
    let a : number_of why ≡ number = ap (λ (t : Fields). t.detail) e in
    let b : i ≡ j = ap (λ (t : Fields). t.node) e in
    rw (a, b)
refused_text s (answered r) why i e =
    let k : 6 ≡ (end_fields r.end (length r.hops)).kind = ap (λ (t : Fields). t.kind) e in
    let l = end_kind r.end (length r.hops) in
    absurd (omega arith)

-- the parts that the code reads are the parts of the input
module _ (b : List ℕ) (n : ℕ) (long : length b ≡ header_start b + header_length b) (hn : n ≡ snapshot_length b) where
  same_snapshot : take (n + 2 - 2) (drop 2 b) ≡ snapshot_of b
  same_snapshot = let e : n + 2 - 2 ≡ snapshot_length b = omega arith in ap (λ (k : ℕ). take k (drop 2 b)) e

  same_header : take (length b - (n + 2 + 11)) (drop (n + 2 + 11) b) ≡ header_of b
  same_header =
      let e : n + 2 + 11 ≡ header_start b = omega arith in
      take_all (length b - (n + 2 + 11)) (drop (n + 2 + 11) b) (simp length-drop (omega arith)) ∙ ap (λ (k : ℕ). drop k b) e

  module _ {time origin : ℕ} (ht : time ≡ le 8 b (n + 2)) (ho : origin ≡ le 2 b (n + 2 + 8)) (zeros : List ℕ) (hz : length zeros ≡ room_for_all) where
    same_time : time ≡ now_of b
    same_time = let e : n + 2 ≡ 2 + snapshot_length b = omega arith in ht ∙ ap (le 8 b) e

    same_origin : origin ≡ origin_of b
    same_origin = let e : n + 2 + 8 ≡ 2 + snapshot_length b + 8 = omega arith in ho ∙ ap (le 2 b) e

    same_answer : result (take (n + 2 - 2) (drop 2 b)) time origin (take (length b - (n + 2 + 11)) (drop (n + 2 + 11) b)) (length zeros) ≡ answer_to b
    same_answer =
        ap (λ (s : List ℕ). result s time origin (take (length b - (n + 2 + 11)) (drop (n + 2 + 11) b)) (length zeros)) same_snapshot
        ∙ ap (λ (h : List ℕ). result (snapshot_of b) time origin h (length zeros)) same_header
        ∙ ap (λ (t : ℕ). result (snapshot_of b) t origin (header_of b) (length zeros)) same_time
        ∙ ap (λ (o : ℕ). result (snapshot_of b) (now_of b) o (header_of b) (length zeros)) same_origin
        ∙ ap (λ (room : ℕ). result (snapshot_of b) (now_of b) (origin_of b) (header_of b) room) hz

    module _ {a : Answer} {hops : List ℕ}
        (x : Answers (result (take (n + 2 - 2) (drop 2 b)) time origin (take (length b - (n + 2 + 11)) (drop (n + 2 + 11) b)) (length zeros))
        zeros a hops) where
      says_answer : answer_fields a ≡ result_fields (answer_to b)
      says_answer = x.says ∙ ap result_fields same_answer

      pub refused_answer : {y : Refused} → a ≡ Err y → refusal_text (number_of y.why) y.index ≡ answer_text (snapshot_of b) (answer_to b)
      refused_answer {y} e = refused_text (snapshot_of b) (answer_to b) y.why y.index (sym (ap answer_fields e) ∙ says_answer)

      pub ended_answer : {y : Ended} → a ≡ Ok y
          → head_text (take (n + 2 - 2) (drop 2 b)) ++ (newline ++ (end_text y.end ++ hops_in (take (4 * y.count) hops)))
          ≡ answer_text (snapshot_of b) (answer_to b)
      ended_answer {y} e =
          ap (λ (s : List ℕ). head_text s ++ (newline ++ (end_text y.end ++ hops_in (take (4 * y.count) hops)))) same_snapshot
          ∙ trip_text (snapshot_of b) (answer_to b) y.end y.count hops zeros (sym (ap answer_fields e) ∙ says_answer)
          (x.leaves ∙ ap (λ (x : Result Trip). written x zeros) same_answer)

-- the text of an empty buffer, with its last newline, is all that is printed
pub whole_printed : (b : List ℕ) {t₀ t₁ t₂ : List ℕ} → t₀ ≡ [] → t₁ ≡ put t₀ (said b) → length (said b) ≤ 3135 → t₂ ≡ put t₁ newline → t₂ ≡ printed b
unfolding printed
whole_printed b {t₀} {t₁} {t₂} e p l q =
    let size : length (said b ++ newline) ≡ length (said b) + 1 = length-append (said b) newline in
    then t₀ (said b) newline p q ∙ rw e (put_whole [] (said b ++ newline) (omega arith))
