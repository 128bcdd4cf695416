-- What an answer tells of the tests before it: the refusal table read backwards.
use mathlib.Core.Path.{◌≡◌, refl, sym, ◌∙◌, ap₂, subst}
use mathlib.Core.Bool.{Bool, true, false}
use mathlib.Core.List.{List, [], ◌∷◌}
use Prim.Native.Nat.{ℕ, ◌≤◌, ◌<◌}
use native.Mathlib.Omega.{arith}
use lib.Dec.{lit≤}
use Rattle.rules.specs.Records.{lowest_faulty}
use Rattle.rules.specs.Tlp.{header_fine}
use Rattle.rules.specs.Route.{Trip}
use Rattle.rules.specs.Refuse.{Gate, passes, refuses, unless, unless_found, Result, refused, answered, through, begun, known_version, well_made, in_time}
use Rattle.rules.specs.Refuse.{is_origin, read_gates, query_gates, fits, verdict, routed, result}
use Rattle.std.specs.Prelude.{Option, Some, None}

-- a result that no test with a number up to n gave
abbrev pub Past : {A : Type 0} → ℕ → Result A → Type 0
Past n (refused m i) = n < m
Past n (answered a) = Unit {0}

past_less : {A : Type 0} (m n : ℕ) → m ≤ n → (y : Result A) → Past n y → Past m y
past_less m n l (refused k i) h = omega arith
past_less m n l (answered a) h = tt

-- a result past a gate came through it
unless_open : {A : Type 0} (b : Bool) (m : ℕ) (l : List Gate) (x y : Result A) → Past m y → through (unless b m ∷ l) x ≡ y
    → (b ≡ true) × (through l x ≡ y)
unfolding through
unless_open true m l x y n h = (refl, h)
unless_open false m l x y n h = let z : m < m = subst (Past m) (sym h) n in absurd (omega arith)

found_open : {A : Type 0} (f : Option ℕ) (m : ℕ) (l : List Gate) (x y : Result A) → Past m y → through (unless_found f m ∷ l) x ≡ y
    → (f ≡ None) × (through l x ≡ y)
unfolding through
found_open None m l x y n h = (refl, h)
found_open (Some i) m l x y n h = let z : m < m = subst (Past m) (sym h) n in absurd (omega arith)

-- where the gates let one answer through, they let each;
pub through_open : {A : Type 0} (l : List Gate) (x : Result A) → ◌≡◌ {A = Result (Unit {0})} (through l (answered tt)) (answered tt) → through l x ≡ x
unfolding through
through_open [] x h = refl
through_open (passes ∷ l) x h = through_open l x h
through_open (refuses m j ∷ l) x h = let z : ◌≡◌ {A = ℕ} 0 1 = cc in absurd (omega arith)

-- where they refuse one, they refuse each
pub through_refused : {A : Type 0} (l : List Gate) (n i : ℕ) (x : Result A) → ◌≡◌ {A = Result (Unit {0})} (through l (answered tt)) (refused n i)
    → through l x ≡ refused n i
unfolding through
through_refused [] n i x h = let z : ◌≡◌ {A = ℕ} 0 1 = cc in absurd (omega arith)
through_refused (passes ∷ l) n i x h = through_refused l n i x h
through_refused (refuses m j ∷ l) n i x h = let e : m ≡ n = cc in let f : j ≡ i = cc in ap₂ refused e f

through_nil : {A : Type 0} (x : Result A) → through [] x ≡ x
unfolding through
through_nil x = refl

all_read : (s : List ℕ) (now : ℕ) → begun s ≡ true → known_version s ≡ true → well_made s ≡ true → in_time s now ≡ true
    → lowest_faulty s ≡ None
    → verdict s now ≡ answered tt
unfolding verdict through
all_read s now a b c d e = rw (a, b, c, d, e)

module _ {A : Type 0} (s : List ℕ) (x : Result A) where
  -- tests 1 to 4 passed
  pub read_open : (now : ℕ) (y : Result A) → Past 4 y → through (read_gates s now) x ≡ y → (verdict s now ≡ answered tt) × (x ≡ y)
  read_open now y n h =
      let (a, h1) = unless_open (begun s) 1 _ x y (past_less 1 4 (lit≤ tt) y n) h in
      let (b, h2) = unless_open (known_version s) 2 _ x y (past_less 2 4 (lit≤ tt) y n) h1 in
      let (c, h3) = unless_open (well_made s) 1 _ x y (past_less 1 4 (lit≤ tt) y n) h2 in
      let (d, h4) = unless_open (in_time s now) 3 _ x y (past_less 3 4 (lit≤ tt) y n) h3 in
      let (e, h5) = found_open (lowest_faulty s) 4 [] x y n h4 in
      (all_read s now a b c d e, sym (through_nil x) ∙ h5)

  -- tests 5 and 6 passed
  pub query_open : (o : ℕ) (h : List ℕ) (y : Result A) → Past 6 y → through (query_gates s o h) x ≡ y
      → (is_origin s o ≡ true) × (header_fine h ≡ true) × (x ≡ y)
  query_open o h y n p =
      let (a, p1) = unless_open (is_origin s o) 5 _ x y (past_less 5 6 (lit≤ tt) y n) p in
      let (b, p2) = unless_open (header_fine h) 6 [] x y n p1 in
      (a, b, sym (through_nil x) ∙ p2)

-- of an accepted snapshot: it is well made, and no record is faulty
pub verdict_made : (s : List ℕ) (now : ℕ) → verdict s now ≡ answered tt → (well_made s ≡ true) × (lowest_faulty s ≡ None)
unfolding verdict
verdict_made s now h =
    let (_, h1) = unless_open (begun s) 1 _ (answered tt) (answered tt) tt h in
    let (_, h2) = unless_open (known_version s) 2 _ (answered tt) (answered tt) tt h1 in
    let (c, h3) = unless_open (well_made s) 1 _ (answered tt) (answered tt) tt h2 in
    let (_, h4) = unless_open (in_time s now) 3 _ (answered tt) (answered tt) tt h3 in
    (c, (found_open (lowest_faulty s) 4 [] (answered tt) (answered tt) tt h4).0)

-- all tests passed, and r is the route
pub record Answered (s : List ℕ) (now o : ℕ) (h : List ℕ) (room : ℕ) (r : Trip) : Type 0 where
  pub read : verdict s now ≡ answered tt
  pub origin : is_origin s o ≡ true
  pub header : header_fine h ≡ true
  pub room_for : fits r room ≡ true
  pub route_is : routed s o h ≡ r

module _ (s : List ℕ) (now o : ℕ) (h : List ℕ) (room : ℕ) where
  -- past tests 1 to 6 only the room is left to test
  pub result_past : (y : Result Trip) → Past 6 y → result s now o h room ≡ y
      → (verdict s now ≡ answered tt) × (is_origin s o ≡ true) × (header_fine h ≡ true)
      × (through (unless (fits (routed s o h) room) 7 ∷ []) (answered (routed s o h)) ≡ y)
  unfolding result
  result_past y n e =
      let (a, e1) = read_open s _ now y (past_less 4 6 (lit≤ tt) y n) e in
      let (b, c, e2) = query_open s _ o h y n e1 in
      (a, b, c, e2)

  pub result_answered : (r : Trip) → result s now o h room ≡ answered r → Answered s now o h room r
  unfolding through
  result_answered r e =
      let (a, b, c, e2) = result_past (answered r) tt e in
      let (f, e3) = unless_open (fits (routed s o h) room) 7 [] _ (answered r) tt e2 in
      let same : routed s o h ≡ r = cc in
      record { read = a; origin = b; header = c; room_for = subst (λ (z : Trip). fits z room ≡ true) same f; route_is = same }

  pub answered_result : (r : Trip) → Answered s now o h room r → result s now o h room ≡ answered r
  unfolding result through verdict
  answered_result r a = through_open (read_gates s now) _ a.read ∙ rw (a.origin, a.header, a.route_is, a.room_for)
