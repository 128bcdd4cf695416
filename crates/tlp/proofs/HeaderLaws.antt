-- What the tests of a header say, case by case: its form, its target, and whether it is fine.
use mathlib.Core.Path.{◌≡◌, refl}
use mathlib.Core.Bool.{Bool, true, false, cond, ◌||◌, not}
use mathlib.Core.List.{List, [], ◌∷◌}
use Prim.Native.Nat.{ℕ, ◌≤◌, ◌<◌}
use native.Mathlib.Omega.{arith}
use borrow.Author.Tests.{eq-eqb, ne_eqb}
use lib.ListN.{length}
use lib.Dec.{eqb}
use Rattle.std.proofs.lemmas.Grind.{common_steps}
use Rattle.std.specs.Prelude.{Some, None, Err}
use Rattle.rules.specs.declared.Target.{Target}
use Rattle.rules.specs.declared.Tlp.{Tlp}
use Rattle.rules.specs.Bytes.{byte}
use Rattle.rules.specs.Tlp.{is_read, is_request, is_completion, is_long, relaxed, address_type, requester_bus, header_length}
use Rattle.rules.specs.Tlp.{crosses, header_fine, target_of, tlp_of}
use Rattle.rules.proofs.Logic.{either, and_right_false}
use Rattle.tlp.specs.declared.form.Form.{Form}
use Rattle.tlp.specs.declared.form.Form.TheVariants.{ShortRead, LongRead, ShortWrite, LongWrite, Completion, DataCompletion}
use Rattle.tlp.specs.declared.form.UnknownForm.{UnknownForm}
use Rattle.tlp.specs.Form.{byte_of, form_of}
use Rattle.tlp.specs.Header.{header_read, target_read}

-- a byte that no form has is no request and no completion
neither : (b : ℕ) {x : UnknownForm} → form_of b ≡ Err x → (is_completion b ≡ false) × (is_request b ≡ false)
neither b e = (grind (arith, common_steps), grind (arith, common_steps))

pub read_empty : (h : List ℕ) → length h ≡ 0 → header_read h ≡ None
unfolding header_read header_fine
read_empty [] e = refl
read_empty (x ∷ h) e = absurd (omega arith)

pub no_form : (h : List ℕ) {b : ℕ} {x : UnknownForm} → b ≡ byte h 0 → form_of b ≡ Err x → header_read h ≡ None
unfolding header_read header_fine
no_form h {b} p e =
    let n : (is_completion b ≡ false) × (is_request b ≡ false) = neither b e in
    rw (← p, n.0, n.1, and_right_false (eqb (length h) (header_length b)) false refl)

-- .. and what a header is refused for, whatever its first byte is: its length
pub header_twelve : (form : ℕ) → 12 ≤ header_length form
header_twelve form = go (is_long form)
  where
    go : (long : Bool) → 12 ≤ cond long 16 12
    go true = omega arith
    go false = omega arith

pub read_misfit : (h : List ℕ) {n : ℕ} → n ≡ header_length (byte h 0) → (length h ≡ n → ⊥) → None ≡ header_read h
unfolding header_read header_fine
read_misfit h e d = rw (← e, ne_eqb _ _ d)

pub read_short : (h : List ℕ) → length h < 12 → None ≡ header_read h
read_short h l = read_misfit h refl (λ e. omega (arith, l, e, header_twelve (byte h 0)))

-- the TLP of a header, of its form's answers and its target
abbrev tlp_with : List ℕ → Bool → Bool → Target → Tlp
tlp_with h request owed target =
    record {
      request = request;
      completion_owed = owed;
      straight = relaxed h;
      address_type = address_type h;
      requester_bus = record { 0 = requester_bus h };
      target = target;
    }

-- each form is a completion or a request
module _ (h : List ℕ) (form : Form) (begins : byte h 0 ≡ byte_of form) where
  known : is_request (byte h 0) ≡ not (is_completion (byte h 0))
  known = rw begins (go form)
    where
      go : (form : Form) → is_request (byte_of form) ≡ not (is_completion (byte_of form))
      go ShortRead = refl
      go LongRead = refl
      go ShortWrite = refl
      go LongWrite = refl
      go Completion = refl
      go DataCompletion = refl

  pub misfit : (length h ≡ header_length (byte_of form) → ⊥) → header_read h ≡ None
  unfolding header_read header_fine
  misfit d = rw (begins, ne_eqb _ _ d)

  fine : length h ≡ header_length (byte_of form) → header_fine h ≡ (is_completion (byte h 0) || not (crosses h))
  unfolding header_fine
  fine l = either (is_completion (byte h 0)) (λ p. rw (known, p, begins, eq-eqb _ _ l)) (λ q. rw (known, q, begins, eq-eqb _ _ l))

  pub read_bad : length h ≡ header_length (byte_of form) → target_read h ≡ None → header_read h ≡ None
  unfolding header_read target_read
  read_bad l e = either (is_completion (byte h 0) || not (crosses h)) (λ p. cc (rw p at e)) (λ q. rw (fine l, q))

  pub read_good : {r o : Bool} {t : Target} → length h ≡ header_length (byte_of form) → r ≡ is_request (byte_of form)
      → o ≡ is_read (byte_of form) → target_read h ≡ Some t → Some (tlp_with h r o t) ≡ header_read h
  unfolding header_read target_read tlp_of
  read_good {t = t} l hr ho e =
      either (is_completion (byte h 0) || not (crosses h))
      (λ p. let q : target_of h ≡ t = cc (rw p at e) in rw (fine l, p, begins, q, hr, ho))
      (λ q. cc (rw q at e))
