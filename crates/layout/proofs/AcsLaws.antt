-- How many bits a Capability gives: 01h to FFh mean themselves, and of 00h E decides.
use mathlib.Core.Path.{◌≡◌, sym, ◌∙◌}
use mathlib.Core.Bool.{Bool, true, false}
use Prim.Native.Nat.{ℕ, ◌/◌}
use borrow.Author.Tests.{eq-eqb, ne_eqb}
use Rattle.rules.specs.Bytes.{bit}
use Rattle.rules.specs.Snapshot.{bit_e, vector_size}
use Rattle.rules.proofs.Logic.{either}

module _ (c : ℕ) where
  pub field_size : (c / 256 ≡ 0 → ⊥) → c / 256 ≡ vector_size c
  field_size n = either (bit bit_e c) (λ e. rw (e, ne_eqb (c / 256) 0 n)) (λ e. rw e)

  pub full_size : {e : Bool} → c / 256 ≡ 0 → e ≡ bit bit_e c → e ≡ true → 256 ≡ vector_size c
  full_size z p h = rw (sym p ∙ h, eq-eqb (c / 256) 0 z)

  pub no_size : {e : Bool} → c / 256 ≡ 0 → e ≡ bit bit_e c → e ≡ false → 0 ≡ vector_size c
  no_size z p h = rw (sym p ∙ h) (sym z)
