-- Parts of the rules that a function of their own works out.
use Rattle.std.specs.Prelude.{Bool, ◌&&◌, ℕ, eqb}
use Rattle.rules.specs.declared.Handling.{Handling}
use Rattle.rules.specs.declared.Tlp.{Tlp}
use Rattle.rules.specs.Fabric.{Shape, Setting}
use Rattle.rules.specs.Decide.{handling, vector_number}

-- T on and AT 2
abbrev pub goes_translated : Setting → Tlp → ℕ → Bool
goes_translated st t p = st.t p && eqb t.address_type 2

abbrev pub by_table : Shape → Setting → ℕ → ℕ → Handling
by_table sh st p q = handling (st.e p) (st.r p) (st.vector p (vector_number sh q))
