-- Inputs alone determine the answer word and the final bytes of every lent buffer: whatever meets the promise gives the same. There is no
-- exception.
use mathlib.Core.Path.{◌≡◌, sym, ◌∙◌}
use mathlib.Core.List.{List}
use Prim.Native.Nat.{ℕ}
use Rattle.acs.specs.Promise.{Judged, Routed, Filled}

pub check_determined : (snapshot : List ℕ) (now a b : ℕ) → Judged snapshot now a → Judged snapshot now b → a ≡ b
check_determined snapshot now a b p q = p.says ∙ sym q.says

pub route_determined : (snapshot : List ℕ) (now origin : ℕ) (header before : List ℕ) (a b : ℕ) (x y : List ℕ)
    → Routed snapshot now origin header before a x → Routed snapshot now origin header before b y → (a ≡ b) × (x ≡ y)
route_determined snapshot now origin header before a b x y p q = (p.says ∙ sym q.says, p.leaves ∙ sym q.leaves)

pub fill_determined : (image before : List ℕ) (a b : ℕ) (x y : List ℕ) → Filled image before a x → Filled image before b y → (a ≡ b) × (x ≡ y)
fill_determined image before a b x y p q = (p.says ∙ sym q.says, p.leaves ∙ sym q.leaves)
