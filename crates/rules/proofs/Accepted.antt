-- What the check of a snapshot establishes.
use mathlib.Core.Path.{◌≡◌}
use mathlib.Core.Bool.{true, ◌&&◌}
use mathlib.Core.List.{List}
use Prim.Native.Nat.{ℕ, ◌≤◌}
use lib.Dec.{eqb, leb, ltb}
use lib.ListN.{length}
use borrow.Author.Tests.{leb-true, eqb-true}
use Rattle.rules.specs.Snapshot.{flags, count, taken, good_until, base}
use Rattle.rules.specs.Refuse.{answered, well_made, verdict}
use Rattle.rules.specs.Accepted.{Accepted}
use Rattle.rules.proofs.Logic.{both}
use Rattle.rules.proofs.Sound.{well_formed, nested_covers}
use Rattle.rules.proofs.Gates.{verdict_made}

-- a well-made snapshot has at most 256 records, and they fill it
pub well_made_lem : (s : List ℕ) → well_made s ≡ true → (count s ≤ 256) × (length s ≡ base (count s))
unfolding well_made
well_made_lem s h =
    let (a, b) = both (ltb (flags s) 4 && leb (count s) 256 && leb (taken s) (good_until s)) (eqb (length s) (base (count s))) h in
    let (c, _) = both (ltb (flags s) 4 && leb (count s) 256) (leb (taken s) (good_until s)) a in
    (leb-true _ _ (both (ltb (flags s) 4) (leb (count s) 256) c).1, eqb-true _ _ b)

pub accepted : (s : List ℕ) (now : ℕ) → verdict s now ≡ answered tt → Accepted s
accepted s now h =
    let (made, clean) = verdict_made s now h in
    let (few, size) = well_made_lem s made in
    record { size = size; few = few; faultless = clean; formed = well_formed s clean; nested = nested_covers s clean }
