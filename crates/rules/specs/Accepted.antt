-- What acceptance gives: the one fact that a call's check establishes and that everything above it asks for.
use Rattle.std.specs.Prelude.{◌≡◌, List, ℕ, ◌≤◌, length}
use Rattle.rules.specs.Snapshot.{base, count}
use Rattle.rules.specs.Records.{lowest_faulty}
use Rattle.rules.specs.Fabric.{shape_of}
use Rattle.rules.specs.Properties.{WellFormed, Nested}
use Rattle.std.specs.Prelude.{None}

pub record Accepted (s : List ℕ) : Type 0 where
  -- the records that the header counts, at most 256, fill the snapshot
  pub size : length s ≡ base (count s)
  pub few : count s ≤ 256
  -- no record is faulty,
  pub faultless : lowest_faulty s ≡ None
  -- so that parents stand lower and are of the kinds to stand under,
  pub formed : WellFormed (shape_of s)
  -- and what a record covers its parent covers
  pub nested : Nested (shape_of s)
