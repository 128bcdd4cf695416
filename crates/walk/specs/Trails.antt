-- What a walk does to a trail.
use Rattle.std.specs.Prelude.{◌≡◌, List, ◌+◌, length}
use Rattle.rules.specs.declared.Landing.{Landing}
use Rattle.rules.specs.declared.Outcome.{Outcome}
use Rattle.rules.specs.Route.{Hop, Way, Trip}
use Rattle.walk.specs.declared.hops.Trail.{Trail}
use Rattle.walk.specs.Hops.{puts}

-- t₁ is the trail t with these hops besides: counted, and written into the same buffer where it has room
pub record Extends (t : Trail) (hops : List Hop) (t₁ : Trail) : Type 0 where
  pub same_buffer : t₁.buffer.ghost_name ≡ t.buffer.ghost_name
  pub counted : t₁.hops ≡ t.hops + length hops
  pub laid : t₁.buffer.now ≡ puts t.buffer.now t.hops hops

-- a walk down comes to l, which is what this way comes to, and t₁ is the trail t with its hops besides
pub record Descends (way : Way) (t : Trail) (l : Landing) (t₁ : Trail) : Type 0 where
  pub landing : l ≡ way.landing
  pub trail_after : Extends t way.hops t₁

-- a walk comes to e, which is what this trip comes to, and t₁ is the trail t with its hops besides
pub record Walks (trip : Trip) (t : Trail) (e : Outcome) (t₁ : Trail) : Type 0 where
  pub end : e ≡ trip.end
  pub trail_after : Extends t trip.hops t₁
