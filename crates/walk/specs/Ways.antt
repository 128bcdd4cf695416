-- What the walks say of a way: what it comes to, and the number of the hop that would follow.
use Rattle.std.specs.Prelude.{ℕ, ◌+◌, length}
use Rattle.rules.specs.Route.{Trip}
use Rattle.walk.specs.declared.Walked.{Walked}

abbrev pub walked_from : ℕ → Trip → Walked
walked_from k r = record { end = r.end; hops = k + length r.hops }
