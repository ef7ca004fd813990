-- The first moment of a run.
use Rattle.std.specs.Prelude.{Option, ℕ, List}
use Rattle.tree.specs.Plain.{Declaration}
use Rattle.machine.specs.Moments.{Seen, seen_at, begun_at}
use Rattle.machine.specs.Storage.{opening_of}

-- under a limit of steps
abbrev pub opening_moment : Option ℕ → List Declaration → Seen
opening_moment limit ds = seen_at ds (opening_of ds) (begun_at limit)
