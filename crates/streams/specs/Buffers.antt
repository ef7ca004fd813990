-- What contracts see of a sink with a buffer before it.
use Rattle.std.specs.Prelude.{ℕ, List, Option}
use Rattle.std.specs.Io.KnownBytes.{append_known}

pub record BufferState (K : Type 0) : Type 0 where
  pub sink : K
  -- what the sink is still to be given
  pub held : List ℕ

-- what the sink has taken, and then what it is still to be given
abbrev pub all_taken : {K : Type 0} → (K → Option (List ℕ)) → BufferState K → Option (List ℕ)
all_taken taken s = append_known (taken s.sink) s.held
