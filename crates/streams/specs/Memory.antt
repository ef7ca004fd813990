-- What contracts see of the source and the sink over memory that fail at chosen calls.
use Rattle.std.specs.Prelude.{ℕ, List}

pub record SourceState : Type 0 where
  pub left : List ℕ
  -- the most bytes of one call
  pub piece : ℕ
  -- the numbers of the calls that fail, from 1
  pub fails : List ℕ
  -- how many calls were made, as far as a u64 counts them
  pub calls : ℕ
  pub faults : ℕ

pub record SinkState : Type 0 where
  pub taken : List ℕ
  -- how many bytes it takes in all
  pub room : ℕ
  -- the most bytes of one call
  pub piece : ℕ
  -- the numbers of the calls that fail, from 1
  pub fails : List ℕ
  -- how many calls were made, as far as a u64 counts them
  pub calls : ℕ
  pub faults : ℕ
