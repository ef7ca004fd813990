-- The limits of a program of Fortran 90 on its statements.
use Rattle.std.specs.Prelude.{◌≤◌, ◌<◌, ◌^◌}
use Rattle.tree.specs.Limits.{block_depth90}
use Rattle.tree.specs.Plain.{Block}
use Rattle.meaning.specs.Blocks.{blocks_in, statement_count_in}

pub record IsWithinLimits (b : Block) : Type 0 where
  pub deep : blocks_in b ≤ block_depth90
  pub many : statement_count_in b < 2 ^ 31
