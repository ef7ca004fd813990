-- Stretches of whole numbers.
use Rattle.std.specs.Prelude.{ℤ, ◌≤ℤ◌, ◌≤◌, ◌^◌, unsigned_abs}
use Rattle.dependence_tests.specs.declared.loop_lines.line_points.stretch.Stretch.{Stretch}

pub record IsIn (r : Stretch) (s : ℤ) : Type 0 where
  pub low : r.low ≤ℤ s
  pub high : s ≤ℤ r.high

pub record IsShort (r : Stretch) : Type 0 where
  pub low : unsigned_abs r.low ≤ 2 ^ 110
  pub high : unsigned_abs r.high ≤ 2 ^ 110
