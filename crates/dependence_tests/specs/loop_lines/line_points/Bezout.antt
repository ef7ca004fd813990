-- Bezout's numbers of two coefficients.
use Rattle.std.specs.Prelude.{◌≡◌, ℤ, pos, ◌+ℤ◌, ◌*ℤ◌, ◌<ℤ◌, ◌≤◌, max, unsigned_abs}
use Rattle.dependence_tests.specs.declared.loop_lines.line_points.bezout.Bezout.{Bezout}

pub record IsBezout (a b : ℤ) (r : Bezout) : Type 0 where
  pub positive : pos 0 <ℤ r.divisor
  pub first : r.divisor *ℤ r.first ≡ a
  pub second : r.divisor *ℤ r.second ≡ b
  pub one : r.first *ℤ r.x +ℤ r.second *ℤ r.y ≡ pos 1
  pub x_size : unsigned_abs r.x ≤ max 1 (unsigned_abs r.second)
  pub y_size : unsigned_abs r.y ≤ max 1 (unsigned_abs r.first)
  -- Bezout's second number isn't needed where the second coefficient is 0
  pub alone : r.second ≡ pos 0 → r.y ≡ pos 0
