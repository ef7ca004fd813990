-- A quotient rounded towards zero, and what is left.
use Rattle.std.specs.Prelude.{◌≡◌, ℤ, ◌+ℤ◌, ◌*ℤ◌, ◌+◌, ◌*◌, ◌<◌, unsigned_abs}
use Rattle.dependence_tests.specs.declared.loop_lines.line_points.whole.Quotient.{Quotient}

pub record IsQuotient (a b : ℤ) (r : Quotient) : Type 0 where
  pub whole : r.times *ℤ b +ℤ r.rest ≡ a
  pub sizes : unsigned_abs r.times * unsigned_abs b + unsigned_abs r.rest ≡ unsigned_abs a
  pub below : unsigned_abs r.rest < unsigned_abs b
