-- Depths are counted up to a bound.
use Rattle.std.proofs.Common.{◌≡◌, ℕ, max, arith}
use Rattle.f77_statement.specs.Parts.{capped}

pub capped_max : (a b : ℕ) → max (capped a) (capped b) ≡ capped (max a b)
capped_max a b = omega arith
