-- The coefficient of a place among terms.
use Rattle.std.specs.Prelude.{ℕ, ◌==◌, ℤ, pos, if◌then◌else◌, List, [], ◌∷◌}

abbrev pub coefficient_at : List (ℕ × ℤ) → ℕ → ℤ
coefficient_at [] p = pos 0
coefficient_at (t ∷ ts) p = if t.0 == p then t.1 else coefficient_at ts p
