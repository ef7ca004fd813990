-- Positions by their places in column-major order (ISO/IEC 1539:1991, section 6.2.2.2), and extents of two operands.
use Rattle.std.specs.Prelude.{ℕ, ◌/◌, ◌%◌, List, [], ◌∷◌}

-- the position at a place: the first number runs fastest
abbrev pub position_at : List ℕ → ℕ → List ℕ
position_at [] k = []
position_at (n ∷ ns) k = (k % n) ∷ position_at ns (k / n)

-- the extents of an operation on arrays that conform
abbrev pub wider : List ℕ → List ℕ → List ℕ
wider [] ns = ns
wider (m ∷ ms) ns = m ∷ ms
