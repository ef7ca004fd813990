-- Laws of cells.
use Rattle.std.specs.Prelude.{◌≡◌, ◌↔◌, ℕ, ℤ, List, IsTrue, Contains}
use Rattle.meaning.specs.Store.{Cell, same_cell, is_within, cells_of}

abbrev pub SameCellIsOne : Type 0
SameCellIsOne = (c d : Cell) → IsTrue (same_cell c d) ↔ (c ≡ d)

-- the cells of a name are those with subscripts within its bounds
abbrev pub CellsAreWithin : Type 0
CellsAreWithin = (x : List ℕ) (bounds : List (ℤ × ℤ)) (c : Cell)
    → Contains (cells_of x bounds) c ↔ ((c.name ≡ x) × IsTrue (is_within bounds c.subscripts))
