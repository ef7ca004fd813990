-- One element of an array, at a position: its value, and the cells that it reads (ISO/IEC 1539:1991, sections 6.2.2 and
-- 7.1.5).
use Rattle.std.specs.Prelude.{◌≡◌, Result, Ok, Err, ℕ, zero, suc, ◌<◌, ℤ, pos, ◌+ℤ◌, ◌*ℤ◌, true, List, [], ◌∷◌, ◌++◌}
use Rattle.std.specs.Prelude.{map, All, Contains}
use Rattle.tree.specs.Operators.{apply, call}
use Rattle.tree.specs.Plain.{Expression, Number, Logic, Named, Unary, Binary, Apply, Expressions, no_expressions}
use Rattle.tree.specs.Plain.{expression, Subscripts}
use Rattle.tree.specs.Steps.{◌>>=◌}
use Rattle.tree.specs.declared.functions.Fun.{Fun}
use Rattle.tree.specs.declared.ops.Fault.{Fault}
use Rattle.tree.specs.declared.ops.Op.{Op}
use Rattle.tree.specs.declared.ops.Value.{Value}
use Rattle.meaning.specs.ArrayStatements.{axes_named}
use Rattle.meaning.specs.ArrayValues.{Elements, positions, place_of}
use Rattle.meaning.specs.Dialect.{Dialect}
use Rattle.meaning.specs.Reads.{names_in}
use Rattle.meaning.specs.CellsRead.{cells_read_to_select, array_cells_read}
use Rattle.meaning.specs.Sections.{Axis, Fixed, Along, extents_of, cells_along, steps_from}
use Rattle.meaning.specs.Store.{Store, Cell}
use Rattle.meaning.specs.Value.{value_of, array_of, is_scalar}

-- ---- positions, counted from 0 along each dimension

-- the i-th number of a list
abbrev pub number_at : List ℤ → ℕ → ℤ
number_at [] i = pos 0
number_at (z ∷ zs) zero = z
number_at (z ∷ zs) (suc i) = number_at zs i

-- the subscripts at a position of what is selected; a dimension with one number alone has no place in it
abbrev pub subscripts_at : List Axis → List ℕ → List ℤ
subscripts_at [] is = []
subscripts_at (Fixed z ∷ axes) is = z ∷ subscripts_at axes is
subscripts_at (Along zs ∷ axes) [] = number_at zs 0 ∷ subscripts_at axes []
subscripts_at (Along zs ∷ axes) (i ∷ is) = number_at zs i ∷ subscripts_at axes is

abbrev pub cell_at_position : List ℕ → List Axis → List ℕ → Cell
cell_at_position x axes is = record { name = x; subscripts = subscripts_at axes is }

-- the n-th cell, if there is one
abbrev pub nth_cell : List Cell → ℕ → List Cell
nth_cell [] n = []
nth_cell (c ∷ cs) zero = c ∷ []
nth_cell (c ∷ cs) (suc n) = nth_cell cs n

abbrev pub found_at : List ℕ → List ℕ → Result (List Axis) Fault → List Cell
found_at x is (Ok axes) = nth_cell (cells_along x axes) (place_of (extents_of axes) is)
found_at x is (Err fault) = []

module _ (d : Dialect) where
  -- the element at a position; a scalar is its own element at each of them
  abbrev pub element_of : Expression → List ℕ → Store → Result Value Fault
  element_of e is s = do
    g ← array_of d e s
    g.at is

  -- The cells that this element reads. Of a name it is the one cell at the position, besides those read by subscripts;
  -- what is evaluated in whole, as a constructor or the argument of an array function, is read in whole
  abbrev mutual
    pub cells_read_at : Expression → List ℕ → Store → List Cell
    cells_read_at (Number n) is s = []
    cells_read_at (Logic b) is s = []
    cells_read_at (Named x ps) is s =
        cells_read_to_select d ps s ++ found_at x is (axes_named d (record { name = x; subscripts = ps }) s)
    cells_read_at (Unary o a) is s = cells_read_at a is s
    cells_read_at (Binary o a b) is s = cells_read_at a is s ++ cells_read_at b is s
    cells_read_at (Apply f es) is s = cells_read_at_by_each es is s
    cells_read_at e is s = array_cells_read d e s

    pub cells_read_at_by_each : Expressions → List ℕ → Store → List Cell
    cells_read_at_by_each no_expressions is s = []
    cells_read_at_by_each (expression e es) is s = cells_read_at e is s ++ cells_read_at_by_each es is s

-- ---- laws

-- Two stores in which the names of an expression have the same bounds, and the cells that the element at a position
-- reads hold the same values, give it one element there, or one fault
abbrev pub ElementComesFromCellsRead : Type 0
ElementComesFromCellsRead = (d : Dialect) (e : Expression) (is : List ℕ) (s t : Store)
    → All (λ x. s.bounds x ≡ t.bounds x) (names_in e)
    → All (λ c. s.held c ≡ t.held c) (cells_read_at d e is s)
    → element_of d e is s ≡ element_of d e is t

-- the cells that a reference selects are those at its positions, both in column-major order
abbrev pub CellsByPosition : Type 0
CellsByPosition = (x : List ℕ) (axes : List Axis)
    → cells_along x axes ≡ map (cell_at_position x axes) (positions (extents_of axes))

-- the element of a name at a position is the value of the cell there
abbrev pub ElementOfSection : Type 0
ElementOfSection = (d : Dialect) (x : List ℕ) (ps : Subscripts) (s : Store) (axes : List Axis) (is : List ℕ)
    → axes_named d (record { name = x; subscripts = ps }) s ≡ Ok axes
    → Contains (positions (extents_of axes)) is
    → element_of d (Named x ps) is s ≡ Ok (s.held (cell_at_position x axes is))

-- the element of an operation is what it makes of its operands' elements, where these conform
abbrev pub ElementOfOperation : Type 0
ElementOfOperation = (d : Dialect) (o : Op) (a b : Expression) (is : List ℕ) (s : Store) (g : Elements Value)
    → array_of d (Binary o a b) s ≡ Ok g
    → element_of d (Binary o a b) is s ≡ (do
      x ← element_of d a is s
      y ← element_of d b is s
      apply o x y)

-- of an operation on one operand
abbrev pub ElementOfUnary : Type 0
ElementOfUnary = (d : Dialect) (o : Op) (a : Expression) (is : List ℕ) (s : Store)
    → element_of d (Unary o a) is s ≡ (do
      x ← element_of d a is s
      apply o x x)

-- of a function what it makes of its arguments' elements
abbrev pub elements_of : Dialect → Expressions → List ℕ → Store → Result (List Value) Fault
elements_of d no_expressions is s = Ok []
elements_of d (expression e es) is s = do
  x ← element_of d e is s
  xs ← elements_of d es is s
  Ok (x ∷ xs)

abbrev pub ElementOfCall : Type 0
ElementOfCall = (d : Dialect) (f : Fun) (es : Expressions) (is : List ℕ) (s : Store) (g : Elements Value)
    → array_of d (Apply f es) s ≡ Ok g
    → element_of d (Apply f es) is s ≡ (do
      xs ← elements_of d es is s
      call f xs)

-- a scalar that has a value has it as its element at each position
abbrev pub ScalarIsItsElement : Type 0
ScalarIsItsElement = (d : Dialect) (e : Expression) (is : List ℕ) (s : Store) (v : Value)
    → is_scalar e s.bounds ≡ true → value_of d e s ≡ Ok v → element_of d e is s ≡ Ok v

-- the i-th number of a triplet is its first one and i strides
abbrev pub NumberOfTriplet : Type 0
NumberOfTriplet = (first stride : ℤ) (i n : ℕ) → i < n
    → number_at (steps_from first stride n) i ≡ first +ℤ pos i *ℤ stride
