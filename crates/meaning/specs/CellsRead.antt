-- What the value of an expression depends on.
use Rattle.std.specs.Prelude.{◌≡◌, Result, Ok, Err, ℕ, ℤ, pos, ◌+ℤ◌, ◌-ℤ◌, Bool, true, false, if◌then◌else◌, List, []}
use Rattle.std.specs.Prelude.{◌∷◌, ◌++◌, All, Contains}
use Rattle.tree.specs.Plain.{Expression, Number, Logic, Named, Unary, Binary, Apply, Constructor, Spread, Transpose}
use Rattle.tree.specs.Plain.{Reshape, Reduce, Expressions, no_expressions, expression, Subscript, Only, Section}
use Rattle.tree.specs.Plain.{Subscripts, no_subscripts, subscript, Loops, no_loops, loop, Program}
use Rattle.tree.specs.declared.ops.Fault.{Fault}
use Rattle.meaning.specs.Store.{Store, Cell, same_cell, stored_bounds, numbers_from, Agree, names_of}
use Rattle.meaning.specs.Value.{value_of, array_of, number_of, cell_named, is_scalar, selectors, bound_to}
use Rattle.meaning.specs.Dialect.{Dialect}
use Rattle.meaning.specs.Sections.{Axis, axes_selected, cells_along, not_negative}
use Rattle.tree.specs.Steps.{◌>>=◌}
use Rattle.meaning.specs.Reads.{names_in}

-- the cell that was found, if it was
abbrev pub found : Result Cell Fault → List Cell
found (Ok c) = c ∷ []
found (Err fault) = []

-- the cells that were selected, if they were
abbrev pub found_along : List ℕ → Result (List Axis) Fault → List Cell
found_along x (Ok axes) = cells_along x axes
found_along x (Err fault) = []

abbrev pub same_name : List ℕ → Cell → Bool
same_name x c = same_cell (record { name = x; subscripts = [] }) c

-- without the variable x
abbrev pub others : List ℕ → List Cell → List Cell
others x [] = []
others x (c ∷ cs) = if same_name x c then others x cs else c ∷ others x cs

abbrev pub in_each : {A : Type 0} → (A → List Cell) → List A → List Cell
in_each f [] = []
in_each f (x ∷ xs) = f x ++ in_each f xs

-- f for x from l to u
abbrev pub for_numbers_read : List ℕ → ℤ → ℤ → (Store → List Cell) → Store → List Cell
for_numbers_read x l u f s =
    others x (in_each (λ z. f (bound_to x z s)) (numbers_from l (not_negative (u -ℤ l +ℤ pos 1))))

-- where both bounds are known
abbrev pub between : Result ℤ Fault → Result ℤ Fault → (ℤ → ℤ → List Cell) → List Cell
between (Ok l) (Ok u) f = f l u
between _ _ f = []

abbrev pub read_by_one_way : Bool → List Cell → List Cell → List Cell
read_by_one_way true cs ds = cs
read_by_one_way false cs ds = ds

module _ (d : Dialect) where
  -- the cells that an expression reads in a store: those that its names and subscripts select
  abbrev mutual
    pub cells_read : Expression → Store → List Cell
    cells_read (Number n) s = []
    cells_read (Logic b) s = []
    cells_read (Named x ps) s = cells_read_by ps s ++ found (cell_named d (record { name = x; subscripts = ps }) s)
    cells_read (Unary o a) s = cells_read a s
    cells_read (Binary o a b) s = cells_read a s ++ cells_read b s
    cells_read (Apply f es) s = cells_read_by_each es s
    cells_read (Reduce r a) s = array_cells_read a s
    cells_read _ s = []

    pub cells_read_by_each : Expressions → Store → List Cell
    cells_read_by_each no_expressions s = []
    cells_read_by_each (expression e es) s = cells_read e s ++ cells_read_by_each es s

    pub cells_read_by : Subscripts → Store → List Cell
    cells_read_by no_subscripts s = []
    cells_read_by (subscript p ps) s = cells_read_by_subscript p s ++ cells_read_by ps s

    pub cells_read_by_subscript : Subscript → Store → List Cell
    cells_read_by_subscript (Only e) s = cells_read e s
    cells_read_by_subscript (Section a b c) s = []

    -- by an expression that is evaluated as an array
    pub array_cells_read : Expression → Store → List Cell
    array_cells_read (Number n) s = []
    array_cells_read (Logic b) s = []
    array_cells_read (Named x ps) s = cells_read_to_select ps s ++ found_along x (do
      zs ← selectors d ps s
      bs ← stored_bounds x s
      axes_selected ps bs zs)
    array_cells_read (Unary o a) s = array_cells_read a s
    array_cells_read (Binary o a b) s = array_cells_read a s ++ array_cells_read b s
    array_cells_read (Apply f es) s = array_cells_read_by_each es s
    array_cells_read (Constructor es ls) s = cells_read_under ls (cells_read_by_each es) s
    array_cells_read (Spread a k e) s =
        read_by_one_way (is_scalar a s.bounds) (cells_read a s) (array_cells_read a s) ++ cells_read e s
    array_cells_read (Transpose a) s = array_cells_read a s
    array_cells_read (Reshape a es) s = array_cells_read a s ++ cells_read_by_each es s
    array_cells_read (Reduce r a) s = array_cells_read a s

    pub array_cells_read_by_each : Expressions → Store → List Cell
    array_cells_read_by_each no_expressions s = []
    array_cells_read_by_each (expression e es) s = array_cells_read e s ++ array_cells_read_by_each es s

    pub cells_read_to_select : Subscripts → Store → List Cell
    cells_read_to_select no_subscripts s = []
    cells_read_to_select (subscript p ps) s = cells_read_by_selector p s ++ cells_read_to_select ps s

    pub cells_read_by_selector : Subscript → Store → List Cell
    cells_read_by_selector (Only e) s = read_by_one_way (is_scalar e s.bounds) (cells_read e s) (array_cells_read e s)
    cells_read_by_selector (Section a b c) s = cells_read a s ++ (cells_read b s ++ cells_read c s)

    -- by f under the loops of a constructor
    pub cells_read_under : Loops → (Store → List Cell) → Store → List Cell
    cells_read_under no_loops f s = f s
    cells_read_under (loop x a b ls) f s =
        cells_read_under ls
        (λ t. cells_read a t ++ (cells_read b t
        ++ between (number_of d a t) (number_of d b t) (λ l u. for_numbers_read x l u f t)))
        s

-- Two stores in which the names of an expression have the same bounds, and the cells that it reads hold the same
-- values, give
-- it one value, or one fault
abbrev pub ValueComesFromCellsRead : Type 0
ValueComesFromCellsRead = (d : Dialect) (e : Expression) (s t : Store)
    → All (λ x. s.bounds x ≡ t.bounds x) (names_in e)
    → All (λ c. s.held c ≡ t.held c) (cells_read d e s)
    → value_of d e s ≡ value_of d e t

-- the same of arrays: their extents and each of their elements
abbrev pub ArrayComesFromCellsRead : Type 0
ArrayComesFromCellsRead = (d : Dialect) (e : Expression) (s t : Store)
    → All (λ x. s.bounds x ≡ t.bounds x) (names_in e)
    → All (λ c. s.held c ≡ t.held c) (array_cells_read d e s)
    → array_of d e s ≡ array_of d e t

-- an expression over a program's names has one value in stores that agree on the program
abbrev pub ValueComesFromNames : Type 0
ValueComesFromNames = (d : Dialect) (p : Program) (e : Expression) (s t : Store)
    → Agree p s t → All (Contains (names_of p)) (names_in e) → value_of d e s ≡ value_of d e t
