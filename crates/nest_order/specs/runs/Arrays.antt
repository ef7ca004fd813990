-- What changes for a nest where there are arrays as values: nothing, but for faults of expressions that are none of
-- FORTRAN 77.
use Rattle.std.specs.Prelude.{◌≡◌, Ok, ℕ, Bool, List, ◌++◌, map}
use Rattle.tree.specs.Plain.{Expression, Reference, Subscripts}
use Rattle.tree.specs.declared.ops.Value.{Value}
use Rattle.meaning.specs.CellsRead.{cells_read, cells_read_by}
use Rattle.meaning.specs.Store.{Store, Cell}
use Rattle.meaning.specs.Value.{value_of, cell_named}
use Rattle.nest_order.specs.runs.Guarded.{dialect, sequential, at_iterations}
use Rattle.nest_order.specs.runs.Nests.{RunNest, AreAt}
use Rattle.nest_order.specs.runs.Touched.{IsPlain, ArePlain}

-- what has a value without arrays has the same one with them, and a reference that names a cell names it
abbrev pub ValueIsKept : Type 0
ValueIsKept = (bits : ℕ) (arrays : Bool) (e : Expression) (s : Store) (v : Value)
    → value_of (sequential bits) e s ≡ Ok v → value_of (dialect bits arrays) e s ≡ Ok v

abbrev pub CellIsKept : Type 0
CellIsKept = (bits : ℕ) (arrays : Bool) (r : Reference) (s : Store) (c : Cell)
    → cell_named (sequential bits) r s ≡ Ok c → cell_named (dialect bits arrays) r s ≡ Ok c

-- expressions and subscripts of FORTRAN 77 read the same cells
abbrev pub SameCellsAreRead : Type 0
SameCellsAreRead = (bits : ℕ) (arrays : Bool) (e : Expression) (s : Store) → IsPlain e
    → cells_read (sequential bits) e s ≡ cells_read (dialect bits arrays) e s

abbrev pub SubscriptsReadSame : Type 0
SubscriptsReadSame = (bits : ℕ) (arrays : Bool) (ps : Subscripts) (s : Store) → ArePlain ps
    → cells_read_by (sequential bits) ps s ≡ cells_read_by (dialect bits arrays) ps s

-- Where the variables of the outer loops hold their iterations already, a store is put at an instance's iterations by
-- the inner loops alone
abbrev pub OuterIterationsHold : Type 0
OuterIterationsHold = (n : RunNest) (outer inner before is : List ℕ) (t : Store) → AreAt n outer before t
    → at_iterations (map n.variable_at (outer ++ inner)) (before ++ is) t
    ≡ at_iterations (map n.variable_at inner) is t
