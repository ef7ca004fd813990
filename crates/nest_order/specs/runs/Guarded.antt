-- Guarded assignments: what one stores, and which cells it reads.
use Rattle.std.specs.Prelude.{Result, Ok, Err, Option, Some, None, ℕ, pos, Bool, true, false, if◌then◌else◌}
use Rattle.tree.specs.Steps.{◌>>=◌}
use Rattle.std.specs.Prelude.{List, [], ◌∷◌, ◌++◌}
use Rattle.tree.specs.Plain.{Expression, Reference}
use Rattle.tree.specs.declared.ops.Fault.{Fault}
use Rattle.tree.specs.declared.ops.Fault.TheVariants.{Overflow}
use Rattle.tree.specs.declared.ops.Value.{Value}
use Rattle.meaning.specs.Dialect.{Dialect}
use Rattle.meaning.specs.Reads.{names_in, names_in_subscripts}
use Rattle.meaning.specs.CellsRead.{cells_read, cells_read_by}
use Rattle.meaning.specs.Store.{Store, Cell}
use Rattle.meaning.specs.Value.{value_of, truth_of, cell_named, is_in_range, bound_to}

-- an assignment that is done where the guard, if there is one, is true
pub record GuardedAssignment : Type 0 where
  pub guard : Option Expression
  pub left : Reference
  pub right : Expression

abbrev pub dialect : ℕ → Bool → Dialect
dialect bits arrays = record { bits = bits; arrays = arrays }

-- without arrays as values, as a program of FORTRAN 77 is run, and a nest that was made of one
abbrev pub sequential : ℕ → Dialect
sequential bits = dialect bits false

abbrev pub variable_cell : List ℕ → Cell
variable_cell x = record { name = x; subscripts = [] }

-- the variables of loops hold these iterations
abbrev pub at_iterations : List (List ℕ) → List ℕ → Store → Store
at_iterations (x ∷ xs) (i ∷ is) s = at_iterations xs is (bound_to x (pos i) s)
at_iterations _ _ s = s

abbrev pub names_of_guard : Option Expression → List (List ℕ)
names_of_guard None = []
names_of_guard (Some e) = names_in e

abbrev pub names_of : GuardedAssignment → List (List ℕ)
names_of g = names_of_guard g.guard ++ (names_in g.right ++ (g.left.name ∷ names_in_subscripts g.left.subscripts))

module _ (lang : Dialect) where
  abbrev pub guard_holds : Option Expression → Store → Result Bool Fault
  guard_holds None s = Ok true
  guard_holds (Some e) s = truth_of lang e s

  abbrev pub assigned_if : Bool → Reference → Expression → Store → Result (Option (Cell × Value)) Fault
  assigned_if false left right s = Ok None
  assigned_if true left right s = do
    v ← value_of lang right s
    c ← cell_named lang left s
    if is_in_range lang.bits v then Ok (Some (c, v)) else Err Overflow

  -- what it stores, and in which cell: nothing where its guard is false
  abbrev pub effect : GuardedAssignment → Store → Result (Option (Cell × Value)) Fault
  effect g s = do
    b ← guard_holds g.guard s
    assigned_if b g.left g.right s

  abbrev pub read_by_guard : Option Expression → Store → List Cell
  read_by_guard None s = []
  read_by_guard (Some e) s = cells_read lang e s

  -- the cells that it may read: those of its guard, of the right side and of the left subscripts
  abbrev pub reads : GuardedAssignment → Store → List Cell
  reads g s = read_by_guard g.guard s ++ (cells_read lang g.right s ++ cells_read_by lang g.left.subscripts s)
