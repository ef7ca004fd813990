-- When an array assignment stands for instances of a statement: the form in which a nest's loops become one statement.
use Rattle.std.specs.Prelude.{◌≡◌, Ok, Some, ℕ, List, [], Contains}
use Rattle.std.specs.List.{AllByRecursion}
use Rattle.tree.specs.Plain.{Expression, Reference}
use Rattle.tree.specs.declared.ops.Value.{Value}
use Rattle.meaning.specs.ArrayStatements.{axes_named, writes_of}
use Rattle.meaning.specs.ArrayValues.{positions}
use Rattle.meaning.specs.Dialect.{Dialect}
use Rattle.meaning.specs.Sections.{Axis, extents_of}
use Rattle.meaning.specs.Store.{Store, Cell}
use Rattle.meaning_laws.specs.arrays.Assignments.{element_assigned, shape_assigned}
use Rattle.meaning_laws.specs.arrays.Instances.{Instance, ComesFromReads, puts, in_turn, NoneReadsWritten}

-- In the store s each position of the left side stands for an instance, and each instance has a position: what is
-- stored there is what the instance stores
pub record StandsFor (d : Dialect) (mask : Expression) (left : Reference) (right : Expression) (axes : List Axis)
    (s : Store) (xs : List Instance) : Type 0 where
  pub instance_of : (is : List ℕ) → Contains (positions (extents_of axes)) is
      → (x : Instance) × Contains xs x × ((element_assigned d mask left right is).effect s ≡ x.effect s)
  pub position_of : (x : Instance) → Contains xs x
      → (is : List ℕ) × Contains (positions (extents_of axes)) is
      × ((element_assigned d mask left right is).effect s ≡ x.effect s)

-- in the store s no two of them store different values in one cell
abbrev pub StoreApart : Store → List Instance → Type 0
StoreApart s xs = (x y : Instance) (c : Cell) (v w : Value) → Contains xs x → Contains xs y
    → x.effect s ≡ Ok (Some (c, v)) → y.effect s ≡ Ok (Some (c, w)) → v ≡ w

-- Where instances, one after another in whatever order, take s to t without fault, none of them reading a cell that an
-- earlier one has written, an array assignment that stands for them and whose extents conform stores all at once,
-- without fault, and takes s to t
abbrev pub ArrayFormIsInstances : Type 0
ArrayFormIsInstances = (d : Dialect) (mask right : Expression) (left : Reference) (axes : List Axis) (ns : List ℕ)
    (xs : List Instance) (s t : Store)
    → axes_named d left s ≡ Ok axes → shape_assigned d mask left right s ≡ Ok ns
    → AllByRecursion ComesFromReads xs → NoneReadsWritten [] xs s → in_turn xs s ≡ Ok t
    → StandsFor d mask left right axes s xs → StoreApart s xs
    → (ws : List (Cell × Value)) × (writes_of d mask left right s ≡ Ok ws) × (puts ws s ≡ t)
