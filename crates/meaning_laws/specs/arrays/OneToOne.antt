-- Array assignments that give no cell two values: what a reference selects twice, by a vector subscript, may not be
-- assigned (ISO/IEC 1539:1991, section 6.2.2.3.2).
use Rattle.std.specs.Prelude.{◌≡◌, ◌≢◌, Ok, ℕ, ◌<◌, ℤ, pos, List, [], ◌∷◌, length, Contains}
use Rattle.tree.specs.Plain.{Expression, Reference}
use Rattle.tree.specs.declared.ops.Value.{Value}
use Rattle.meaning.specs.ArrayStatements.{axes_named, writes_of}
use Rattle.meaning.specs.ArrayValues.{positions}
use Rattle.meaning.specs.Dialect.{Dialect}
use Rattle.meaning.specs.Sections.{Axis, Fixed, Along, extents_of, steps_from}
use Rattle.meaning.specs.Store.{Store, Cell, numbers_from}
use Rattle.meaning_laws.specs.arrays.Elements.{number_at, cell_at_position}
use Rattle.meaning_laws.specs.arrays.Instances.{OneValueEach}

-- no number stands twice
abbrev pub AreDifferent : List ℤ → Type 0
AreDifferent zs = (i j : ℕ) → i < length zs → j < length zs → number_at zs i ≡ number_at zs j → i ≡ j

-- along each dimension
abbrev pub SelectOnce : List Axis → Type 0
SelectOnce [] = Unit {0}
SelectOnce (Fixed z ∷ axes) = SelectOnce axes
SelectOnce (Along zs ∷ axes) = AreDifferent zs × SelectOnce axes

-- the numbers of a triplet are different, and so are all numbers of a dimension
abbrev pub TripletSelectsOnce : Type 0
TripletSelectsOnce = (first stride : ℤ) (n : ℕ) → stride ≢ pos 0 → AreDifferent (steps_from first stride n)

abbrev pub DimensionSelectsOnce : Type 0
DimensionSelectsOnce = (first : ℤ) (n : ℕ) → AreDifferent (numbers_from first n)

-- different positions have different cells
abbrev pub PositionsAreOneToOne : Type 0
PositionsAreOneToOne = (x : List ℕ) (axes : List Axis) (is js : List ℕ) → SelectOnce axes
    → Contains (positions (extents_of axes)) is → Contains (positions (extents_of axes)) js
    → cell_at_position x axes is ≡ cell_at_position x axes js → is ≡ js

-- so an array assignment gives no cell two values
abbrev pub NoCellTwice : Type 0
NoCellTwice = (d : Dialect) (mask right : Expression) (left : Reference) (axes : List Axis) (s : Store)
    (ws : List (Cell × Value))
    → SelectOnce axes → axes_named d left s ≡ Ok axes → writes_of d mask left right s ≡ Ok ws → OneValueEach ws
