-- An array assignment, and WHERE, as assignments to single elements (ISO/IEC 1539:1991, section 7.5).
use Rattle.std.specs.Prelude.{◌≡◌, Result, Ok, Option, Some, None, ℕ, ◌+◌, Bool, true, false, List, [], ◌++◌}
use Rattle.std.specs.Prelude.{map, length}
use Rattle.tree.specs.Operators.{as_truth}
use Rattle.tree.specs.Plain.{Expression, Logic, Reference, Assignment, Where}
use Rattle.tree.specs.Steps.{◌>>=◌}
use Rattle.tree.specs.declared.ops.Fault.{Fault}
use Rattle.tree.specs.declared.ops.Value.{Value}
use Rattle.tree.specs.declared.stmts.Mark.{Mark}
use Rattle.meaning.specs.ArrayStatements.{axes_named, storable, writes_of}
use Rattle.meaning.specs.ArrayValues.{each, positions, conform}
use Rattle.meaning.specs.Dialect.{Dialect}
use Rattle.meaning.specs.CellsRead.{cells_read_to_select}
use Rattle.meaning.specs.Run.{State, Going, array_assigns, does}
use Rattle.meaning.specs.Sections.{Axis, extents_of}
use Rattle.meaning.specs.Store.{Store, Cell}
use Rattle.meaning.specs.Value.{array_of, is_array, named}
use Rattle.meaning_laws.specs.arrays.Elements.{cell_at_position, element_of, cells_read_at}
use Rattle.meaning_laws.specs.arrays.Instances.{Instance, puts, writes_in, in_turn, NoneReadsWritten, AreApart}

module _ (d : Dialect) where
  -- the cell of the left side at a position
  abbrev pub cell_selected : Reference → List ℕ → Store → Result Cell Fault
  cell_selected left is s = do
    axes ← axes_named d left s
    Ok (cell_at_position left.name axes is)

  abbrev pub assigned_if : Bool → Reference → Expression → List ℕ → Store → Result (Option (Cell × Value)) Fault
  assigned_if false left right is s = Ok None
  assigned_if true left right is s = do
    c ← cell_selected left is s
    x ← element_of d right is s
    v ← storable d x
    Ok (Some (c, v))

  -- The assignment to one element: where the mask is true at the position, the right side's element there is stored in
  -- the left side's cell there
  abbrev pub element_assigned : Expression → Reference → Expression → List ℕ → Instance
  element_assigned mask left right is = record {
    effect = λ s. (do
      x ← element_of d mask is s
      b ← as_truth x
      assigned_if b left right is s);
    reads = λ s. cells_read_at d mask is s ++ (cells_read_to_select d left.subscripts s ++ cells_read_at d right is s);
  }

  -- at each position of the left side, in column-major order
  abbrev pub elements_assigned : Expression → Reference → Expression → List Axis → List Instance
  elements_assigned mask left right axes = map (element_assigned mask left right) (positions (extents_of axes))

  -- The extents of mask, left side and right side, which have to conform. Whatever is evaluated in whole is evaluated
  -- here: subscripts, bounds of sections, constructors and the arguments of array functions
  abbrev pub shape_assigned : Expression → Reference → Expression → Store → Result (List ℕ) Fault
  shape_assigned mask left right s = do
    m ← array_of d mask s
    axes ← axes_named d left s
    ns ← conform m.extents (extents_of axes)
    g ← array_of d right s
    conform ns g.extents

-- What an array assignment stores is what its elements store, all of them looked at in the store before it
abbrev pub WritesAreEffects : Type 0
WritesAreEffects = (d : Dialect) (mask right : Expression) (left : Reference) (axes : List Axis) (s : Store)
    (ws : List (Cell × Value))
    → axes_named d left s ≡ Ok axes → writes_of d mask left right s ≡ Ok ws
    → (effects : List (Option (Cell × Value)))
    × (each (λ (i : Instance). i.effect s) (elements_assigned d mask left right axes) ≡ Ok effects)
    × (writes_in effects ≡ ws)

-- and where its extents conform and none of these meets a fault, it meets none
abbrev pub EffectsAreWrites : Type 0
EffectsAreWrites = (d : Dialect) (mask right : Expression) (left : Reference) (axes : List Axis) (ns : List ℕ)
    (s : Store) (effects : List (Option (Cell × Value)))
    → axes_named d left s ≡ Ok axes → shape_assigned d mask left right s ≡ Ok ns
    → each (λ (i : Instance). i.effect s) (elements_assigned d mask left right axes) ≡ Ok effects
    → writes_of d mask left right s ≡ Ok (writes_in effects)

-- What an array assignment stores is what its elements store one by one, each by what it finds in the store that those
-- before it have left, where no element reads the cell of an earlier one
abbrev pub ArrayAssignmentInTurn : Type 0
ArrayAssignmentInTurn = (d : Dialect) (mask right : Expression) (left : Reference) (axes : List Axis) (s : Store)
    (ws : List (Cell × Value))
    → axes_named d left s ≡ Ok axes → AreApart s (elements_assigned d mask left right axes)
    → writes_of d mask left right s ≡ Ok ws
    → in_turn (elements_assigned d mask left right axes) s ≡ Ok (puts ws s)

-- And the other way round: where its extents conform, and its elements meet no fault one by one, of which none reads a
-- cell that an earlier one has written, the array assignment meets no fault, and leaves the store that they leave
abbrev pub ElementsInTurnAtOnce : Type 0
ElementsInTurnAtOnce = (d : Dialect) (mask right : Expression) (left : Reference) (axes : List Axis) (ns : List ℕ)
    (s t : Store)
    → axes_named d left s ≡ Ok axes → shape_assigned d mask left right s ≡ Ok ns
    → NoneReadsWritten [] (elements_assigned d mask left right axes) s
    → in_turn (elements_assigned d mask left right axes) s ≡ Ok t
    → (ws : List (Cell × Value)) × (writes_of d mask left right s ≡ Ok ws) × (puts ws s ≡ t)

-- A run that goes on stores these values, and counts a step for each of them
abbrev pub ArrayAssignmentStores : Type 0
ArrayAssignmentStores = (d : Dialect) (line : ℕ) (mask right : Expression) (left : Reference) (s : State)
    (ws : List (Cell × Value))
    → s.way ≡ Going → writes_of d mask left right s.store ≡ Ok ws
    → array_assigns d None line mask left right s
    ≡ record s { store = puts ws s.store; steps = s.steps + length ws }

-- and one more as the statement begins
abbrev pub ArrayStatementStores : Type 0
ArrayStatementStores = (d : Dialect) (line : ℕ) (mark : Option Mark) (right : Expression) (left : Reference) (s : State)
    (ws : List (Cell × Value))
    → s.way ≡ Going → is_array d (named left) s.store ≡ true → writes_of d (Logic true) left right s.store ≡ Ok ws
    → does d None (Assignment line mark left right) s
    ≡ record s { store = puts ws s.store; steps = s.steps + 1 + length ws }

abbrev pub WhereStores : Type 0
WhereStores = (d : Dialect) (line : ℕ) (mark : Option Mark) (mask right : Expression) (left : Reference) (s : State)
    (ws : List (Cell × Value))
    → s.way ≡ Going → d.arrays ≡ true → writes_of d mask left right s.store ≡ Ok ws
    → does d None (Where line mark mask left right) s
    ≡ record s { store = puts ws s.store; steps = s.steps + 1 + length ws }
