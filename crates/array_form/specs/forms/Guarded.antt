-- Array forms of assignments under a guard (ISO/IEC 1539:1991, section 7.5.3).
use Rattle.std.specs.Prelude.{◌≡◌, ◌≤◌, ⊤, Result, Ok, Option, Some, None, ℕ, ℤ, Bool, true, false, List, [], map, ◌++◌}
use Rattle.std.specs.Prelude.{Contains}
use Rattle.tree.specs.Plain.{Expression, Named, Unary, Binary, Apply, Reduce}
use Rattle.tree.specs.Plain.{Expressions, no_expressions, expression, Reference}
use Rattle.tree.specs.Steps.{◌>>=◌}
use Rattle.tree.specs.declared.ops.Fault.{Fault}
use Rattle.tree.specs.declared.ops.Value.{Value}
use Rattle.tree.specs.declared.stmts.Mark.{Mark}
use Rattle.meaning.specs.ArrayStatements.{storable}
use Rattle.meaning.specs.Dialect.{Dialect, fortran90}
use Rattle.tree.specs.declared.width.Width.{Width}
use Rattle.meaning.specs.CellsRead.{cells_read, cells_read_by}
use Rattle.meaning.specs.Run.{State, Going, does_all}
use Rattle.meaning.specs.Store.{Store, Cell}
use Rattle.meaning.specs.Value.{value_of, cell_named, named}
use Rattle.meaning_laws.specs.arrays.Instances.{Instance, in_turn, NoneReadsWritten}
use Rattle.nest_order.specs.runs.Guarded.{guard_holds, read_by_guard}
use Rattle.array_form.specs.forms.Following.{has_no_loop, are_moved, is_regular}
use Rattle.array_form.specs.forms.Forms.{form}
use Rattle.array_form.specs.forms.Instances.{at_iterations, counts_of, in_sequence}
use Rattle.array_form.specs.forms.Laws.{AreKnown, AreTurning, HasTrip, HasValues, HasInstanceValues}
use Rattle.array_form.specs.forms.Loops.{FormLoop, FormSurroundings}
use Rattle.array_form.specs.forms.Statements.{loops_from, unguarded_hold, stand_in_guard, loops_assigned, array_form_of}

-- ---- instances under a guard

abbrev pub stored_if : Dialect → Bool → Reference → Expression → Store → Result (Option (Cell × Value)) Fault
stored_if d false left right s = Ok None
stored_if d true left right s = do
  v ← value_of d right s
  c ← cell_named d left s
  w ← storable d v
  Ok (Some (c, w))

-- one instance: where the guard, if there is one, is true, the right side's value is stored in the cell of the left
-- side
abbrev pub guarded_at : Dialect → List FormLoop → Option Expression → Reference → Expression → List ℕ → Instance
guarded_at d ls guard left right is = record {
  effect = λ s. (do
    b ← guard_holds d guard (at_iterations ls is s)
    stored_if d b left right (at_iterations ls is s));
  reads = λ s. read_by_guard d guard (at_iterations ls is s)
      ++ (cells_read d right (at_iterations ls is s) ++ cells_read_by d left.subscripts (at_iterations ls is s));
}

abbrev pub guarded_of : Dialect → List FormLoop → List ℕ → Option Expression → Reference → Expression → List Instance
guarded_of d ls ns guard left right = map (guarded_at d ls guard left right) (in_sequence ns)

abbrev pub guarded_from : Dialect → FormSurroundings → ℕ → List ℤ → Option Expression → Reference → Expression
    → List Instance
guarded_from d a k xs guard left right =
    guarded_of d (loops_from a k) (counts_of xs (loops_from a k)) guard left right

-- ---- what is looked at although the guard is false: subscripts, so the references name cells in each instance

module _ (lang : Dialect) (xs : List ℤ) (D : List FormLoop) where
  abbrev mutual
    pub ReferencesHaveValues : Expression → Store → Type 0
    ReferencesHaveValues (Named x ps) s = HasValues lang xs D (Named x ps) s
    ReferencesHaveValues (Unary o e) s = ReferencesHaveValues e s
    ReferencesHaveValues (Binary o e f) s = ReferencesHaveValues e s × ReferencesHaveValues f s
    ReferencesHaveValues (Apply f es) s = EachHasValues es s
    ReferencesHaveValues (Reduce r e) s = HasValues lang xs D (Reduce r e) s
    ReferencesHaveValues _ s = ⊤

    pub EachHasValues : Expressions → Store → Type 0
    EachHasValues no_expressions s = ⊤
    EachHasValues (expression e es) s = ReferencesHaveValues e s × EachHasValues es s

-- the left side and the references of the right side have values in each instance, whatever the guard is there
pub record NameCells (lang : Dialect) (xs : List ℤ) (D : List FormLoop) (left : Reference) (right : Expression)
    (s : Store) : Type 0 where
  pub left_cells : HasValues lang xs D (named left) s
  pub right_cells : ReferencesHaveValues lang xs D right s

abbrev pub is_regular_guard : FormSurroundings → List FormLoop → Option Expression → Bool
is_regular_guard a D None = true
is_regular_guard a D (Some e) = is_regular a D e

-- ---- laws

-- The form of a regular expression whose references have values in all instances has at each position the value, or the
-- fault, that the expression has in the instance of the position
abbrev pub FormHasValuesOrFaults : Type 0
FormHasValuesOrFaults =
    (lang : Dialect) (a : FormSurroundings) (D : List FormLoop) (e : Expression) (s : Store) (xs : List ℤ)
    → 31 ≤ lang.bits → AreKnown a s xs → AreTurning a D xs → is_regular a D e ≡ true
    → ReferencesHaveValues lang xs D e s → HasInstanceValues lang xs D e (form a D e) s

-- Let no loop from the level k on forbid the array form of an assignment, maybe under a guard, let guard and right side
-- be regular, and where one of the loops stands in the guard, let the references name cells in all instances, whatever
-- the guard is there. Where its instances, one after another in the order of a sequential run, take the store of a run
-- that goes on to the store t without fault, none of them reading a cell that an earlier one has written, the array
-- form ends without fault in t, and the run goes on
abbrev pub GuardedFormStoresInstances : (width : Width) → Type 0
GuardedFormStoresInstances width =
    (a : FormSurroundings) (k line : ℕ) (mark : Option Mark) (guard : Option Expression) (left : Reference)
    (right : Expression) (s : State) (t : Store) (xs : List ℤ)
    → s.way ≡ Going → AreKnown a s.store xs → ((l : FormLoop) → Contains (loops_from a k) l → HasTrip a xs l)
    → has_no_loop (loops_from a k) ≡ false → unguarded_hold a k left ≡ None
    → are_moved a (loops_assigned a k left) left.subscripts ≡ true
    → is_regular_guard a (loops_assigned a k left) guard ≡ true → is_regular a (loops_assigned a k left) right ≡ true
    → (stand_in_guard (loops_from a k) guard ≡ true
    → NameCells (fortran90 width) xs (loops_assigned a k left) left right s.store)
    → NoneReadsWritten [] (guarded_from (fortran90 width) a k xs guard left right) s.store
    → in_turn (guarded_from (fortran90 width) a k xs guard left right) s.store ≡ Ok t
    → (n : ℕ)
    × (does_all (fortran90 width) None
    (array_form_of a k line mark guard left right) s ≡ record s { store = t; steps = n })
