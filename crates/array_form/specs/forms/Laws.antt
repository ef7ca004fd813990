-- Laws of array forms.
use Rattle.std.specs.Prelude.{◌≡◌, ◌≢◌, Ok, Option, Some, None, ℕ, suc, ◌≤◌, ℤ, pos, true, false, if◌then◌else◌, List}
use Rattle.std.specs.Prelude.{[], map, length, Contains}
use Rattle.tree.specs.Plain.{Expression, Reference}
use Rattle.tree.specs.declared.ops.Value.{Value}
use Rattle.tree.specs.declared.stmts.Mark.{Mark}
use Rattle.meaning.specs.ArrayValues.{Elements, positions}
use Rattle.meaning.specs.Dialect.{Dialect, fortran90}
use Rattle.tree.specs.declared.width.Width.{Width}
use Rattle.meaning.specs.Reads.{names_in}
use Rattle.meaning.specs.Run.{State, Going, does_all}
use Rattle.meaning.specs.Store.{Store, Cell}
use Rattle.meaning.specs.Value.{value_of, array_of}
use Rattle.linear_forms.specs.Laws.{AreSized}
use Rattle.linear_forms.specs.Linear.{HaveValues, is_limited}
use Rattle.array_form.specs.forms.Following.{has_no_loop, are_moved, is_regular}
use Rattle.array_form.specs.forms.Forms.{form}
use Rattle.array_form.specs.forms.Instances.{at_iterations, count_of, counts_of, in_sequence, instance_at, instances_of}
use Rattle.array_form.specs.forms.Loops.{FormLoop, FormSurroundings, form_variables_of, form_names_of, loops_among}
use Rattle.array_form.specs.forms.Trips.{AreDistinct}
use Rattle.array_form.specs.forms.Loops.{coefficient}
use Rattle.array_form.specs.forms.Statements.{loops_from, unguarded_hold, loops_assigned, array_form_of}
use Rattle.meaning_laws.specs.arrays.Instances.{Instance, in_turn, NoneReadsWritten}

-- The trip of a loop is a linear form over the names, maybe divided, and is at most what a loop can count
pub record HasTrip (a : FormSurroundings) (xs : List ℤ) (l : FormLoop) : Type 0 where
  pub limits : is_limited (length a.loops) l.trip.form ≡ true
  pub short : length l.trip.form.coefficients ≤ length (form_names_of a)
  pub divisor : 1 ≤ l.trip.divisor
  pub most : count_of xs l ≤ 2147483646

-- and the loop turns at least once
pub record Turns (a : FormSurroundings) (xs : List ℤ) (l : FormLoop) : Type 0 where
  pub trip : HasTrip a xs l
  pub open trip use *
  pub least : 1 ≤ count_of xs l

-- In the store s the loop variables and symbols, no two of one name, are INTEGER scalars that hold the numbers xs
pub record AreKnown (a : FormSurroundings) (s : Store) (xs : List ℤ) : Type 0 where
  pub few : length a.loops ≤ 7
  pub distinct : AreDistinct (form_names_of a)
  pub values : HaveValues (form_names_of a) s xs
  pub sized : AreSized xs

-- D are some of the loops, each of them once; each of them turns, and no trip has the variable of another one
pub record AreTurning (a : FormSurroundings) (D : List FormLoop) (xs : List ℤ) : Type 0 where
  pub loops : (l : FormLoop) → Contains D l → Contains a.loops l
  pub once : AreDistinct (form_variables_of D)
  pub turns : (l : FormLoop) → Contains D l → Turns a xs l
  pub apart : (l m : FormLoop) → Contains D l → Contains D m → l.variable ≢ m.variable
      → coefficient (form_names_of a) m.variable l.trip.form.coefficients ≡ pos 0

-- the store of the instance that has a position, where positions count from 0 and iterations from 1
abbrev pub store_at : List FormLoop → List ℕ → Store → Store
store_at D is s = at_iterations D (map suc is) s

-- without fault in each instance
abbrev pub HasValues : Dialect → List ℤ → List FormLoop → Expression → Store → Type 0
HasValues lang xs D e s = (is : List ℕ) → Contains (positions (counts_of xs D)) is
    → (v : Value) × (value_of lang e (store_at D is s) ≡ Ok v)

-- F is a scalar, or an array with an element for each instance, and has at each position the value that e has in the
-- instance of the position
pub record HasInstanceValues (lang : Dialect) (xs : List ℤ) (D : List FormLoop) (e F : Expression)
    (s : Store) : Type 0 where
  pub array : Elements Value
  pub known : array_of lang F s ≡ Ok array
  pub extents : array.extents ≡ (if has_no_loop (loops_among D (names_in e)) then [] else counts_of xs D)
  pub at : (is : List ℕ) → Contains (positions (counts_of xs D)) is
      → array.at is ≡ value_of lang e (store_at D is s)

-- The form of a regular expression has the values that the expression has in the instances, without fault where these
-- meet none
abbrev pub FormHasInstanceValues : Type 0
FormHasInstanceValues =
    (lang : Dialect) (a : FormSurroundings) (D : List FormLoop) (e : Expression) (s : Store) (xs : List ℤ)
    → 31 ≤ lang.bits → AreKnown a s xs → AreTurning a D xs → is_regular a D e ≡ true → HasValues lang xs D e s
    → HasInstanceValues lang xs D e (form a D e) s

-- the instances of an assignment, by the iterations of the loops from the level k on
abbrev pub instances_from : Dialect → FormSurroundings → ℕ → List ℤ → Reference → Expression → List Instance
instances_from d a k xs left right = instances_of d (loops_from a k) (counts_of xs (loops_from a k)) left right

-- instances that store in one cell have the same iterations
abbrev pub OwnCells : Dialect → FormSurroundings → ℕ → List ℤ → Reference → Expression → Store → Type 0
OwnCells lang a k xs left right s = (is js : List ℕ) (c : Cell) (v w : Value)
    → Contains (in_sequence (counts_of xs (loops_from a k))) is
    → Contains (in_sequence (counts_of xs (loops_from a k))) js
    → (instance_at lang (loops_from a k) left right is).effect s ≡ Ok (Some (c, v))
    → (instance_at lang (loops_from a k) left right js).effect s ≡ Ok (Some (c, w)) → is ≡ js

-- Where no loop from the level k on forbids the array form of an assignment, and its instances meet no fault one after
-- another, none of them reading a cell that an earlier one has written, different instances store in different cells
abbrev pub InstancesHaveOwnCells : Type 0
InstancesHaveOwnCells = (lang : Dialect) (a : FormSurroundings) (k : ℕ) (left : Reference) (right : Expression)
    (s t : Store) (xs : List ℤ)
    → 31 ≤ lang.bits → AreKnown a s xs → ((l : FormLoop) → Contains (loops_from a k) l → HasTrip a xs l)
    → has_no_loop (loops_from a k) ≡ false → unguarded_hold a k left ≡ None
    → are_moved a (loops_assigned a k left) left.subscripts ≡ true
    → NoneReadsWritten [] (instances_from lang a k xs left right) s
    → in_turn (instances_from lang a k xs left right) s ≡ Ok t → OwnCells lang a k xs left right s

-- Let no loop from the level k on forbid the array form of an assignment with a regular right side. Where its
-- instances, one after another in the order of a sequential run, take the store of a run that goes on to the store t
-- without fault, none of them reading a cell that an earlier one has written, the array form ends without fault in t,
-- and the run goes on
abbrev pub ArrayFormStoresInstances : (width : Width) → Type 0
ArrayFormStoresInstances width = (a : FormSurroundings) (k line : ℕ) (mark : Option Mark) (left : Reference)
    (right : Expression)
    (s : State) (t : Store) (xs : List ℤ)
    → s.way ≡ Going → AreKnown a s.store xs → ((l : FormLoop) → Contains (loops_from a k) l → HasTrip a xs l)
    → has_no_loop (loops_from a k) ≡ false → unguarded_hold a k left ≡ None
    → are_moved a (loops_assigned a k left) left.subscripts ≡ true
    → is_regular a (loops_assigned a k left) right ≡ true
    → NoneReadsWritten [] (instances_from (fortran90 width) a k xs left right) s.store
    → in_turn (instances_from (fortran90 width) a k xs left right) s.store ≡ Ok t
    → (n : ℕ)
    × (does_all (fortran90 width) None
    (array_form_of a k line mark None left right) s ≡ record s { store = t; steps = n })
