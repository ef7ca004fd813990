-- What statements do (ANSI X3.9-1978, sections 10, 11 and 12; ISO/IEC 1539:1991, sections 6.3 and 7.5): the run of a
-- program.
use Rattle.std.specs.Prelude.{Result, Ok, Err, Option, Some, None, ℕ, zero, suc, ◌+◌, ℤ, ◌+ℤ◌, nat_lt, ◌==◌, Bool, true}
use Rattle.std.specs.Prelude.{false, List, [], ◌∷◌, ◌++◌}
use Rattle.tree.specs.Operators.{as_number}
use Rattle.tree.specs.Steps as results
use Rattle.tree.specs.Plain.{Expression, Logic, Named, Reference, Item, Single, Constant, ImpliedDo}
use Rattle.tree.specs.Plain.{Items, no_items, item, Statement, Assignment, Where, If, Do, Label, GoTo, Stop, Read}
use Rattle.tree.specs.Plain.{Print, Allocate, Deallocate, Arms, no_arms, arm, Block, no_statements, statement, Program}
use Rattle.tree.specs.declared.ops.Value.{Value}
use Rattle.tree.specs.declared.ops.Value.TheVariants.{Int}
use Rattle.tree.specs.declared.ops.Fault.{Fault}
use Rattle.tree.specs.declared.ops.Fault.TheVariants.{Overflow, InputEnd}
use Rattle.meaning.specs.Store.{Store, Cell, put, cell_at, stored_bounds, with_bounds, allocated, opening_store}
use Rattle.meaning.specs.Value.{value_of, number_of, truth_of, cell_named, item_cells, item_values, is_array, named}
use Rattle.meaning.specs.Value.{is_in_range, increment_of, exact, trip_count}
use Rattle.meaning.specs.Dialect.{Dialect}
use Rattle.meaning.specs.ArrayStatements.{writes_of, allocated_bounds}
use Rattle.meaning.specs.Texts.{output_text, from_value, first_word, after_word, after_line, without_cr, read_value}

-- How a run goes on, or has left off: it jumps to a label, has reached STOP, has met a fault at a line, or was cut
-- where the limit
-- of steps was reached
pub data Way : Type 0 where
  Going : Way
  Jumping : ℕ → Way
  Stopped : Way
  Failed : Fault → ℕ → Way
  Cut : Way

-- A moment of a run: the store, all bytes written so far, the input from the place in it on, whether the present READ
-- has had
-- a value, the steps so far, and the way
pub record State : Type 0 where
  pub store : Store
  pub written : List ℕ
  pub input : List ℕ
  pub had_value : Bool
  pub steps : ℕ
  pub way : Way

-- what is done takes one moment to another
abbrev pub Act : Type 0
Act = State → State

-- ---- how acts are put together

-- in a `do` block a line has all lines after it as its last argument
infixl 10 ◌>>=◌
abbrev pub ◌>>=◌ : {A : Type 0} → ((A → Act) → Act) → (A → Act) → Act
m >>= k = m k

infixl 10 ◌>>◌
abbrev pub ◌>>◌ : (Act → Act) → Act → Act
m >> k = m k

abbrev pub nothing : Act
nothing s = s

-- one after the other
abbrev pub then : Act → Act → Act
then f g s = g (f s)

abbrev pub either : Bool → Act → Act → Act
either true f g = f
either false f g = g

-- n times
abbrev pub repeated : ℕ → Act → Act
repeated zero f s = s
repeated (suc n) f s = repeated n f (f s)

-- f for each in turn
abbrev pub for_each : {A : Type 0} → List A → (A → Act) → Act
for_each [] f s = s
for_each (x ∷ xs) f s = for_each xs f (f x s)

-- the run goes on so from here
abbrev pub goes : Way → Act
goes w s = record s { way = w }

abbrev pub on_way : Way → Act → Act
on_way Going k = k
on_way w k = nothing

-- only while the run is going, neither jumping nor ended
unfoldable pub while_going : Act → Act
while_going k s = on_way s.way k s

abbrev pub answered : {A : Type 0} → ℕ → Result A Fault → (A → Act) → Act
answered line (Ok x) k = k x
answered line (Err fault) k = goes (Failed fault line)

-- what a question about the store gives; its fault ends the run, at this line
unfoldable pub evaluates : {A : Type 0} → ℕ → (Store → Result A Fault) → (A → Act) → Act
evaluates line f k = while_going λ s. answered line (f s.store) k s

-- the array x has bounds from now on, and its elements are 0 or `.FALSE.`
unfoldable pub allocates : List ℕ → List (ℤ × ℤ) → Act
allocates x bs = while_going λ s. record s { store = allocated x bs s.store }

unfoldable pub deallocates : List ℕ → Act
deallocates x = while_going λ s. record s { store = with_bounds x None s.store }

-- the bytes go to the output
unfoldable pub writes : List ℕ → Act
writes t = while_going λ s. record s { written = s.written ++ t }

-- the cell holds the value from now on
unfoldable pub stores : Cell → Value → Act
stores c v = while_going λ s. record s { store = put c v s.store }

-- ---- the input of READ (section 12.3)

abbrev pub is_empty : List ℕ → Bool
is_empty [] = true
is_empty (c ∷ cs) = false

-- a READ begins at a line of the input, which has to be there
unfoldable pub begins_line : ℕ → Act
begins_line line =
    while_going λ s. either (is_empty s.input) (goes (Failed InputEnd line)) (λ t. record t { had_value = false }) s

-- the next word of the input
unfoldable pub takes_word : ℕ → (List ℕ → Act) → Act
takes_word line k =
    while_going λ s. answered line (from_value s.had_value s.input)
    (λ rest t. k (first_word rest) (record t { input = after_word rest; had_value = true }))
    s

-- the rest of the line is passed over
unfoldable pub skips_line : Act
skips_line = while_going λ s. record s { input = after_line s.input }

-- ---- statements

abbrev pub is_allowed : Option ℕ → ℕ → Bool
is_allowed None n = true
is_allowed (Some limit) n = nat_lt n limit

-- an output list has a blank before it where it begins with a constant, or is empty
abbrev pub first_blank : Items → List ℕ
first_blank no_items = 32 ∷ []
first_blank (item (Constant t) is) = 32 ∷ []
first_blank _ = []

abbrev pub arrives : ℕ → Way → Bool
arrives n (Jumping m) = m == n
arrives n _ = false

-- the first moment of a run
abbrev pub opening_state : Program → List ℕ → State
opening_state p input = record {
  store = opening_store p;
  written = [];
  input = without_cr input;
  had_value = false;
  steps = 0;
  way = Going;
}

-- the run is cut before a step beyond the limit, if there is one
module _ (d : Dialect) (limit : Option ℕ) where
  unfoldable pub counts_step : Act → Act
  counts_step k =
      while_going λ s. either (is_allowed limit s.steps) (λ t. k (record t { steps = t.steps + 1 })) (goes Cut) s

  -- a number outside the range of INTEGER can't be stored
  unfoldable pub checks_range : ℕ → Value → Act → Act
  checks_range line v k = while_going (either (is_in_range d.bits v) k (goes (Failed Overflow line)))

  -- ---- assignments (section 10): the right side, the left subscripts, the bounds, the range, the store

  abbrev pub assigns : ℕ → Reference → Expression → Act
  assigns line left right = do
    v ← evaluates line (value_of d right)
    c ← evaluates line (cell_named d left)
    checks_range line v
    counts_step
    stores c v

  -- ---- array assignments and WHERE: all is evaluated before the first element is stored

  abbrev pub stores_element : Cell × Value → Act
  stores_element w = do
    counts_step
    stores w.0 w.1

  abbrev pub array_assigns : ℕ → Expression → Reference → Expression → Act
  array_assigns line mask left right = do
    ws ← evaluates line (writes_of d mask left right)
    for_each ws stores_element

  -- ---- DO and implied DO (section 11.10)

  abbrev pub sets_variable : ℕ → List ℕ → ℤ → Act
  sets_variable line x z = do
    c ← evaluates line (cell_at x [])
    checks_range line (Int z)
    stores c (Int z)

  abbrev pub increases : ℕ → List ℕ → ℤ → Act
  increases line x m3 = do
    c ← evaluates line (cell_at x [])
    z ← evaluates line (λ s. results.◌>>=◌ (as_number (s.held c)) λ z. exact (z +ℤ m3))
    sets_variable line x z

  -- one turn of a loop; the variable keeps its value where the body jumps out of the loop or stops
  abbrev pub turn : ℕ → List ℕ → ℤ → Act → Act
  turn line x m3 body = do
    counts_step
    then body (increases line x m3)

  -- the parameters are evaluated, the variable gets its first value, and the trip count is fixed before the first turn
  abbrev pub loops : ℕ → List ℕ → Expression → Expression → Expression → Act → Act
  loops line x first last step body = do
    m1 ← evaluates line (number_of d first)
    m2 ← evaluates line (number_of d last)
    m3 ← evaluates line (increment_of d step)
    then (sets_variable line x m1) (do
      n ← evaluates line (λ s. trip_count m1 m2 m3)
      repeated n (turn line x m3 body))

  -- ---- READ: each item is stored before the next one is looked at

  abbrev pub reads_into : ℕ → Cell → Act
  reads_into line c = do
    w ← takes_word line
    v ← evaluates line (λ s. read_value (s.held c) w)
    checks_range line v
    counts_step
    stores c v

  abbrev mutual
    pub reads_item : Item → ℕ → Act
    reads_item (Single (Named x ps)) line = do
      cs ← evaluates line (item_cells d x ps)
      for_each cs (reads_into line)
    reads_item (ImpliedDo is x first last step) line = loops line x first last step (reads_items is line)
    reads_item _ line = nothing

    pub reads_items : Items → ℕ → Act
    reads_items no_items line = nothing
    reads_items (item i is) line = then (reads_item i line) (reads_items is line)

  -- ---- PRINT: a text is written as soon as it is known

  abbrev mutual
    pub prints_item : Item → ℕ → Act
    prints_item (Single e) line = do
      vs ← evaluates line (item_values d e)
      writes (output_text vs)
    prints_item (Constant t) line = writes t
    prints_item (ImpliedDo is x first last step) line = loops line x first last step (prints_items is line)

    pub prints_items : Items → ℕ → Act
    prints_items no_items line = nothing
    prints_items (item i is) line = then (prints_item i line) (prints_items is line)

  -- ---- each statement, an IF, a block

  abbrev mutual
    pub does : Statement → Act
    does (Assignment line mark left right) = do
      counts_step
      λ s. either (is_array d (named left) s.store)
          (array_assigns line (Logic true) left right)
          (assigns line left right)
          s
    does (Where line mark mask left right) = either d.arrays (do
      counts_step
      array_assigns line mask left right) nothing
    does (If line arms other) = chooses line arms (does_all other)
    does (Do line x first last step body) = loops line x first last step (does_all body)
    does (Label n) = λ s. either (arrives n s.way) (goes Going) nothing s
    does (GoTo line n) = do
      counts_step
      goes (Jumping n)
    does (Stop line) = do
      counts_step
      goes Stopped
    does (Read line is) = do
      counts_step
      then (begins_line line) (then (reads_items is line) skips_line)
    does (Print line is) = do
      counts_step
      then (writes (first_blank is)) (then (prints_items is line) (writes (10 ∷ [])))
    does (Allocate line x es) = either d.arrays (do
      counts_step
      bs ← evaluates line (allocated_bounds d x es)
      allocates x bs) nothing
    does (Deallocate line x) = either d.arrays (do
      counts_step
      _ ← evaluates line (stored_bounds x)
      deallocates x) nothing

    -- the first arm whose condition is true, else the ELSE part (section 11.6)
    pub chooses : ℕ → Arms → Act → Act
    chooses line no_arms other = other
    chooses line (arm test body arms) other = do
      counts_step
      b ← evaluates line (truth_of d test)
      either b (does_all body) (chooses line arms other)

    -- one statement after the other. A jump passes over those up to its label, and leaves a block that hasn't it
    pub does_all : Block → Act
    does_all no_statements = nothing
    does_all (statement c cs) = then (does c) (does_all cs)

  -- the run of a program
  abbrev pub run : Program → List ℕ → State
  run p input = does_all p.body (opening_state p input)
