-- What a loop that gathers does, and the one statement in its place.
use Rattle.std.specs.Prelude.{◌≡◌, ◌≤◌, Option, None, ℕ, pos, Bool, true, false, List}
use Rattle.tree.specs.Plain.{Expression, Number, Named, Subscripts, no_subscripts, subscript}
use Rattle.meaning.specs.Dialect.{Dialect}
use Rattle.meaning.specs.Ranges.{HoldsInRange, LiteralsFit}
use Rattle.meaning.specs.Reads.{names_in, names_in_subscript, names_in_subscripts}
use Rattle.meaning.specs.Run.{State, Going, does}
use Rattle.meaning.specs.Store.{Cell, Store}
use Rattle.meaning.specs.Value.{named, is_scalar}
use Rattle.nest_order.specs.orders.Lists.{In}
use Rattle.nest_order.specs.runs.Guarded.{variable_cell}
use Rattle.reductions.specs.Gathering.{Lines, Loop, form_of, is_variable, listed, loop_of, section_of, tested}

-- the loop's variable isn't x; the subscripts of x read neither of them, and e doesn't read x
pub record IsReducible (l : Loop) : Type 0 where
  pub apart : ¬ (l.variable ≡ l.left.name)
  pub subscripts : (y : List ℕ) → In y (names_in_subscripts l.left.subscripts)
      → ¬ (y ≡ l.left.name) × ¬ (y ≡ l.variable)
  pub operand : ¬ (In l.left.name (names_in l.operand))

-- where the loop is come to: x is a scalar or an element, and the numbers there and in e are within their ranges
pub record MayStart (lang : Dialect) (l : Loop) (s : Store) : Type 0 where
  pub arrays : lang.arrays ≡ true
  pub bits : lang.bits ≤ 64
  pub scalar : is_scalar (named l.left) s.bounds ≡ true
  pub held : HoldsInRange lang.bits s
  pub literals : LiteralsFit l.operand

-- the second run has gone on too, and has left the same but for this variable
pub record GoesOnBut (x : List ℕ) (s t : State) : Type 0 where
  pub going : t.way ≡ Going
  pub bounds : (y : List ℕ) → t.store.bounds y ≡ s.store.bounds y
  pub held : (c : Cell) → ¬ (c ≡ variable_cell x) → t.store.held c ≡ s.store.held c
  pub written : t.written ≡ s.written
  pub input : t.input ≡ s.input
  pub had_value : t.had_value ≡ s.had_value

-- Where the loop meets no fault, the statement that gathers the list of e's values meets none, and leaves the same but
-- for the loop's variable: with the test of the trip round it, or where the trip is a positive literal
abbrev pub GatheringIsForm : Type 0
GatheringIsForm =
    (lang : Dialect) (l : Loop) (y z : Lines) (s : State) → IsReducible l → MayStart lang l s.store
    → (does lang None (loop_of y l) s).way ≡ Going
    → GoesOnBut l.variable (does lang None (loop_of y l) s)
    (does lang None (tested z l (form_of z l (listed l.variable l.trip l.operand))) s)

abbrev pub GatheringIsPlainForm : Type 0
GatheringIsPlainForm =
    (lang : Dialect) (l : Loop) (y z : Lines) (s : State) (n : ℕ) → IsReducible l → MayStart lang l s.store
    → l.trip ≡ Number (pos n) → 1 ≤ n
    → (does lang None (loop_of y l) s).way ≡ Going
    → GoesOnBut l.variable (does lang None (loop_of y l) s)
    (does lang None (form_of z l (listed l.variable l.trip l.operand)) s)

-- ---- where e is a reference with a subscript that is the loop's variable

abbrev pub either : Bool → Type 0 → Type 0 → Type 0
either true a b = a
either false a b = b

-- one subscript is the variable, and no other has it
abbrev pub OneIsVariable : List ℕ → Subscripts → Type 0
OneIsVariable i no_subscripts = ⊥
OneIsVariable i (subscript p ps) =
    either (is_variable i p) (¬ (In i (names_in_subscripts ps)))
    (¬ (In i (names_in_subscript p)) × OneIsVariable i ps)

-- e is such a reference, and a scalar
pub record MayBeSection (l : Loop) (s : Store) : Type 0 where
  pub name : List ℕ
  pub subscripts : Subscripts
  pub operand : l.operand ≡ Named name subscripts
  pub one : OneIsVariable l.variable subscripts
  pub scalar : is_scalar (Named name subscripts) s.bounds ≡ true

abbrev pub GatheringIsSection : Type 0
GatheringIsSection =
    (lang : Dialect) (l : Loop) (y z : Lines) (s : State) → IsReducible l → MayStart lang l s.store
    → MayBeSection l s.store
    → (does lang None (loop_of y l) s).way ≡ Going
    → GoesOnBut l.variable (does lang None (loop_of y l) s)
    (does lang None (tested z l (form_of z l (section_of l.variable l.trip l.operand))) s)

abbrev pub GatheringIsPlainSection : Type 0
GatheringIsPlainSection =
    (lang : Dialect) (l : Loop) (y z : Lines) (s : State) (n : ℕ) → IsReducible l → MayStart lang l s.store
    → MayBeSection l s.store → l.trip ≡ Number (pos n) → 1 ≤ n
    → (does lang None (loop_of y l) s).way ≡ Going
    → GoesOnBut l.variable (does lang None (loop_of y l) s)
    (does lang None (form_of z l (section_of l.variable l.trip l.operand)) s)
