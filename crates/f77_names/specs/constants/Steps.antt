-- The steps of an expression's value, one for each kind of expression.
use Rattle.std.specs.Prelude.{Result, Ok, Err, Option, None, Some, Bool, true, false, ℤ, List, ◌++◌}
use Rattle.tree.specs.Steps.{◌>>=◌}
use Rattle.tree.specs.Operators.{apply, call, as_number}
use Rattle.f77_grammar.specs.program.Limits.{in_range}
use Rattle.tree.specs.declared.ops.Op.{Op}
use Rattle.tree.specs.declared.functions.Fun.{Fun}
use Rattle.tree.specs.declared.ops.Value.{Value}
use Rattle.tree.specs.declared.ops.Fault.{Fault}
use Rattle.meaning.specs.Dialect.{fortran77}
use Rattle.tree.specs.declared.width.Width.{Width}
use Rattle.tree.specs.declared.ops.Fault.TheVariants.{Bounds, Allocated}

-- an operator with one operand
abbrev pub applied : Op → Result Value Fault → Result Value Fault
applied o a = do
  x ← a
  apply o x x

-- an operator between two
abbrev pub combined : Op → Result Value Fault → Result Value Fault → Result Value Fault
combined o a b = do
  x ← a
  y ← b
  apply o x y

abbrev pub called : Fun → Result (List Value) Fault → Result Value Fault
called f r = do
  xs ← r
  call f xs

-- values that come before others
abbrev pub preceded : List Value → Result (List Value) Fault → Result (List Value) Fault
preceded xs r = do
  ys ← r
  Ok (xs ++ ys)

abbrev pub numbered : Result Value Fault → Result ℤ Fault
numbered r = do
  v ← r
  as_number v

-- a value that INTEGER has
abbrev pub kept : (width : Width) → Result Value Fault → Result Value Fault
kept width r = do
  v ← r
  in_range (fortran77 width) v

abbrev pub fault_of : {A : Type 0} → Result A Fault → Option Fault
fault_of (Ok x) = None
fault_of (Err fault) = Some fault

-- a name by the fault of its subscripts, whether it has none, and its value
abbrev pub given : Option Fault → Bool → Option Value → Result Value Fault
given (Some fault) bare v = Err fault
given None bare None = Err Allocated
given None true (Some v) = Ok v
given None false (Some v) = Err Bounds
