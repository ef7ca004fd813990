-- The arguments of a function, taken one at a time.
use Rattle.std.specs.Prelude.{Result, Err, ℤ, List, [], ◌∷◌}
use Rattle.std.specs.Int.{int_max, int_min}
use Rattle.std.specs.List.{fold}
use Rattle.tree.specs.Operators.{number, call}
use Rattle.tree.specs.declared.ops.Value.{Value}
use Rattle.tree.specs.declared.ops.Value.TheVariants.{Int, Truth}
use Rattle.tree.specs.declared.ops.Fault.{Fault}
use Rattle.tree.specs.declared.ops.Fault.TheVariants.{Shape}
use Rattle.tree.specs.declared.functions.Fun.{Fun}
use Rattle.tree.specs.declared.functions.Fun.TheVariants.{Abs, Mod, Max, Min}
use Rattle.tree.specs.declared.arguments.Arguments.{Arguments}
use Rattle.tree.specs.declared.arguments.Arguments.TheVariants.{Empty, One, Two, More, Unsuited}

-- the one of two numbers that the function keeps
abbrev pub kept : Fun → ℤ → ℤ → ℤ
kept Abs a b = a
kept Mod a b = a
kept Max a b = int_max a b
kept Min a b = int_min a b

-- one argument more
abbrev pub added_number : Fun → Arguments → ℤ → Arguments
added_number f Empty c = One c
added_number f (One a) c = Two a c
added_number f (Two a b) c = More (kept f (kept f a b) c)
added_number f (More a) c = More (kept f a c)
added_number f Unsuited c = Unsuited

abbrev pub added : Fun → Arguments → Value → Arguments
added f given (Int c) = added_number f given c
added f given (Truth b) = Unsuited

-- the arguments that were taken, one after the other
abbrev pub taken : Fun → List Value → Arguments
taken f vs = fold (added f) Empty vs

-- the value at three or more arguments
abbrev pub call_of_many : Fun → ℤ → Result Value Fault
call_of_many Abs a = Err Shape
call_of_many Mod a = Err Shape
call_of_many Max a = number a
call_of_many Min a = number a

-- the function's value
abbrev pub finished : Fun → Arguments → Result Value Fault
finished f Empty = Err Shape
finished f (One a) = call f (Int a ∷ [])
finished f (Two a b) = call f (Int a ∷ Int b ∷ [])
finished f (More a) = call_of_many f a
finished f Unsuited = Err Shape
