-- The kinds that operators and functions take, and when they meet faults.
use Rattle.std.specs.Prelude.{◌≡◌, Result, Ok, Err, IsOkAnd, ⊤, List, [], ◌∷◌, length, if◌then◌else◌, Bool, not, IsTrue}
use Rattle.std.specs.Prelude.{ℤ, pos, neg_ℤ, ◌<ℤ◌, FitsSigned}
use Rattle.std.specs.Int.{w128}
use Rattle.std.specs.List.{All}
use Rattle.tree.specs.Functions.{suits_number}
use Rattle.tree.specs.declared.ops.Kind.{Kind}
use Rattle.tree.specs.declared.ops.Kind.TheVariants.{Integer, Logical}
use Rattle.tree.specs.declared.ops.Value.{Value}
use Rattle.tree.specs.declared.ops.Value.TheVariants.{Int, Truth}
use Rattle.tree.specs.declared.ops.Fault.{Fault}
use Rattle.tree.specs.declared.ops.Fault.TheVariants.{Overflow, ZeroDivide, Shape}
use Rattle.tree.specs.declared.ops.Op.{Op}
use Rattle.tree.specs.declared.ops.Op.TheVariants.{Pow, Div}
use Rattle.tree.specs.declared.functions.Fun.{Fun}
use Rattle.tree.specs.declared.functions.Fun.TheVariants.{Mod}
use Rattle.tree.specs.Operators.{as_numbers, exact_value, is_neg, is_not, takes_truths}

abbrev pub takes_numbers : Op → Bool
takes_numbers o = not (takes_truths o)

-- the kinds that an operator takes; `Neg` and `Not` don't look at the second value
abbrev pub suits : Op → Value → Value → Bool
suits o (Int a) (Int b) = takes_numbers o
suits o (Truth a) (Truth b) = takes_truths o
suits o (Int a) (Truth b) = is_neg o
suits o (Truth a) (Int b) = is_not o

-- the exact number that an operator gives, where it gives one
abbrev pub exact : Op → Value → Value → Result ℤ Fault
exact o (Int a) (Int b) = exact_value o a b
exact o (Int a) (Truth b) = if is_neg o then Ok (neg_ℤ a) else Err Shape
exact o (Truth a) b = Err Shape

-- the exact number is outside 128 bits
abbrev pub LeavesRange : Result ℤ Fault → Type 0
LeavesRange r = IsOkAnd r (λ z. ¬ FitsSigned w128 z)

abbrev pub NumbersDivideByZero : Op → ℤ → ℤ → Type 0
NumbersDivideByZero Div a b = b ≡ pos 0
NumbersDivideByZero Pow a b = (a ≡ pos 0) × (b <ℤ pos 0)
NumbersDivideByZero _ a b = ⊥

-- a divisor is 0, or 0 has a negative power
abbrev pub DividesByZero : Op → Value → Value → Type 0
DividesByZero o (Int a) (Int b) = NumbersDivideByZero o a b
DividesByZero o _ _ = ⊥

-- the faults of an operation
abbrev pub IsOperationFault : Fault → Type 0
IsOperationFault Overflow = ⊤
IsOperationFault ZeroDivide = ⊤
IsOperationFault Shape = ⊤
IsOperationFault _ = ⊥

-- a number of 128 bits
abbrev pub IsInRange : Value → Type 0
IsInRange (Int z) = FitsSigned w128 z
IsInRange (Truth b) = ⊤

abbrev pub kind_of : Value → Kind
kind_of (Int z) = Integer
kind_of (Truth b) = Logical

abbrev pub IsNumber : Value → Type 0
IsNumber (Int z) = ⊤
IsNumber (Truth b) = ⊥

-- as many arguments as the function takes, all of them numbers
pub record SuitsCall (f : Fun) (vs : List Value) : Type 0 where
  pub count : IsTrue (suits_number f (length vs))
  pub numbers : All IsNumber vs

-- the number of a value, and 0 for a truth value
abbrev pub number_in : Value → ℤ
number_in (Int z) = z
number_in (Truth b) = pos 0

-- the divisor of MOD is 0
abbrev pub NumbersCallDividesByZero : Fun → List ℤ → Type 0
NumbersCallDividesByZero Mod (a ∷ b ∷ []) = b ≡ pos 0
NumbersCallDividesByZero _ _ = ⊥

abbrev pub CallDividesByZero : Fun → List Value → Type 0
CallDividesByZero f vs = IsOkAnd (as_numbers vs) (NumbersCallDividesByZero f)
