-- What an operator and a function give (ANSI X3.9-1978, sections 6.1, 6.3, 6.4 and 15.10): the exact value over the
-- integers, which then has to fit 128 bits.
use Rattle.std.specs.Prelude.{Result, Ok, Err, List, [], ◌∷◌, if◌then◌else◌, Bool, true, false, not, ◌&&◌, ◌||◌, ℕ, suc}
use Rattle.std.specs.Prelude.{◌-◌, ◌^◌, nat_lt, ℤ, pos, negsuc, ◌+ℤ◌, ◌-ℤ◌, ◌*ℤ◌, neg_ℤ, nat_abs, int_lt, int_le}
use Rattle.std.specs.Prelude.{int_div}
use Rattle.std.specs.Int.{int_max, int_min, int_pow}
use Rattle.std.specs.List.{fold}
use Rattle.std.specs.Ordering.{int_eq}
use Rattle.tree.specs.Steps.{◌>>=◌}
use Rattle.tree.specs.declared.ops.Value.{Value}
use Rattle.tree.specs.declared.ops.Value.TheVariants.{Int, Truth}
use Rattle.tree.specs.declared.ops.Fault.{Fault}
use Rattle.tree.specs.declared.ops.Fault.TheVariants.{Overflow, ZeroDivide, Shape}
use Rattle.tree.specs.declared.ops.Op.{Op}
use Rattle.tree.specs.declared.ops.Op.TheVariants.{Pow, Mul, Div, Neg, Add, Sub, Lt, Le, Eq, Ne, Gt, Ge, Not, And, Or}
use Rattle.tree.specs.declared.ops.Op.TheVariants.{Eqv, Neqv}
use Rattle.tree.specs.declared.functions.Fun.{Fun}
use Rattle.tree.specs.declared.functions.Fun.TheVariants.{Abs, Mod, Max, Min}
use Rattle.tree.specs.declared.functions.Red.{Red}
use Rattle.tree.specs.declared.functions.Red.TheVariants.{Sum, MaxVal, MinVal}

-- -2 ^ n to 2 ^ n - 1
abbrev pub fits : ℕ → ℤ → Bool
fits n (pos k) = nat_lt k (2 ^ n)
fits n (negsuc k) = nat_lt k (2 ^ n)

-- the one test of range
abbrev pub number : ℤ → Result Value Fault
number z = if fits 127 z then Ok (Int z) else Err Overflow

-- an exact value as a value
abbrev pub ranged : Result ℤ Fault → Result Value Fault
ranged r = do
  z ← r
  number z

-- ---- exact values over the integers

-- division truncates towards zero
abbrev pub quotient : ℤ → ℤ → Result ℤ Fault
quotient a b = if int_eq b (pos 0) then Err ZeroDivide else Ok (int_div a b)

-- a - (a / b) * b
abbrev pub remainder : ℤ → ℤ → Result ℤ Fault
remainder a b = do
  q ← quotient a b
  Ok (a -ℤ (q *ℤ b))

-- a negative power is one divided by the power
abbrev pub power : ℤ → ℤ → Result ℤ Fault
power a (pos n) = Ok (int_pow a n)
power a (negsuc n) = quotient (pos 1) (int_pow a (suc n))

-- of an operator that gives a number
abbrev pub exact_value : Op → ℤ → ℤ → Result ℤ Fault
exact_value Pow a b = power a b
exact_value Mul a b = Ok (a *ℤ b)
exact_value Div a b = quotient a b
exact_value Neg a b = Ok (neg_ℤ a)
exact_value Add a b = Ok (a +ℤ b)
exact_value Sub a b = Ok (a -ℤ b)
exact_value _ a b = Err Shape

-- of a function
abbrev pub exact_call : Fun → List ℤ → Result ℤ Fault
exact_call Abs (a ∷ []) = Ok (pos (nat_abs a))
exact_call Mod (a ∷ b ∷ []) = remainder a b
exact_call Max (a ∷ b ∷ more) = Ok (fold int_max a (b ∷ more))
exact_call Min (a ∷ b ∷ more) = Ok (fold int_min a (b ∷ more))
exact_call _ _ = Err Shape

-- ---- operators

abbrev pub same : Bool → Bool → Bool
same true b = b
same false b = not b

abbrev pub takes_truths : Op → Bool
takes_truths Not = true
takes_truths And = true
takes_truths Or = true
takes_truths Eqv = true
takes_truths Neqv = true
takes_truths _ = false

abbrev pub is_neg : Op → Bool
is_neg Neg = true
is_neg _ = false

abbrev pub is_not : Op → Bool
is_not Not = true
is_not _ = false

abbrev pub on_numbers : Op → ℤ → ℤ → Result Value Fault
on_numbers Lt a b = Ok (Truth (int_lt a b))
on_numbers Le a b = Ok (Truth (int_le a b))
on_numbers Eq a b = Ok (Truth (int_eq a b))
on_numbers Ne a b = Ok (Truth (not (int_eq a b)))
on_numbers Gt a b = Ok (Truth (int_lt b a))
on_numbers Ge a b = Ok (Truth (int_le b a))
on_numbers o a b = ranged (exact_value o a b)

abbrev pub on_truths : Op → Bool → Bool → Result Value Fault
on_truths Not a b = Ok (Truth (not a))
on_truths And a b = Ok (Truth (a && b))
on_truths Or a b = Ok (Truth (a || b))
on_truths Eqv a b = Ok (Truth (same a b))
on_truths Neqv a b = Ok (Truth (not (same a b)))
on_truths _ a b = Err Shape

-- values of kinds that don't suit give `Shape`, which no typed tree has
abbrev pub apply : Op → Value → Value → Result Value Fault
apply o (Int a) (Int b) = on_numbers o a b
apply o (Truth a) (Truth b) = on_truths o a b
apply o (Int a) (Truth b) = if is_neg o then on_numbers Neg a a else Err Shape
apply o (Truth a) (Int b) = if is_not o then on_truths Not a a else Err Shape

-- ---- functions

abbrev pub as_number : Value → Result ℤ Fault
as_number (Int z) = Ok z
as_number (Truth b) = Err Shape

abbrev pub as_truth : Value → Result Bool Fault
as_truth (Int z) = Err Shape
as_truth (Truth b) = Ok b

abbrev pub as_numbers : List Value → Result (List ℤ) Fault
as_numbers [] = Ok []
as_numbers (v ∷ vs) = do
  z ← as_number v
  zs ← as_numbers vs
  Ok (z ∷ zs)

abbrev pub exact_of_values : Fun → List Value → Result ℤ Fault
exact_of_values f vs = do
  zs ← as_numbers vs
  exact_call f zs

abbrev pub call : Fun → List Value → Result Value Fault
call f vs = ranged (exact_of_values f vs)

-- ---- SUM, MAXVAL, MINVAL of an array's elements (ISO/IEC 1539:1991, section 13.13)

abbrev pub sum_from : ℤ → List ℤ → Result Value Fault
sum_from z [] = Ok (Int z)
sum_from z (x ∷ xs) = if fits 127 (z +ℤ x) then sum_from (z +ℤ x) xs else Err Overflow

-- `bits`: INTEGER holds -2 ^ bits to 2 ^ bits - 1
abbrev pub reduced : ℕ → Red → List ℤ → Result Value Fault
reduced bits Sum zs = sum_from (pos 0) zs
reduced bits MaxVal [] = number (neg_ℤ (pos (2 ^ bits)))
reduced bits MaxVal (z ∷ zs) = number (fold int_max z zs)
reduced bits MinVal [] = number (pos (2 ^ bits - 1))
reduced bits MinVal (z ∷ zs) = number (fold int_min z zs)
