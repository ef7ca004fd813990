-- The elements of an array, gathered one at a time.
use Rattle.std.specs.Prelude.{Result, Ok, Err, ℕ, ◌-◌, ◌^◌, ℤ, pos, neg_ℤ, ◌+ℤ◌, List}
use Rattle.std.specs.Int.{int_max, int_min}
use Rattle.std.specs.List.{fold}
use Rattle.tree.specs.Operators.{number}
use Rattle.tree.specs.declared.ops.Value.{Value}
use Rattle.tree.specs.declared.ops.Value.TheVariants.{Int, Truth}
use Rattle.tree.specs.declared.ops.Fault.{Fault}
use Rattle.tree.specs.declared.ops.Fault.TheVariants as fault
use Rattle.tree.specs.declared.functions.Red.{Red}
use Rattle.tree.specs.declared.functions.Red.TheVariants.{Sum, MaxVal, MinVal}
use Rattle.tree.specs.declared.gathered.Gathered.{Gathered}
use Rattle.tree.specs.declared.gathered.Gathered.TheVariants.{Nothing, Number, Overflow}

-- a sum, where it is within 128 bits
abbrev pub held : Result Value Fault → Gathered
held (Ok (Int z)) = Number z
held (Ok (Truth b)) = Overflow
held (Err f) = Overflow

abbrev pub joined : Red → ℤ → ℤ → Gathered
joined Sum a b = held (number (a +ℤ b))
joined MaxVal a b = Number (int_max a b)
joined MinVal a b = Number (int_min a b)

-- one number more
abbrev pub added : Red → Gathered → ℤ → Gathered
added r (Number a) z = joined r a z
added r Overflow z = Overflow
added Sum Nothing z = joined Sum (pos 0) z
added MaxVal Nothing z = Number z
added MinVal Nothing z = Number z

-- what is gathered of these numbers, one after the other
abbrev pub gathered : Red → List ℤ → Gathered
gathered r zs = fold (added r) Nothing zs

abbrev pub value_of_nothing : ℕ → Red → ℤ
value_of_nothing bits Sum = pos 0
value_of_nothing bits MaxVal = neg_ℤ (pos (2 ^ bits))
value_of_nothing bits MinVal = pos (2 ^ bits - 1)

-- the value of the reduction
abbrev pub whole : ℕ → Red → Gathered → Result Value Fault
whole bits r Nothing = number (value_of_nothing bits r)
whole bits r (Number z) = number z
whole bits r Overflow = Err fault.Overflow
