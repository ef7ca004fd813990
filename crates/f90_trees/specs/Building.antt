-- The tree of an expression, made from its list with a stack.
use Rattle.std.specs.Prelude.{◌≡◌, ℕ, ℤ, pos, negsuc, ◌-◌, ◌^◌, min, Option, Some, None, List, [], ◌∷◌, ◌++◌}
use Rattle.tree.specs.Limits.{greatest_literal}
use Rattle.tree.specs.OperatorTable.{Sign}
use Rattle.tree.specs.declared.functions.Intrinsic.{Intrinsic}
use Rattle.tree.specs.declared.functions.Intrinsic.TheVariants as intrinsics
use Rattle.tree.specs.declared.ops.Op.{Op}
use Rattle.tree.specs.Plain as tree
use Rattle.tree.specs.Plain.{Expression, Expressions, Subscript, Subscripts, Loops}
use Rattle.tree.specs.View.{ConstructorLoop, constructor_loops}
use Rattle.f90_grammar.specs.Phrases.{Phrase90, tree_of, called, value_of_digits, natural_in}
use Rattle.reading.specs.Signs.{signed, argument_of}
use Rattle.f90_expressions.specs.Flat as flats
use Rattle.f90_expressions.specs.Flat.{Node, flat}

-- ---- numbers are held up to the greatest literal, dimensions of SPREAD up to 2^64-1

abbrev pub held_number : ℤ → ℤ
held_number (pos n) = pos (min n greatest_literal)
held_number (negsuc n) = negsuc n

abbrev pub held_dimension : ℕ → ℕ
held_dimension d = min d (2 ^ 64 - 1)

abbrev mutual
  pub held : Expression → Expression
  held (tree.Number z) = tree.Number (held_number z)
  held (tree.Logic b) = tree.Logic b
  held (tree.Named x ss) = tree.Named x (held_subscripts ss)
  held (tree.Unary o a) = tree.Unary o (held a)
  held (tree.Binary o a b) = tree.Binary o (held a) (held b)
  held (tree.Apply f es) = tree.Apply f (held_all es)
  held (tree.Constructor es ls) = tree.Constructor (held_all es) (held_loops ls)
  held (tree.Spread a d n) = tree.Spread (held a) (held_dimension d) (held n)
  held (tree.Transpose a) = tree.Transpose (held a)
  held (tree.Reshape a es) = tree.Reshape (held a) (held_all es)
  held (tree.Reduce r a) = tree.Reduce r (held a)

  pub held_all : Expressions → Expressions
  held_all tree.no_expressions = tree.no_expressions
  held_all (tree.expression e es) = tree.expression (held e) (held_all es)

  pub held_subscript : Subscript → Subscript
  held_subscript (tree.Only e) = tree.Only (held e)
  held_subscript (tree.Section a b c) = tree.Section (held a) (held b) (held c)

  pub held_subscripts : Subscripts → Subscripts
  held_subscripts tree.no_subscripts = tree.no_subscripts
  held_subscripts (tree.subscript s ss) = tree.subscript (held_subscript s) (held_subscripts ss)

  pub held_loops : Loops → Loops
  held_loops tree.no_loops = tree.no_loops
  held_loops (tree.loop x a b ls) = tree.loop x (held a) (held b) (held_loops ls)

-- ---- the stack

-- what lies on it: a value, a part of a list, the beginning of a list, or the value under loops, the innermost loop
-- first
pub data Entry : Type 0 where
  Value : Expression → Entry
  Part : Subscript → Entry
  Mark : Entry
  Turn : Expression → List ConstructorLoop → Entry

abbrev pub loop_of : List ℕ → Expression → Expression → ConstructorLoop
loop_of x a b = record { variable = x; first = a; last = b }

-- the value on top, the two values on top, the turn on top, the mark on top, and what lies under them
abbrev pub with_value : List Entry → (Expression → List Entry → Option (List Entry)) → Option (List Entry)
with_value (Value e ∷ st) on = on e st
with_value st on = None

abbrev pub with_two : List Entry → (Expression → Expression → List Entry → Option (List Entry)) → Option (List Entry)
with_two st on = with_value st (λ b more. with_value more (λ a under. on a b under))

abbrev pub with_turn
    : List Entry → (Expression → List ConstructorLoop → List Entry → Option (List Entry)) → Option (List Entry)
with_turn (Turn e ls ∷ st) on = on e ls st
with_turn st on = None

abbrev pub with_mark : List Entry → (List Entry → Option (List Entry)) → Option (List Entry)
with_mark (Mark ∷ st) on = on st
with_mark st on = None

-- the parts down to the beginning of their list, before those that were taken, and what lies under it
pub record Parts : Type 0 where
  pub parts : List Subscript
  pub under : List Entry

abbrev pub parts_above : List Entry → List Subscript → Option Parts
parts_above (Part s ∷ st) taken = parts_above st (s ∷ taken)
parts_above (Mark ∷ st) taken = Some (record { parts = taken; under = st })
parts_above st taken = None

pub record Values : Type 0 where
  pub values : List Expression
  pub under : List Entry

abbrev pub values_above : List Entry → List Expression → Option Values
values_above (Value e ∷ st) taken = values_above st (e ∷ taken)
values_above (Mark ∷ st) taken = Some (record { values = taken; under = st })
values_above st taken = None

-- ---- what one part of the list does

abbrev pub valued : Expression → List Entry → Option (List Entry)
valued e st = Some (Value e ∷ st)

abbrev pub numbered : List ℕ → List Entry → Option (List Entry)
numbered t st = valued (tree.Number (pos (min (value_of_digits t) greatest_literal))) st

abbrev pub prefixed : Sign → List Entry → Option (List Entry)
prefixed s st = with_value st (λ e under. valued (signed s e) under)

abbrev pub infixed : Op → List Entry → Option (List Entry)
infixed o st = with_two st (λ a b under. valued (tree.Binary o a b) under)

abbrev pub single : List Entry → Option (List Entry)
single st = with_value st (λ e under. Some (Part (tree.Only e) ∷ under))

abbrev pub bounded : List Entry → Option (List Entry)
bounded st = with_two st (λ a b under. Some (Part (tree.Section a b (tree.Number (pos 1))) ∷ under))

abbrev pub strided : List Entry → Option (List Entry)
strided st = with_value st (λ c more. with_two more (λ a b under. Some (Part (tree.Section a b c) ∷ under)))

abbrev pub turned : List ℕ → List Entry → Option (List Entry)
turned x st = with_two st (λ a b more. with_value more (λ e under. Some (Turn e (loop_of x a b ∷ []) ∷ under)))

abbrev pub turned_round : List ℕ → List Entry → Option (List Entry)
turned_round x st =
    with_two st (λ a b more. with_turn more (λ e ls under. Some (Turn e (ls ++ loop_of x a b ∷ []) ∷ under)))

abbrev pub looped : List Entry → Option (List Entry)
looped st = with_turn st (λ e ls more. with_mark more (λ under.
    valued (tree.Constructor (tree.expression e tree.no_expressions) (constructor_loops ls)) under))

abbrev pub constructed : Option Values → Option (List Entry)
constructed (Some v) = valued (tree.Constructor (tree.expressions v.values) tree.no_loops) v.under
constructed None = None

abbrev pub called_held : Option Intrinsic → List ℕ → List Subscript → Expression
called_held (Some intrinsics.Spread) x (s ∷ d ∷ n ∷ []) =
    tree.Spread (argument_of s) (held_dimension (natural_in (argument_of d))) (argument_of n)
called_held f x ss = called f x ss

abbrev pub listed : Option Intrinsic → List ℕ → Option Parts → Option (List Entry)
listed f x (Some p) = valued (called_held f x p.parts) p.under
listed f x None = None

module _ (function : List ℕ → Option Intrinsic) where
  abbrev pub build : Node → List Entry → Option (List Entry)
  build (flats.Digits t) st = numbered t st
  build (flats.Truth b) st = valued (tree.Logic b) st
  build (flats.Name x) st = valued (tree.Named x tree.no_subscripts) st
  build flats.Parenthesis st = Some st
  build (flats.Prefix s) st = prefixed s st
  build (flats.Infix o) st = infixed o st
  build flats.One st = single st
  build flats.Bounds st = bounded st
  build flats.Stride st = strided st
  build flats.Begin st = Some (Mark ∷ st)
  build (flats.Listed x) st = listed (function x) x (parts_above st [])
  build flats.Values st = constructed (values_above st [])
  build (flats.Inner x) st = turned x st
  build (flats.Outer x) st = turned_round x st
  build flats.Looped st = looped st

  abbrev pub built_on : Option (List Entry) → (List Entry → Option (List Entry)) → Option (List Entry)
  built_on (Some st) on = on st
  built_on None on = None

  abbrev pub build_all : List Node → List Entry → Option (List Entry)
  build_all [] st = Some st
  build_all (n ∷ ns) st = built_on (build n st) (build_all ns)

-- the list of an expression makes its tree
abbrev pub MakesTree : Type 0
MakesTree = (function : List ℕ → Option Intrinsic) (p : Phrase90)
    → build_all function (flat p) [] ≡ Some (Value (held (tree_of function p)) ∷ [])
