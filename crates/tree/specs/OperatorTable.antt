-- The operator table: how each operator is spelled in FORTRAN 77 (ANSI X3.9-1978, 6.1.1, 6.3.1 and 6.4.1) and in
-- Fortran 90 (ISO/IEC 1539:1991, 3.2.3), how tightly it binds and to which side it groups (6.5), and the kinds of its
-- operands and of its result.
use Rattle.std.specs.Prelude.{◌≡◌, ℕ, ◌+◌, List, codes, Bool, true, false, not, ◌&&◌, if◌then◌else◌}
use Rattle.std.specs.Str.{bytes_eq}
use Rattle.tree.specs.Operators.{same, takes_truths}
use Rattle.tree.specs.declared.ops.Op.{Op}
use Rattle.tree.specs.declared.ops.Op.TheVariants.{Pow, Mul, Div, Neg, Add, Sub, Lt, Le, Eq, Ne, Gt, Ge}
use Rattle.tree.specs.declared.ops.Op.TheVariants.{Not, And, Or, Eqv, Neqv}
use Rattle.tree.specs.declared.ops.Kind.{Kind}
use Rattle.tree.specs.declared.ops.Kind.TheVariants.{Integer, Logical}

-- ---- spelling

abbrev pub spelling77_of : Op → List ℕ
spelling77_of Pow = codes "**"
spelling77_of Mul = codes "*"
spelling77_of Div = codes "/"
spelling77_of Neg = codes "-"
spelling77_of Add = codes "+"
spelling77_of Sub = codes "-"
spelling77_of Lt = codes ".LT."
spelling77_of Le = codes ".LE."
spelling77_of Eq = codes ".EQ."
spelling77_of Ne = codes ".NE."
spelling77_of Gt = codes ".GT."
spelling77_of Ge = codes ".GE."
spelling77_of Not = codes ".NOT."
spelling77_of And = codes ".AND."
spelling77_of Or = codes ".OR."
spelling77_of Eqv = codes ".EQV."
spelling77_of Neqv = codes ".NEQV."

-- the relations have signs in Fortran 90
abbrev pub spelling90_of : Op → List ℕ
spelling90_of Lt = codes "<"
spelling90_of Le = codes "<="
spelling90_of Eq = codes "=="
spelling90_of Ne = codes "/="
spelling90_of Gt = codes ">"
spelling90_of Ge = codes ">="
spelling90_of o = spelling77_of o

-- ---- levels and grouping

-- an operator of a higher level binds more tightly
abbrev pub level_of : Op → ℕ
level_of Pow = 9
level_of Mul = 8
level_of Div = 8
level_of Neg = 7
level_of Add = 7
level_of Sub = 7
level_of Lt = 6
level_of Le = 6
level_of Eq = 6
level_of Ne = 6
level_of Gt = 6
level_of Ge = 6
level_of Not = 5
level_of And = 4
level_of Or = 3
level_of Eqv = 2
level_of Neqv = 2

-- The least level of the operand to the left: the operator's own where it groups left, else one more.
-- A power groups right, and a relation doesn't group.
abbrev pub left_least : Op → ℕ
left_least Pow = 10
left_least Lt = 7
left_least Le = 7
left_least Eq = 7
left_least Ne = 7
left_least Gt = 7
left_least Ge = 7
left_least o = level_of o

-- The least level of the operand to the right: the operator's own where it groups right, else one more.
abbrev pub right_least : Op → ℕ
right_least Pow = 9
right_least o = level_of o + 1

-- the operator stands between two operands; the others stand before one
abbrev pub stands_between : Op → Bool
stands_between Neg = false
stands_between Not = false
stands_between _ = true

abbrev pub is_unary : Op → Bool
is_unary o = not (stands_between o)

-- an operand that begins with a plus or minus sign may stand behind the operator
abbrev pub takes_sign : Op → Bool
takes_sign Not = false
takes_sign And = false
takes_sign Or = false
takes_sign Eqv = false
takes_sign Neqv = false
takes_sign _ = true

-- an operand may stand behind the operator, by whether it begins with such a sign
abbrev pub may_follow : Op → Bool → Bool
may_follow o true = takes_sign o
may_follow o false = true

-- what may stand before an operand
pub data Sign : Type 0 where
  Plus : Sign
  Minus : Sign
  Negation : Sign

abbrev pub sign_level : Sign → ℕ
sign_level Plus = 7
sign_level Minus = 7
sign_level Negation = 5

-- ---- kinds

-- the operator compares two numbers
abbrev pub is_relation : Op → Bool
is_relation Lt = true
is_relation Le = true
is_relation Eq = true
is_relation Ne = true
is_relation Gt = true
is_relation Ge = true
is_relation _ = false

abbrev pub operand_kind : Op → Kind
operand_kind o = if takes_truths o then Logical else Integer

abbrev pub result_kind_of : Op → Kind
result_kind_of o = if is_relation o then Logical else operand_kind o

-- ---- what is found in the table

-- the operator is so spelled, and stands between two operands or doesn't
pub record IsSpelled (spelling_of : Op → List ℕ) (text : List ℕ) (between : Bool) (o : Op) : Type 0 where
  pub text_is : spelling_of o ≡ text
  pub place_is : stands_between o ≡ between

abbrev pub is_spelled : (Op → List ℕ) → List ℕ → Bool → Op → Bool
is_spelled spelling_of text between o = bytes_eq (spelling_of o) text && same (stands_between o) between
