-- Whether two expressions are one and the same tree.
use Rattle.std.specs.Prelude.{ℕ, ◌==◌, Bool, true, false, ◌&&◌, List}
use Rattle.std.specs.Ordering.{int_eq}
use Rattle.std.specs.Str.{bytes_eq}
use Rattle.tree.specs.Plain.{Expression, Number, Logic, Named, Unary, Binary, Apply, Constructor, Spread, Transpose}
use Rattle.tree.specs.Plain.{Reshape, Reduce, Expressions, no_expressions, expression, Subscript, Only, Section}
use Rattle.tree.specs.Plain.{Subscripts, no_subscripts, subscript, Loops, no_loops, loop, Reference}
use Rattle.tree.specs.View.{ConstructorLoop}
use Rattle.tree.specs.declared.ops.Op.{Op}
use Rattle.tree.specs.declared.ops.Op.TheVariants.{Pow, Mul, Div, Neg, Add, Sub, Lt, Le, Eq, Ne, Gt, Ge, Not, And, Or}
use Rattle.tree.specs.declared.ops.Op.TheVariants.{Eqv, Neqv}
use Rattle.tree.specs.declared.functions.Fun.{Fun}
use Rattle.tree.specs.declared.functions.Fun.TheVariants.{Abs, Mod, Max, Min}
use Rattle.tree.specs.declared.functions.Red.{Red}
use Rattle.tree.specs.declared.functions.Red.TheVariants.{Sum, MaxVal, MinVal}

-- ---- operators and functions, by their numbers

abbrev pub number_of_operator : Op → ℕ
number_of_operator Pow = 0
number_of_operator Mul = 1
number_of_operator Div = 2
number_of_operator Neg = 3
number_of_operator Add = 4
number_of_operator Sub = 5
number_of_operator Lt = 6
number_of_operator Le = 7
number_of_operator Eq = 8
number_of_operator Ne = 9
number_of_operator Gt = 10
number_of_operator Ge = 11
number_of_operator Not = 12
number_of_operator And = 13
number_of_operator Or = 14
number_of_operator Eqv = 15
number_of_operator Neqv = 16

abbrev pub number_of_function : Fun → ℕ
number_of_function Abs = 0
number_of_function Mod = 1
number_of_function Max = 2
number_of_function Min = 3

abbrev pub number_of_reduction : Red → ℕ
number_of_reduction Sum = 0
number_of_reduction MaxVal = 1
number_of_reduction MinVal = 2

abbrev pub same_operator : Op → Op → Bool
same_operator o q = number_of_operator o == number_of_operator q

abbrev pub same_function : Fun → Fun → Bool
same_function f g = number_of_function f == number_of_function g

abbrev pub same_reduction : Red → Red → Bool
same_reduction r s = number_of_reduction r == number_of_reduction s

abbrev pub same_truth : Bool → Bool → Bool
same_truth true c = c
same_truth false true = false
same_truth false false = true

-- ---- trees

abbrev mutual
  pub same : Expression → Expression → Bool
  same (Number m) (Number n) = int_eq m n
  same (Logic b) (Logic c) = same_truth b c
  same (Named x ps) (Named y qs) = bytes_eq x y && same_subscripts ps qs
  same (Unary o a) (Unary q b) = same_operator o q && same a b
  same (Binary o a b) (Binary q c d) = same_operator o q && (same a c && same b d)
  same (Apply f es) (Apply g fs) = same_function f g && same_each es fs
  same (Constructor es ls) (Constructor fs ms) = same_each es fs && same_loops ls ms
  same (Spread a m e) (Spread b n f) = (m == n) && (same a b && same e f)
  same (Transpose a) (Transpose b) = same a b
  same (Reshape a es) (Reshape b fs) = same a b && same_each es fs
  same (Reduce r a) (Reduce s b) = same_reduction r s && same a b
  same a b = false

  pub same_each : Expressions → Expressions → Bool
  same_each no_expressions no_expressions = true
  same_each (expression e es) (expression f fs) = same e f && same_each es fs
  same_each es fs = false

  pub same_subscripts : Subscripts → Subscripts → Bool
  same_subscripts no_subscripts no_subscripts = true
  same_subscripts (subscript p ps) (subscript q qs) = same_subscript p q && same_subscripts ps qs
  same_subscripts ps qs = false

  pub same_subscript : Subscript → Subscript → Bool
  same_subscript (Only e) (Only f) = same e f
  same_subscript (Section a b c) (Section d e f) = same a d && (same b e && same c f)
  same_subscript p q = false

  pub same_loops : Loops → Loops → Bool
  same_loops no_loops no_loops = true
  same_loops (loop x a b ls) (loop y c d ms) = (bytes_eq x y && (same a c && same b d)) && same_loops ls ms
  same_loops ls ms = false

abbrev pub same_turn : ConstructorLoop → ConstructorLoop → Bool
same_turn l m = bytes_eq l.variable m.variable && (same l.first m.first && same l.last m.last)

-- the reference by itself
abbrev pub is_reference : Reference → Expression → Bool
is_reference r (Named y qs) = bytes_eq r.name y && same_subscripts r.subscripts qs
is_reference r e = false
