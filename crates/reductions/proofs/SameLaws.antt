-- Operators and functions by their numbers.
use Rattle.std.proofs.Common.{◌≡◌, refl, ap₂}
use Rattle.std.specs.Prelude.{◌&&◌}
use Rattle.std.specs.Str.{bytes_eq}
use Rattle.tree.specs.View.{expression_of, loop_of}
use Rattle.tree.specs.declared.exprs.Turn.{Turn, out-Turn}
use Rattle.tree.proofs.Equations.{loop_of-is}
use Rattle.std.specs.Prelude.{◌==◌}
use denote.Enum.Bare.{sameb}
use denote.Enum.Declared.{tag_of}
use Rattle.tree.specs.declared.ops.Op.{Op}
use Rattle.tree.specs.declared.ops.Op.TheVariants.{Pow, Mul, Div, Neg, Add, Sub, Lt, Le, Eq, Ne, Gt, Ge, Not, And, Or, Eqv, Neqv}
use Rattle.tree.specs.declared.functions.Fun.{Fun}
use Rattle.tree.specs.declared.functions.Fun.TheVariants.{Abs, Mod, Max, Min}
use Rattle.tree.specs.declared.functions.Red.{Red}
use Rattle.tree.specs.declared.functions.Red.TheVariants.{Sum, MaxVal, MinVal}
use Rattle.tree.specs.contracts.Op as op
use Rattle.tree.specs.contracts.Fun as fun
use Rattle.tree.specs.contracts.Red as red
use Rattle.reductions.specs.Same.{number_of_operator, number_of_function, number_of_reduction, same, same_operator, same_function, same_reduction, same_turn}

operator_tag : (o : Op) → tag_of op.the_type o ≡ number_of_operator o
operator_tag Pow = refl
operator_tag Mul = refl
operator_tag Div = refl
operator_tag Neg = refl
operator_tag Add = refl
operator_tag Sub = refl
operator_tag Lt = refl
operator_tag Le = refl
operator_tag Eq = refl
operator_tag Ne = refl
operator_tag Gt = refl
operator_tag Ge = refl
operator_tag Not = refl
operator_tag And = refl
operator_tag Or = refl
operator_tag Eqv = refl
operator_tag Neqv = refl

pub operators_same : (o q : Op) → sameb op.the_type o q ≡ same_operator o q
operators_same o q = ap₂ (λ m n. m == n) (operator_tag o) (operator_tag q)

function_tag : (f : Fun) → tag_of fun.the_type f ≡ number_of_function f
function_tag Abs = refl
function_tag Mod = refl
function_tag Max = refl
function_tag Min = refl

pub functions_same : (f g : Fun) → sameb fun.the_type f g ≡ same_function f g
functions_same f g = ap₂ (λ m n. m == n) (function_tag f) (function_tag g)

reduction_tag : (r : Red) → tag_of red.the_type r ≡ number_of_reduction r
reduction_tag Sum = refl
reduction_tag MaxVal = refl
reduction_tag MinVal = refl

pub reductions_same : (r s : Red) → sameb red.the_type r s ≡ same_reduction r s
reductions_same r s = ap₂ (λ m n. m == n) (reduction_tag r) (reduction_tag s)

pub ruleset operator_laws = (operators_same, functions_same, reductions_same)

-- ---- loops of constructors

pub turn_same : (l m : Turn) → same_turn (loop_of l) (loop_of m)
    ≡ (bytes_eq (out-Turn l).var (out-Turn m).var && (same (expression_of (out-Turn l).first) (expression_of (out-Turn m).first) && same (expression_of (out-Turn l).last) (expression_of (out-Turn m).last)))
turn_same l m = ap₂ same_turn (loop_of-is l) (loop_of-is m)

pub ruleset turn_laws = (turn_same)
