-- How much there is to evaluate in an expression: what each step of an evaluation has less of.
use Rattle.std.proofs.Common.{◌≡◌, refl, sym, ap, ◌∙◌, zero, suc, ℕ, ◌+◌, ◌<◌, ◌≤◌, ℤ, Bool, List, [], ◌∷◌, ◌++◌, map, length, get_or, arith}
use Rattle.std.specs.declared.boxed.Box.{Box}
use Rattle.std.specs.declared.alloc.Global.{Global}
use Rattle.std.proofs.lemmas.List.{map-append}
use Rattle.tree.specs.Plain as P
use Rattle.tree.specs.Plain.{Expression, Number, Logic, Named, Unary, Binary, Apply, Constructor, Spread, Transpose}
use Rattle.tree.specs.Plain.{Reshape, Reduce, Expressions, no_expressions, expression, Subscript, Only, Section}
use Rattle.tree.specs.Plain.{Subscripts, no_subscripts, subscript, Loops, no_loops, loop}
use Rattle.tree.specs.View.{expression_of, subscript_of, reference_of, loop_of, constructor_loops, ConstructorLoop}
use Rattle.tree.specs.declared.ops.Op.{Op}
use Rattle.tree.specs.declared.functions.Fun.{Fun}
use Rattle.tree.specs.declared.functions.Red.{Red}
use Rattle.tree.specs.declared.lists.Seq.{Seq}
use Rattle.tree.specs.declared.exprs.Turn.{Turn, out-Turn}
use Rattle.tree.specs.declared.exprs.Expr.{Expr}
use Rattle.tree.specs.declared.exprs.Expr.TheVariants as exprs
use Rattle.tree.specs.declared.exprs.Sub.{Sub}
use Rattle.tree.specs.declared.exprs.Sub.TheVariants as subs
use Rattle.tree.specs.declared.exprs.Ref.{Ref, out-Ref}
use Rattle.tree.proofs.Equations.{expression_of-item, expression_of-un, expression_of-bin, expression_of-call, expression_of-list, expression_of-spread, expression_of-transpose, expression_of-reshape, expression_of-reduce, subscript_of-one, subscript_of-part, reference_of-is, loop_of-is}

abbrev mutual
  pub weight : Expression → ℕ
  weight (Number n) = 0
  weight (Logic b) = 0
  weight (Named x ps) = 3 + weight_of_subscripts ps
  weight (Unary o a) = 3 + weight a
  weight (Binary o a b) = 3 + (weight a + weight b)
  weight (Apply f es) = 3 + weight_of_each es
  weight (Constructor es ls) = 3 + (weight_of_each es + weight_of_loops ls)
  weight (Spread a k e) = 3 + (weight a + weight e)
  weight (Transpose a) = 3 + weight a
  weight (Reshape a es) = 3 + (weight a + weight_of_each es)
  weight (Reduce r a) = 3 + weight a

  pub weight_of_each : Expressions → ℕ
  weight_of_each no_expressions = 0
  weight_of_each (expression e es) = 3 + (weight e + weight_of_each es)

  pub weight_of_subscript : Subscript → ℕ
  weight_of_subscript (Only e) = 3 + weight e
  weight_of_subscript (Section a b c) = 3 + (weight a + (weight b + weight c))

  pub weight_of_subscripts : Subscripts → ℕ
  weight_of_subscripts no_subscripts = 0
  weight_of_subscripts (subscript p ps) = 3 + (weight_of_subscript p + weight_of_subscripts ps)

  pub weight_of_loops : Loops → ℕ
  weight_of_loops no_loops = 0
  weight_of_loops (loop x a b ls) = 3 + (weight a + (weight b + weight_of_loops ls))

abbrev pub weight_in : Expr → ℕ
weight_in e = weight (expression_of e)

abbrev pub weight_in_each : List Expr → ℕ
weight_in_each es = weight_of_each (P.expressions (map expression_of es))

abbrev pub weight_in_sub : Sub → ℕ
weight_in_sub p = weight_of_subscript (subscript_of p)

abbrev pub weight_in_subs : List Sub → ℕ
weight_in_subs ps = weight_of_subscripts (P.subscripts (map subscript_of ps))

abbrev pub weight_in_turns : List Turn → ℕ
weight_in_turns ls = weight_of_loops (constructor_loops (map loop_of ls))

-- ---- by the form of an expression

pub item_weight : (r : Ref) → weight_in (exprs.Item r) ≡ 3 + weight_in_subs (out-Ref r).subs
item_weight r = ap weight (expression_of-item r) ∙ ap (λ (q : P.Reference). 3 + weight_of_subscripts q.subscripts) (reference_of-is r)

pub un_weight : (o : Op) (a : Box Expr Global) → weight_in (exprs.Un o a) ≡ 3 + weight_in a.value
un_weight o a = ap weight (expression_of-un o a)

pub bin_weight : (o : Op) (a b : Box Expr Global) → weight_in (exprs.Bin o a b) ≡ 3 + (weight_in a.value + weight_in b.value)
bin_weight o a b = ap weight (expression_of-bin o a b)

pub call_weight : (f : Fun) (es : Seq Expr) → weight_in (exprs.Call f es) ≡ 3 + weight_in_each es
call_weight f es = ap weight (expression_of-call f es)

pub list_weight : (es : Seq Expr) (ls : Seq Turn) → weight_in (exprs.List es ls) ≡ 3 + (weight_in_each es + weight_in_turns ls)
list_weight es ls = ap weight (expression_of-list es ls)

pub spread_weight : (a : Box Expr Global) (d : ℕ) (n : Box Expr Global) → weight_in (exprs.Spread a d n) ≡ 3 + (weight_in a.value + weight_in n.value)
spread_weight a d n = ap weight (expression_of-spread a d n)

pub transpose_weight : (a : Box Expr Global) → weight_in (exprs.Transpose a) ≡ 3 + weight_in a.value
transpose_weight a = ap weight (expression_of-transpose a)

pub reshape_weight : (a : Box Expr Global) (es : Seq Expr) → weight_in (exprs.Reshape a es) ≡ 3 + (weight_in a.value + weight_in_each es)
reshape_weight a es = ap weight (expression_of-reshape a es)

pub reduce_weight : (r : Red) (a : Box Expr Global) → weight_in (exprs.Reduce r a) ≡ 3 + weight_in a.value
reduce_weight r a = ap weight (expression_of-reduce r a)

pub one_weight : (e : Expr) → weight_in_sub (subs.One e) ≡ 3 + weight_in e
one_weight e = ap weight_of_subscript (subscript_of-one e)

pub part_weight : (a b c : Expr) → weight_in_sub (subs.Part a b c) ≡ 3 + (weight_in a + (weight_in b + weight_in c))
part_weight a b c = ap weight_of_subscript (subscript_of-part a b c)

-- ---- one of a list

pub each_lighter : (es : List Expr) (i : ℕ) (e : Expr) → i < length es → e ≡ get_or es i e → weight_in e + 3 ≤ weight_in_each es
each_lighter [] i e h k = absurd (omega arith)
each_lighter (d ∷ es) zero e h k = (let same : weight_in e ≡ weight_in d = ap weight_in k in omega arith)
each_lighter (d ∷ es) (suc i) e h k = (let rest = each_lighter es i e (omega arith) k in omega arith)

pub sub_lighter : (ps : List Sub) (i : ℕ) (p : Sub) → i < length ps → p ≡ get_or ps i p → weight_in_sub p + 3 ≤ weight_in_subs ps
sub_lighter [] i p h k = absurd (omega arith)
sub_lighter (q ∷ ps) zero p h k = (let same : weight_in_sub p ≡ weight_in_sub q = ap weight_in_sub k in omega arith)
sub_lighter (q ∷ ps) (suc i) p h k = (let rest = sub_lighter ps i p (omega arith) k in omega arith)

-- the outermost loop stands last
turns_split : (ls : List Turn) (t : Turn) → weight_in_turns (ls ++ t ∷ []) ≡ weight_in_turns ls + (3 + (weight (loop_of t).first + weight (loop_of t).last))
turns_split [] t = omega arith
turns_split (l ∷ ls) t = (let rest = turns_split ls t in omega arith)

pub last_weight : (ts : List Turn) (ls : List Turn) (t : Turn) → ts ≡ ls ++ t ∷ [] → weight_in_turns ts ≡ weight_in_turns ls + (3 + (weight_in (out-Turn t).first + weight_in (out-Turn t).last))
last_weight ts ls t e = ap weight_in_turns e ∙ turns_split ls t ∙ ap (λ (l : ConstructorLoop). weight_in_turns ls + (3 + (weight l.first + weight l.last))) (loop_of-is t)

pub ruleset weight_laws = (item_weight, un_weight, bin_weight, call_weight, list_weight, spread_weight, transpose_weight, reshape_weight, reduce_weight, one_weight, part_weight)
