-- The values of expressions, by their forms.
use Rattle.std.proofs.Common.{◌≡◌, refl, sym, ap, ◌∙◌, ℕ, ℤ, Bool, List, [], ◌∷◌, map, Result, Ok, Err}
use Rattle.std.specs.declared.boxed.Box.{Box}
use Rattle.std.specs.declared.alloc.Global.{Global}
use Rattle.tree.specs.Steps.{◌>>=◌}
use Rattle.tree.specs.Operators.{apply, call, as_number, as_numbers, reduced}
use Rattle.tree.specs.Plain as P
use Rattle.tree.specs.View.{expression_of, subscript_of, reference_of}
use Rattle.tree.specs.declared.ops.Op.{Op}
use Rattle.tree.specs.declared.functions.Fun.{Fun}
use Rattle.tree.specs.declared.functions.Red.{Red}
use Rattle.tree.specs.declared.ops.Value.{Value}
use Rattle.tree.specs.declared.ops.Value.TheVariants.{Int, Truth}
use Rattle.tree.specs.declared.ops.Fault.{Fault}
use Rattle.tree.specs.declared.ops.Fault.TheVariants.{Shape}
use Rattle.tree.specs.declared.lists.Seq.{Seq}
use Rattle.tree.specs.declared.exprs.Turn.{Turn}
use Rattle.tree.specs.declared.exprs.Expr.{Expr}
use Rattle.tree.specs.declared.exprs.Expr.TheVariants as exprs
use Rattle.tree.specs.declared.exprs.Sub.{Sub}
use Rattle.tree.specs.declared.exprs.Sub.TheVariants as subs
use Rattle.tree.specs.declared.exprs.Ref.{Ref, out-Ref}
use Rattle.tree.proofs.Equations.{expression_of-int, expression_of-truth, expression_of-item, expression_of-un, expression_of-bin, expression_of-call, expression_of-list, expression_of-spread, expression_of-transpose, expression_of-reshape, expression_of-reduce, subscript_of-one, subscript_of-part, reference_of-is}
use Rattle.meaning.specs.ArrayValues.{each}
use Rattle.meaning.specs.Dialect.{fortran90}
use Rattle.tree.specs.declared.width.Width.{Width}
use Rattle.meaning.specs.Store.{Store, Cell, cell_at}
use Rattle.meaning.specs.Value.{value_of, values_of, subscript_value, subscript_values}
use Rattle.array_expressions.specs.Scopes.{element_of, held_at, call_of, number_at, reduction_of}

module _ (width : Width) (s : Store) where
  pub int_value : (n : ℤ) → value_of (fortran90 width) (expression_of (exprs.Int n)) s ≡ Ok (Int n)
  int_value n = ap (λ e. value_of (fortran90 width) e s) (expression_of-int n)

  pub truth_value : (b : Bool) → value_of (fortran90 width) (expression_of (exprs.Truth b)) s ≡ Ok (Truth b)
  truth_value b = ap (λ e. value_of (fortran90 width) e s) (expression_of-truth b)

  named_is : (r : P.Reference) → value_of (fortran90 width) (P.Named r.name r.subscripts) s ≡ element_of width r s
  named_is r = refl

  pub item_value : (r : Ref) → value_of (fortran90 width) (expression_of (exprs.Item r)) s ≡ element_of width (reference_of r) s
  item_value r = ap (λ e. value_of (fortran90 width) e s) (expression_of-item r)

  pub un_value : (o : Op) (a : Box Expr Global) → value_of (fortran90 width) (expression_of (exprs.Un o a)) s ≡ (do x ← value_of (fortran90 width) (expression_of a.value) s; apply o x x)
  un_value o a = ap (λ e. value_of (fortran90 width) e s) (expression_of-un o a)

  pub bin_value : (o : Op) (a b : Box Expr Global) → value_of (fortran90 width) (expression_of (exprs.Bin o a b)) s
      ≡ (do x ← value_of (fortran90 width) (expression_of a.value) s; y ← value_of (fortran90 width) (expression_of b.value) s; apply o x y)
  bin_value o a b = ap (λ e. value_of (fortran90 width) e s) (expression_of-bin o a b)

  pub call_value : (f : Fun) (es : Seq Expr) → value_of (fortran90 width) (expression_of (exprs.Call f es)) s ≡ call_of width f (P.expressions (map expression_of es)) s
  call_value f es = ap (λ e. value_of (fortran90 width) e s) (expression_of-call f es)

  pub reduce_value : (r : Red) (a : Box Expr Global) → value_of (fortran90 width) (expression_of (exprs.Reduce r a)) s ≡ reduction_of width r (expression_of a.value) s
  reduce_value r a = ap (λ e. value_of (fortran90 width) e s) (expression_of-reduce r a)

  pub list_value : (es : Seq Expr) (ls : Seq Turn) → value_of (fortran90 width) (expression_of (exprs.List es ls)) s ≡ Err Shape
  list_value es ls = ap (λ e. value_of (fortran90 width) e s) (expression_of-list es ls)

  pub spread_value : (a : Box Expr Global) (d : ℕ) (n : Box Expr Global) → value_of (fortran90 width) (expression_of (exprs.Spread a d n)) s ≡ Err Shape
  spread_value a d n = ap (λ e. value_of (fortran90 width) e s) (expression_of-spread a d n)

  pub transpose_value : (a : Box Expr Global) → value_of (fortran90 width) (expression_of (exprs.Transpose a)) s ≡ Err Shape
  transpose_value a = ap (λ e. value_of (fortran90 width) e s) (expression_of-transpose a)

  pub reshape_value : (a : Box Expr Global) (es : Seq Expr) → value_of (fortran90 width) (expression_of (exprs.Reshape a es)) s ≡ Err Shape
  reshape_value a es = ap (λ e. value_of (fortran90 width) e s) (expression_of-reshape a es)

  pub one_value : (e : Expr) → subscript_value (fortran90 width) (subscript_of (subs.One e)) s ≡ number_at width (expression_of e) s
  one_value e = ap (λ p. subscript_value (fortran90 width) p s) (subscript_of-one e)

  pub part_value : (a b c : Expr) → subscript_value (fortran90 width) (subscript_of (subs.Part a b c)) s ≡ Err Shape
  part_value a b c = ap (λ p. subscript_value (fortran90 width) p s) (subscript_of-part a b c)

  pub element_value : (r : Ref) → element_of width (reference_of r) s ≡ (do is ← subscript_values (fortran90 width) (P.subscripts (map subscript_of (out-Ref r).subs)) s; held_at (out-Ref r).name is s)
  element_value r = ap (λ q. element_of width q s) (reference_of-is r)

  -- ---- lists, each in turn

  pub values_each : (es : List Expr) → values_of (fortran90 width) (P.expressions (map expression_of es)) s ≡ each (λ e. value_of (fortran90 width) (expression_of e) s) es
  values_each [] = refl
  values_each (e ∷ es) = ap (λ (q : Result (List Value) Fault). do x ← value_of (fortran90 width) (expression_of e) s; xs ← q; Ok (x ∷ xs)) (values_each es)

  pub subscripts_each : (ps : List Sub) → subscript_values (fortran90 width) (P.subscripts (map subscript_of ps)) s ≡ each (λ p. subscript_value (fortran90 width) (subscript_of p) s) ps
  subscripts_each [] = refl
  subscripts_each (p ∷ ps) = ap (λ (q : Result (List ℤ) Fault). do i ← subscript_value (fortran90 width) (subscript_of p) s; is ← q; Ok (i ∷ is)) (subscripts_each ps)

pub ruleset value_laws = (int_value, truth_value, list_value, spread_value, transpose_value, reshape_value)

pub ruleset element_laws = (element_value)

pub ruleset subscript_laws = (one_value, part_value)
