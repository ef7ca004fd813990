-- The values of constants.
use Rattle.std.proofs.Common.{◌≡◌, refl, sym, ap, ◌∙◌, ℕ, ℤ, ◌+◌, ◌<◌, ◌≤◌, Bool, List, [], ◌∷◌, map, drop, length, get_or, Result, Ok, Err, Option, Some, None}
use Rattle.std.proofs.lemmas.List.{at_drop_more, at_drop_all}
use Rattle.std.specs.List.{fold}
use mathlib.Core.Path.{ap₂}
use Rattle.std.specs.declared.boxed.Box.{Box}
use Rattle.std.specs.declared.alloc.Global.{Global}
use Rattle.tree.specs.Steps.{◌>>=◌}
use Rattle.tree.specs.Operators.{apply, call}
use Rattle.tree.specs.Plain as P
use Rattle.tree.specs.View.{expression_of, reference_of}
use Rattle.tree.specs.declared.ops.Op.{Op}
use Rattle.tree.specs.declared.functions.Fun.{Fun}
use Rattle.tree.specs.declared.functions.Red.{Red}
use Rattle.tree.specs.declared.exprs.Turn.{Turn}
use Rattle.tree.specs.declared.ops.Value.{Value}
use Rattle.tree.specs.declared.ops.Value.TheVariants.{Int, Truth}
use Rattle.tree.specs.declared.ops.Fault.{Fault}
use Rattle.tree.specs.declared.ops.Fault.TheVariants.{Allocated}
use Rattle.tree.specs.declared.lists.Seq.{Seq}
use Rattle.tree.specs.declared.exprs.Expr.{Expr}
use Rattle.tree.specs.declared.exprs.Expr.TheVariants as exprs
use Rattle.tree.specs.declared.exprs.Ref.{Ref}
use Rattle.tree.specs.declared.arguments.Arguments.{Arguments}
use Rattle.tree.specs.declared.arguments.Arguments.TheVariants.{Empty}
use Rattle.tree.specs.Arguments.{added, finished}
use Rattle.tree.proofs.Calls.{finished_is}
use Rattle.tree.proofs.Equations.{expression_of-int, expression_of-truth, expression_of-item, expression_of-un, expression_of-bin, expression_of-call, expression_of-list, expression_of-spread, expression_of-transpose, expression_of-reshape, expression_of-reduce}
use Rattle.meaning.specs.Dialect.{fortran77}
use Rattle.tree.specs.declared.width.Width.TheVariants.{Plain}
use Rattle.meaning.specs.Value.{value_of, values_of, subscript_values}
use Rattle.linear_forms.specs.Linear.{no_store, known, constant_value}

known_some : (r : Result Value Fault) (x : Value) → Some x ≡ known r → r ≡ Ok x
known_some (Ok y) x h = cc
known_some (Err f) x h = cc

-- ---- plain expressions

none_named : (x : List ℕ) (ps : P.Subscripts) → constant_value (P.Named x ps) ≡ None
none_named x ps = by (subscript_values (fortran77 Plain) ps no_store)
  where
    by : (r : Result (List ℤ) Fault) → known (◌>>=◌ r (λ is. ◌>>=◌ (Err Allocated) (λ c. Ok (no_store.held c)))) ≡ None
    by (Ok is) = refl
    by (Err f) = refl

un_some : (o : Op) (a : P.Expression) (x : Value) → Some x ≡ constant_value a → constant_value (P.Unary o a) ≡ known (apply o x x)
un_some o a x h = ap (λ (r : Result Value Fault). known (do x ← r; apply o x x)) (known_some (value_of (fortran77 Plain) a no_store) x h)

none_un : (o : Op) (r : Result Value Fault) → None ≡ known r → known (do x ← r; apply o x x) ≡ None
none_un o (Ok y) h = cc
none_un o (Err f) h = refl

bin_some : (o : Op) (a b : P.Expression) (x y : Value) → Some x ≡ constant_value a → Some y ≡ constant_value b → constant_value (P.Binary o a b) ≡ known (apply o x y)
bin_some o a b x y h g = ap₂ (λ (r q : Result Value Fault). known (do x ← r; y ← q; apply o x y)) (known_some (value_of (fortran77 Plain) a no_store) x h) (known_some (value_of (fortran77 Plain) b no_store) y g)

none_first : (o : Op) (r q : Result Value Fault) → None ≡ known r → known (do x ← r; y ← q; apply o x y) ≡ None
none_first o (Ok y) q h = cc
none_first o (Err f) q h = refl

none_second : (o : Op) (r q : Result Value Fault) → None ≡ known q → known (do x ← r; y ← q; apply o x y) ≡ None
none_second o (Ok x) (Ok y) h = cc
none_second o (Ok x) (Err f) h = refl
none_second o (Err f) q h = refl

pub plain_un_some : (o : Op) (a : P.Expression) (x : Value) → Some x ≡ constant_value a → constant_value (P.Unary o a) ≡ known (apply o x x)
plain_un_some = un_some

pub plain_un_none : (o : Op) (a : P.Expression) → None ≡ constant_value a → constant_value (P.Unary o a) ≡ None
plain_un_none o a h = none_un o (value_of (fortran77 Plain) a no_store) h

pub plain_bin_some : (o : Op) (a b : P.Expression) (x y : Value) → Some x ≡ constant_value a → Some y ≡ constant_value b → constant_value (P.Binary o a b) ≡ known (apply o x y)
plain_bin_some = bin_some

pub plain_bin_first : (o : Op) (a b : P.Expression) → None ≡ constant_value a → constant_value (P.Binary o a b) ≡ None
plain_bin_first o a b h = none_first o (value_of (fortran77 Plain) a no_store) (value_of (fortran77 Plain) b no_store) h

pub plain_bin_second : (o : Op) (a b : P.Expression) → None ≡ constant_value b → constant_value (P.Binary o a b) ≡ None
plain_bin_second o a b h = none_second o (value_of (fortran77 Plain) a no_store) (value_of (fortran77 Plain) b no_store) h

pub plain_named : (x : List ℕ) (ps : P.Subscripts) → constant_value (P.Named x ps) ≡ None
plain_named = none_named

-- ---- the same of trees

pub int_constant : (n : ℤ) → constant_value (expression_of (exprs.Int n)) ≡ Some (Int n)
int_constant n = ap constant_value (expression_of-int n)

pub truth_constant : (b : Bool) → constant_value (expression_of (exprs.Truth b)) ≡ Some (Truth b)
truth_constant b = ap constant_value (expression_of-truth b)

pub item_constant : (r : Ref) → constant_value (expression_of (exprs.Item r)) ≡ None
item_constant r = ap constant_value (expression_of-item r) ∙ none_named (reference_of r).name (reference_of r).subscripts

pub un_constant : (o : Op) (a : Box Expr Global) (x : Value) → Some x ≡ constant_value (expression_of a.value) → constant_value (expression_of (exprs.Un o a)) ≡ known (apply o x x)
un_constant o a x h = ap constant_value (expression_of-un o a) ∙ un_some o (expression_of a.value) x h

pub un_no_constant : (o : Op) (a : Box Expr Global) → None ≡ constant_value (expression_of a.value) → constant_value (expression_of (exprs.Un o a)) ≡ None
un_no_constant o a h = ap constant_value (expression_of-un o a) ∙ plain_un_none o (expression_of a.value) h

pub bin_constant : (o : Op) (a b : Box Expr Global) (x y : Value) → Some x ≡ constant_value (expression_of a.value) → Some y ≡ constant_value (expression_of b.value)
    → constant_value (expression_of (exprs.Bin o a b)) ≡ known (apply o x y)
bin_constant o a b x y h g = ap constant_value (expression_of-bin o a b) ∙ bin_some o (expression_of a.value) (expression_of b.value) x y h g

pub bin_first : (o : Op) (a b : Box Expr Global) → None ≡ constant_value (expression_of a.value) → constant_value (expression_of (exprs.Bin o a b)) ≡ None
bin_first o a b h = ap constant_value (expression_of-bin o a b) ∙ plain_bin_first o (expression_of a.value) (expression_of b.value) h

pub bin_second : (o : Op) (a b : Box Expr Global) → None ≡ constant_value (expression_of b.value) → constant_value (expression_of (exprs.Bin o a b)) ≡ None
bin_second o a b h = ap constant_value (expression_of-bin o a b) ∙ plain_bin_second o (expression_of a.value) (expression_of b.value) h

pub call_constant : (f : Fun) (es : Seq Expr) → constant_value (expression_of (exprs.Call f es)) ≡ constant_value (P.Apply f (P.expressions (map expression_of es)))
call_constant f es = ap constant_value (expression_of-call f es)

pub list_constant : (es : Seq Expr) (ls : Seq Turn) → constant_value (expression_of (exprs.List es ls)) ≡ None
list_constant es ls = ap constant_value (expression_of-list es ls)

pub spread_constant : (a : Box Expr Global) (d : ℕ) (n : Box Expr Global) → constant_value (expression_of (exprs.Spread a d n)) ≡ None
spread_constant a d n = ap constant_value (expression_of-spread a d n)

pub transpose_constant : (a : Box Expr Global) → constant_value (expression_of (exprs.Transpose a)) ≡ None
transpose_constant a = ap constant_value (expression_of-transpose a)

pub reshape_constant : (a : Box Expr Global) (es : Seq Expr) → constant_value (expression_of (exprs.Reshape a es)) ≡ None
reshape_constant a es = ap constant_value (expression_of-reshape a es)

pub reduce_constant : (r : Red) (a : Box Expr Global) → constant_value (expression_of (exprs.Reduce r a)) ≡ None
reduce_constant r a = ap constant_value (expression_of-reduce r a)

pub ruleset constant_laws = (int_constant, truth_constant, item_constant, un_constant, un_no_constant, bin_constant, bin_first, bin_second, call_constant, list_constant, spread_constant, transpose_constant, reshape_constant, reduce_constant)

-- ---- arguments, one at a time

taken_on : (f : Fun) (given : Arguments) (x : Value) (q : Result (List Value) Fault)
    → ◌≡◌ {A = Result Value Fault} (do xs ← (do xs ← q; Ok (x ∷ xs)); finished f (fold (added f) given xs)) (do xs ← q; finished f (fold (added f) (added f given x) xs))
taken_on f given x (Ok xs) = refl
taken_on f given x (Err e) = refl

-- the value of a call, where some arguments were taken and these are left
pub left_to_call : Fun → Arguments → List Expr → Option Value
left_to_call f given es = known (do xs ← values_of (fortran77 Plain) (P.expressions (map expression_of es)) no_store; finished f (fold (added f) given xs))

called : (f : Fun) (q : Result (List Value) Fault) → ◌≡◌ {A = Result Value Fault} (do xs ← q; call f xs) (do xs ← q; finished f (fold (added f) Empty xs))
called f (Ok xs) = sym (finished_is f xs)
called f (Err e) = refl

pub call_begun : (f : Fun) (es : List Expr) → constant_value (P.Apply f (P.expressions (map expression_of es))) ≡ left_to_call f Empty es
unfolding left_to_call
call_begun f es = ap known (called f (values_of (fortran77 Plain) (P.expressions (map expression_of es)) no_store))

pub call_done : (f : Fun) (given : Arguments) → left_to_call f given [] ≡ known (finished f given)
unfolding left_to_call
call_done f given = refl

none_left : (f : Fun) (given : Arguments) (r : Result Value Fault) (q : Result (List Value) Fault) → None ≡ known r
    → known (do xs ← (do x ← r; xs ← q; Ok (x ∷ xs)); finished f (fold (added f) given xs)) ≡ None
none_left f given (Ok x) q h = cc
none_left f given (Err e) q h = refl

pub call_fault : (f : Fun) (given : Arguments) (e : Expr) (es : List Expr) → None ≡ constant_value (expression_of e) → left_to_call f given (e ∷ es) ≡ None
unfolding left_to_call
call_fault f given e es h = none_left f given (value_of (fortran77 Plain) (expression_of e) no_store) (values_of (fortran77 Plain) (P.expressions (map expression_of es)) no_store) h

pub call_more : (f : Fun) (given : Arguments) (e : Expr) (es : List Expr) (x : Value) → Some x ≡ constant_value (expression_of e)
    → left_to_call f given (e ∷ es) ≡ left_to_call f (added f given x) es
unfolding left_to_call
call_more f given e es x h =
    ap (λ (r : Result Value Fault). known (do xs ← (do x ← r; xs ← values_of (fortran77 Plain) (P.expressions (map expression_of es)) no_store; Ok (x ∷ xs)); finished f (fold (added f) given xs)))
    (known_some (value_of (fortran77 Plain) (expression_of e) no_store) x h)
    ∙ ap known (taken_on f given x (values_of (fortran77 Plain) (P.expressions (map expression_of es)) no_store))

pub ruleset call_laws = (call_begun, call_done, call_fault, call_more)

module _ (whole : Option Value) (f : Fun) (given : Arguments) (es : List Expr) (i : ℕ) (so_far : whole ≡ left_to_call f given (drop i es)) where
  pub call_step_none : (e : Expr) → i < length es → e ≡ get_or es i e → None ≡ constant_value (expression_of e) → None ≡ whole
  call_step_none e l h v = sym (so_far ∙ at_drop_more (λ es. left_to_call f given es) es i e l ∙ ap (λ d. left_to_call f given (d ∷ drop (i + 1) es)) (sym h) ∙ call_fault f given e (drop (i + 1) es) v)

  pub call_step : (e : Expr) (x : Value) → i < length es → e ≡ get_or es i e → Some x ≡ constant_value (expression_of e) → whole ≡ left_to_call f (added f given x) (drop (i + 1) es)
  call_step e x l h v = so_far ∙ at_drop_more (λ es. left_to_call f given es) es i e l ∙ ap (λ d. left_to_call f given (d ∷ drop (i + 1) es)) (sym h) ∙ call_more f given e (drop (i + 1) es) x v

  pub call_end : length es ≤ i → known (finished f given) ≡ whole
  call_end l = sym (so_far ∙ at_drop_all (λ es. left_to_call f given es) es i l ∙ call_done f given)
