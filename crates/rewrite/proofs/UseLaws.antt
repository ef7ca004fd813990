-- How names stand in expressions.
use Rattle.std.proofs.Common.{◌≡◌, ℕ, ℤ, Bool, ◌+◌, ◌<◌, List, [], ◌∷◌, ◌++◌, map, take, length, get_or, refl, sym, ap, ◌∙◌, append_assoc, add-one}
use Rattle.std.specs.declared.boxed.Box.{Box}
use Rattle.std.specs.declared.alloc.Global.{Global}
use Rattle.std.specs.List.{flat_map}
use Rattle.std.proofs.Math.Seq.{take-suc}
use Rattle.std.proofs.lemmas.Grind.{flat_map-append}
use Rattle.std.proofs.lemmas.List.{map-append, append-nil}
use Rattle.tree.specs.Plain.{Expression, Subscript, Reference, subscripts, expressions}
use Rattle.tree.specs.View.{expression_of, subscript_of, reference_of, loop_of, constructor_loops, ConstructorLoop}
use Rattle.tree.specs.declared.ops.Op.{Op}
use Rattle.tree.specs.declared.functions.Fun.{Fun}
use Rattle.tree.specs.declared.functions.Red.{Red}
use Rattle.tree.specs.declared.lists.Seq.{Seq}
use Rattle.tree.specs.declared.exprs.Expr.{Expr}
use Rattle.tree.specs.declared.exprs.Turn.{Turn, out-Turn}
use Rattle.tree.specs.declared.exprs.Expr.TheVariants as exprs
use Rattle.tree.specs.declared.exprs.Ref.{Ref, out-Ref}
use Rattle.tree.specs.declared.exprs.Sub.TheVariants as subs
use Rattle.tree.proofs.Equations.{expression_of-int, expression_of-truth, expression_of-item, expression_of-un, expression_of-bin, expression_of-call, reference_of-is, loop_of-is}
use Rattle.tree.proofs.Equations.{expression_of-list, expression_of-spread, expression_of-transpose, expression_of-reshape, expression_of-reduce, subscript_of-one, subscript_of-part}
use Rattle.rewrite.specs.declared.uses.Way.TheVariants.{Reads, Writes}
use Rattle.rewrite.specs.Names.{use_of, uses_in, uses_in_expressions, uses_in_subscript, uses_in_subscripts}
use Rattle.rewrite.specs.Names.{uses_in_loops, uses_in_target}
use Rattle.rewrite.specs.NamesAlong.{uses_in_loop}

-- ---- lists

pub each_expression : (es : List Expression) → uses_in_expressions (expressions es) ≡ flat_map uses_in es
each_expression [] = refl
each_expression (e ∷ es) = ap (λ us. uses_in e ++ us) (each_expression es)

pub each_subscript : (ps : List Subscript) → uses_in_subscripts (subscripts ps) ≡ flat_map uses_in_subscript ps
each_subscript [] = refl
each_subscript (p ∷ ps) = ap (λ us. uses_in_subscript p ++ us) (each_subscript ps)

pub each_loop : (ls : List ConstructorLoop) → uses_in_loops (constructor_loops ls) ≡ flat_map uses_in_loop ls
each_loop [] = refl
each_loop (l ∷ ls) = ap (λ us. uses_in_loop l ++ us) (each_loop ls)

pub one_more : {A : Type 0} (xs : List A) (i : ℕ) (x : A) → i < length xs → x ≡ get_or xs i x → take (i + 1) xs ≡ take i xs ++ x ∷ []
one_more xs i x h e = ap (λ n. take n xs) (add-one i) ∙ take-suc xs i x h ∙ ap (λ y. take i xs ++ y ∷ []) (sym e)

flat_more : {A B C : Type 0} (f : B → List C) (view : A → B) (list : List A) (i : ℕ) (x : A) → i < length list → x ≡ get_or list i x
    → flat_map f (map view (take (i + 1) list)) ≡ flat_map f (map view (take i list)) ++ f (view x)
flat_more f view list i x h e =
    ap (λ xs. flat_map f (map view xs)) (one_more list i x h e)
    ∙ ap (flat_map f) (map-append view (take i list) (x ∷ []))
    ∙ flat_map-append f (map view (take i list)) (view x ∷ [])
    ∙ ap (λ us. flat_map f (map view (take i list)) ++ us) (append-nil (f (view x)))

-- one item more of a list of which each adds its own
pub more : {A B C : Type 0} (f : B → List C) (view : A → B) (list : List A) (i : ℕ) (x : A) (first old new : List C)
    → i < length list → x ≡ get_or list i x → old ≡ first ++ flat_map f (map view (take i list)) → new ≡ old ++ f (view x)
    → new ≡ first ++ flat_map f (map view (take (i + 1) list))
more f view list i x first old new h e before now =
    now ∙ ap (λ us. us ++ f (view x)) before ∙ append_assoc first (flat_map f (map view (take i list))) (f (view x))
    ∙ ap (λ us. first ++ us) (sym (flat_more f view list i x h e))

-- ---- expressions

pub uses-int : (n : ℤ) → uses_in (expression_of (exprs.Int n)) ≡ []
uses-int n = ap uses_in (expression_of-int n)

pub uses-truth : (b : Bool) → uses_in (expression_of (exprs.Truth b)) ≡ []
uses-truth b = ap uses_in (expression_of-truth b)

pub uses-item : (r : Ref) → uses_in (expression_of (exprs.Item r)) ≡ use_of (reference_of r).name Reads ∷ uses_in_subscripts (reference_of r).subscripts
uses-item r = ap uses_in (expression_of-item r)

pub uses-un : (o : Op) (a : Box Expr Global) → uses_in (expression_of (exprs.Un o a)) ≡ uses_in (expression_of a.value)
uses-un o a = ap uses_in (expression_of-un o a)

pub uses-bin : (o : Op) (a b : Box Expr Global) → uses_in (expression_of (exprs.Bin o a b)) ≡ uses_in (expression_of a.value) ++ uses_in (expression_of b.value)
uses-bin o a b = ap uses_in (expression_of-bin o a b)

pub uses-call : (f : Fun) (es : Seq Expr) → uses_in (expression_of (exprs.Call f es)) ≡ flat_map uses_in (map expression_of es)
uses-call f es = ap uses_in (expression_of-call f es) ∙ each_expression (map expression_of es)

pub uses-list : (es : Seq Expr) (ls : Seq Turn) → uses_in (expression_of (exprs.List es ls)) ≡ flat_map uses_in (map expression_of es) ++ flat_map uses_in_loop (map loop_of ls)
uses-list es ls =
    ap uses_in (expression_of-list es ls) ∙ ap (λ us. us ++ uses_in_loops (constructor_loops (map loop_of ls))) (each_expression (map expression_of es))
    ∙ ap (λ us. flat_map uses_in (map expression_of es) ++ us) (each_loop (map loop_of ls))

pub uses-spread : (a : Box Expr Global) (d : ℕ) (n : Box Expr Global) → uses_in (expression_of (exprs.Spread a d n)) ≡ uses_in (expression_of a.value) ++ uses_in (expression_of n.value)
uses-spread a d n = ap uses_in (expression_of-spread a d n)

pub uses-transpose : (a : Box Expr Global) → uses_in (expression_of (exprs.Transpose a)) ≡ uses_in (expression_of a.value)
uses-transpose a = ap uses_in (expression_of-transpose a)

pub uses-reshape : (a : Box Expr Global) (es : Seq Expr) → uses_in (expression_of (exprs.Reshape a es)) ≡ uses_in (expression_of a.value) ++ flat_map uses_in (map expression_of es)
uses-reshape a es = ap uses_in (expression_of-reshape a es) ∙ ap (λ us. uses_in (expression_of a.value) ++ us) (each_expression (map expression_of es))

pub uses-reduce : (r : Red) (a : Box Expr Global) → uses_in (expression_of (exprs.Reduce r a)) ≡ uses_in (expression_of a.value)
uses-reduce r a = ap uses_in (expression_of-reduce r a)

pub uses-one : (e : Expr) → uses_in_subscript (subscript_of (subs.One e)) ≡ uses_in (expression_of e)
uses-one e = ap uses_in_subscript (subscript_of-one e)

pub uses-part : (a b c : Expr) → uses_in_subscript (subscript_of (subs.Part a b c)) ≡ uses_in (expression_of a) ++ uses_in (expression_of b) ++ uses_in (expression_of c)
uses-part a b c = ap uses_in_subscript (subscript_of-part a b c)

pub uses-turn : (l : Turn) → uses_in_loop (loop_of l) ≡ uses_in (expression_of (out-Turn l).first) ++ uses_in (expression_of (out-Turn l).last)
uses-turn l = ap uses_in_loop (loop_of-is l)

pub value-is : (r : Ref) → use_of (reference_of r).name Reads ∷ uses_in_subscripts (reference_of r).subscripts
    ≡ use_of (out-Ref r).name Reads ∷ flat_map uses_in_subscript (map subscript_of (out-Ref r).subs)
value-is r =
    ap (λ (q : Reference). use_of q.name Reads ∷ uses_in_subscripts q.subscripts) (reference_of-is r)
    ∙ ap (λ us. use_of (out-Ref r).name Reads ∷ us) (each_subscript (map subscript_of (out-Ref r).subs))

pub target-is : (r : Ref) → uses_in_target (reference_of r) ≡ use_of (out-Ref r).name Writes ∷ flat_map uses_in_subscript (map subscript_of (out-Ref r).subs)
target-is r =
    ap uses_in_target (reference_of-is r)
    ∙ ap (λ us. use_of (out-Ref r).name Writes ∷ us) (each_subscript (map subscript_of (out-Ref r).subs))

pub ruleset use_laws = (uses-int, uses-truth, uses-item, uses-un, uses-bin, uses-call, uses-list, uses-spread, uses-transpose, uses-reshape, uses-reduce, uses-one, uses-part, uses-turn, value-is, target-is, append_assoc, append-nil)
