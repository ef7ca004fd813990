-- The uses of names in parts of expressions.
use Rattle.std.proofs.Common.{◌≡◌, ℕ, ℤ, Bool, suc, ◌+◌, ◌<◌, List, [], ◌∷◌, ◌++◌, map, take, length, get_or, refl, sym, ap, ◌∙◌, append_assoc, add-one, arith}
use Rattle.std.specs.declared.boxed.Box.{Box}
use Rattle.std.specs.declared.alloc.Global.{Global}
use Rattle.std.proofs.Math.Seq.{take-suc}
use Rattle.std.proofs.lemmas.List.{map-append, length-map, append-nil}
use Rattle.tree.specs.Plain.{Expression, Subscript, Reference, subscripts, expressions}
use Rattle.tree.specs.View.{expression_of, subscript_of}
use Rattle.tree.specs.declared.ops.Op.{Op}
use Rattle.tree.specs.declared.functions.Fun.{Fun}
use Rattle.tree.specs.declared.functions.Red.{Red}
use Rattle.tree.specs.declared.lists.Seq.{Seq}
use Rattle.tree.specs.declared.exprs.Expr.{Expr}
use Rattle.tree.specs.declared.exprs.Turn.{Turn}
use Rattle.tree.specs.declared.exprs.Expr.TheVariants as exprs
use Rattle.tree.specs.declared.exprs.Ref.{Ref, out-Ref}
use Rattle.tree.specs.declared.exprs.Sub.{Sub}
use Rattle.tree.specs.declared.exprs.Sub.TheVariants as subs
use Rattle.tree.proofs.Equations.{expression_of-int, expression_of-truth, expression_of-item, expression_of-un, expression_of-bin, expression_of-call, subscript_of-one, reference_of-is}
use Rattle.tree.proofs.Equations.{expression_of-list, expression_of-spread, expression_of-transpose, expression_of-reshape, expression_of-reduce, subscript_of-part}
use Rattle.f77_grammar.specs.program.Uses as plain
use Rattle.meaning.specs.Typed77.{number_of_subscripts}

pub uses-int : (n : ℤ) → plain.uses77_in (expression_of (exprs.Int n)) ≡ []
uses-int n = ap plain.uses77_in (expression_of-int n)

pub uses-truth : (b : Bool) → plain.uses77_in (expression_of (exprs.Truth b)) ≡ []
uses-truth b = ap plain.uses77_in (expression_of-truth b)

pub uses-un : (o : Op) (a : Box Expr Global) → plain.uses77_in (expression_of (exprs.Un o a)) ≡ plain.uses77_in (expression_of a.value)
uses-un o a = ap plain.uses77_in (expression_of-un o a)

pub uses-bin : (o : Op) (a b : Box Expr Global) → plain.uses77_in (expression_of (exprs.Bin o a b)) ≡ plain.uses77_in (expression_of a.value) ++ plain.uses77_in (expression_of b.value)
uses-bin o a b = ap plain.uses77_in (expression_of-bin o a b)

pub uses-call : (f : Fun) (es : Seq Expr) → plain.uses77_in (expression_of (exprs.Call f es)) ≡ plain.uses_in_arguments (expressions (map expression_of es))
uses-call f es = ap plain.uses77_in (expression_of-call f es)

-- an expression with arrays, which FORTRAN 77 doesn't have, has none
pub uses-list : (es : Seq Expr) (ls : Seq Turn) → plain.uses77_in (expression_of (exprs.List es ls)) ≡ []
uses-list es ls = ap plain.uses77_in (expression_of-list es ls)

pub uses-spread : (a : Box Expr Global) (d : ℕ) (n : Box Expr Global) → plain.uses77_in (expression_of (exprs.Spread a d n)) ≡ []
uses-spread a d n = ap plain.uses77_in (expression_of-spread a d n)

pub uses-transpose : (a : Box Expr Global) → plain.uses77_in (expression_of (exprs.Transpose a)) ≡ []
uses-transpose a = ap plain.uses77_in (expression_of-transpose a)

pub uses-reshape : (a : Box Expr Global) (es : Seq Expr) → plain.uses77_in (expression_of (exprs.Reshape a es)) ≡ []
uses-reshape a es = ap plain.uses77_in (expression_of-reshape a es)

pub uses-reduce : (r : Red) (a : Box Expr Global) → plain.uses77_in (expression_of (exprs.Reduce r a)) ≡ []
uses-reduce r a = ap plain.uses77_in (expression_of-reduce r a)

pub uses-one : (e : Expr) → plain.uses77_in_subscript (subscript_of (subs.One e)) ≡ plain.uses77_in (expression_of e)
uses-one e = ap plain.uses77_in_subscript (subscript_of-one e)

pub uses-part : (a b c : Expr) → plain.uses77_in_subscript (subscript_of (subs.Part a b c)) ≡ []
uses-part a b c = ap plain.uses77_in_subscript (subscript_of-part a b c)

pub number_is : (ss : List Subscript) → number_of_subscripts (subscripts ss) ≡ length ss
number_is [] = refl
number_is (s ∷ ss) = ap (λ n. 1 + n) (number_is ss) ∙ one (length ss)
  where
    one : (n : ℕ) → 1 + n ≡ suc n
    one n = omega arith

pub uses-item : (r : Ref) → plain.uses77_in (expression_of (exprs.Item r))
    ≡ plain.use77_of (out-Ref r).name (plain.Valued (length (out-Ref r).subs)) ∷ plain.uses77_in_subscripts (subscripts (map subscript_of (out-Ref r).subs))
uses-item r =
    ap plain.uses77_in (expression_of-item r)
    ∙ ap (λ (q : Reference). plain.use77_of q.name (plain.Valued (number_of_subscripts q.subscripts)) ∷ plain.uses77_in_subscripts q.subscripts) (reference_of-is r)
    ∙ ap (λ n. plain.use77_of (out-Ref r).name (plain.Valued n) ∷ plain.uses77_in_subscripts (subscripts (map subscript_of (out-Ref r).subs)))
    (number_is (map subscript_of (out-Ref r).subs) ∙ length-map (out-Ref r).subs subscript_of)

pub arguments_append : (xs ys : List Expression) → plain.uses_in_arguments (expressions (xs ++ ys)) ≡ plain.uses_in_arguments (expressions xs) ++ plain.uses_in_arguments (expressions ys)
arguments_append [] ys = refl
arguments_append (x ∷ xs) ys = ap (λ us. plain.uses77_in x ++ us) (arguments_append xs ys) ∙ sym (append_assoc (plain.uses77_in x) (plain.uses_in_arguments (expressions xs)) (plain.uses_in_arguments (expressions ys)))

pub subscripts_append : (xs ys : List Subscript) → plain.uses77_in_subscripts (subscripts (xs ++ ys)) ≡ plain.uses77_in_subscripts (subscripts xs) ++ plain.uses77_in_subscripts (subscripts ys)
subscripts_append [] ys = refl
subscripts_append (x ∷ xs) ys = ap (λ us. plain.uses77_in_subscript x ++ us) (subscripts_append xs ys) ∙ sym (append_assoc (plain.uses77_in_subscript x) (plain.uses77_in_subscripts (subscripts xs)) (plain.uses77_in_subscripts (subscripts ys)))

pub one_more : {A : Type 0} (xs : List A) (i : ℕ) (x : A) → i < length xs → x ≡ get_or xs i x → take (i + 1) xs ≡ take i xs ++ x ∷ []
one_more xs i x h e = ap (λ n. take n xs) (add-one i) ∙ take-suc xs i x h ∙ ap (λ y. take i xs ++ y ∷ []) (sym e)

pub arguments_more : (items : List Expr) (i : ℕ) (x : Expr) → i < length items → x ≡ get_or items i x
    → plain.uses_in_arguments (expressions (map expression_of (take (i + 1) items))) ≡ plain.uses_in_arguments (expressions (map expression_of (take i items))) ++ plain.uses77_in (expression_of x)
arguments_more items i x h e =
    ap (λ xs. plain.uses_in_arguments (expressions (map expression_of xs))) (one_more items i x h e)
    ∙ ap (λ xs. plain.uses_in_arguments (expressions xs)) (map-append expression_of (take i items) (x ∷ []))
    ∙ arguments_append (map expression_of (take i items)) (expression_of x ∷ [])
    ∙ ap (λ us. plain.uses_in_arguments (expressions (map expression_of (take i items))) ++ us) (append-nil (plain.uses77_in (expression_of x)))

pub subscripts_more : (items : List Sub) (i : ℕ) (x : Sub) → i < length items → x ≡ get_or items i x
    → plain.uses77_in_subscripts (subscripts (map subscript_of (take (i + 1) items))) ≡ plain.uses77_in_subscripts (subscripts (map subscript_of (take i items))) ++ plain.uses77_in_subscript (subscript_of x)
subscripts_more items i x h e =
    ap (λ xs. plain.uses77_in_subscripts (subscripts (map subscript_of xs))) (one_more items i x h e)
    ∙ ap (λ xs. plain.uses77_in_subscripts (subscripts xs)) (map-append subscript_of (take i items) (x ∷ []))
    ∙ subscripts_append (map subscript_of (take i items)) (subscript_of x ∷ [])
    ∙ ap (λ us. plain.uses77_in_subscripts (subscripts (map subscript_of (take i items))) ++ us) (append-nil (plain.uses77_in_subscript (subscript_of x)))

pub nothing_added : (us vs : List plain.Use77) → vs ≡ [] → us ≡ us ++ vs
nothing_added us vs e = sym (ap (λ t. us ++ t) e ∙ append-nil us)

-- what was added before, and what is added now
pub added : (first old new before now all : List plain.Use77) → old ≡ first ++ before → new ≡ old ++ now → all ≡ before ++ now → new ≡ first ++ all
added first old new before now all e f g = f ∙ ap (λ t. t ++ now) e ∙ append_assoc first before now ∙ ap (λ t. first ++ t) (sym g)

pub ruleset use_laws = (uses-int, uses-truth, uses-un, uses-bin, uses-call, uses-list, uses-spread, uses-transpose, uses-reshape, uses-reduce, uses-one, uses-part, uses-item, append_assoc)
