-- The kind of each kind of expression.
use Rattle.std.proofs.Common.{◌≡◌, ℕ, suc, ◌+◌, ℤ, Bool, false, not, ◌&&◌, List, [], ◌∷◌, map, length, true, refl, ap, sym, ◌∙◌, arith}
use Rattle.std.specs.declared.boxed.Box.{Box}
use Rattle.std.specs.declared.alloc.Global.{Global}
use Rattle.std.proofs.lemmas.List.{length-map}
use Rattle.tree.specs.Plain.{Expression, Reference, subscripts, expressions}
use Rattle.tree.specs.View.{expression_of, subscript_of}
use Rattle.tree.specs.declared.ops.Op.{Op}
use Rattle.tree.specs.declared.functions.Fun.{Fun}
use Rattle.tree.specs.declared.functions.Red.{Red}
use Rattle.tree.specs.declared.ops.Kind.{Kind}
use Rattle.tree.specs.declared.ops.Kind.TheVariants.{Integer, Logical}
use Rattle.tree.specs.declared.lists.Seq.{Seq}
use Rattle.tree.specs.declared.exprs.Expr.{Expr}
use Rattle.tree.specs.declared.exprs.Turn.{Turn}
use Rattle.tree.specs.declared.exprs.Expr.TheVariants as exprs
use Rattle.tree.specs.declared.exprs.Ref.{Ref, out-Ref}
use Rattle.tree.specs.declared.exprs.Sub.TheVariants as subs
use Rattle.tree.proofs.Equations.{expression_of-int, expression_of-truth, expression_of-item, expression_of-un, expression_of-bin, expression_of-call, subscript_of-one, reference_of-is}
use Rattle.tree.proofs.Equations.{expression_of-list, expression_of-spread, expression_of-transpose, expression_of-reshape, expression_of-reduce, subscript_of-part}
use Rattle.tree.specs.Functions.{suits_number}
use Rattle.meaning.specs.Typed77.{number_of_arguments, number_of_subscripts}
use Rattle.tree.specs.OperatorTable.{is_unary, result_kind_of, operand_kind}
use Rattle.f77_grammar.specs.program.Uses.{Use77}
use Rattle.f77_grammar.specs.program.Kinds.{same_kind, name_has_kind, has_kind, are_arguments, are_subscripts, is_subscript}
use Rattle.f77_names.proofs.UseLaws.{number_is}

pub arguments_counted : (es : List Expression) → number_of_arguments (expressions es) ≡ length es
arguments_counted [] = refl
arguments_counted (e ∷ es) = ap (λ n. 1 + n) (arguments_counted es) ∙ one (length es)
  where
    one : (n : ℕ) → 1 + n ≡ suc n
    one n = omega arith

pub kind-int : (us : List Use77) (n : ℤ) (k : Kind) → has_kind us (expression_of (exprs.Int n)) k ≡ same_kind Integer k
kind-int us n k = ap (λ e. has_kind us e k) (expression_of-int n)

pub kind-truth : (us : List Use77) (b : Bool) (k : Kind) → has_kind us (expression_of (exprs.Truth b)) k ≡ same_kind Logical k
kind-truth us b k = ap (λ e. has_kind us e k) (expression_of-truth b)

pub kind-item : (us : List Use77) (r : Ref) (k : Kind) → has_kind us (expression_of (exprs.Item r)) k
    ≡ (name_has_kind us (out-Ref r).name (length (out-Ref r).subs) k && are_subscripts us (subscripts (map subscript_of (out-Ref r).subs)))
kind-item us r k =
    ap (λ e. has_kind us e k) (expression_of-item r)
    ∙ ap (λ (q : Reference). name_has_kind us q.name (number_of_subscripts q.subscripts) k && are_subscripts us q.subscripts) (reference_of-is r)
    ∙ ap (λ n. name_has_kind us (out-Ref r).name n k && are_subscripts us (subscripts (map subscript_of (out-Ref r).subs)))
    (number_is (map subscript_of (out-Ref r).subs) ∙ length-map (out-Ref r).subs subscript_of)

pub kind-un : (us : List Use77) (o : Op) (a : Box Expr Global) (k : Kind)
    → has_kind us (expression_of (exprs.Un o a)) k ≡ (is_unary o && same_kind (result_kind_of o) k && has_kind us (expression_of a.value) (operand_kind o))
kind-un us o a k = ap (λ e. has_kind us e k) (expression_of-un o a)

pub kind-bin : (us : List Use77) (o : Op) (a b : Box Expr Global) (k : Kind)
    → has_kind us (expression_of (exprs.Bin o a b)) k
    ≡ (not (is_unary o) && same_kind (result_kind_of o) k && has_kind us (expression_of a.value) (operand_kind o) && has_kind us (expression_of b.value) (operand_kind o))
kind-bin us o a b k = ap (λ e. has_kind us e k) (expression_of-bin o a b)

pub kind-call : (us : List Use77) (f : Fun) (es : Seq Expr) (k : Kind)
    → has_kind us (expression_of (exprs.Call f es)) k ≡ (suits_number f (length es) && same_kind Integer k && are_arguments us (expressions (map expression_of es)))
kind-call us f es k =
    ap (λ e. has_kind us e k) (expression_of-call f es)
    ∙ ap (λ n. suits_number f n && same_kind Integer k && are_arguments us (expressions (map expression_of es))) (arguments_counted (map expression_of es) ∙ length-map es expression_of)

-- an expression with arrays, which FORTRAN 77 doesn't have, has no kind
pub kind-list : (us : List Use77) (es : Seq Expr) (ls : Seq Turn) (k : Kind) → has_kind us (expression_of (exprs.List es ls)) k ≡ false
kind-list us es ls k = ap (λ e. has_kind us e k) (expression_of-list es ls)

pub kind-spread : (us : List Use77) (a : Box Expr Global) (d : ℕ) (n : Box Expr Global) (k : Kind) → has_kind us (expression_of (exprs.Spread a d n)) k ≡ false
kind-spread us a d n k = ap (λ e. has_kind us e k) (expression_of-spread a d n)

pub kind-transpose : (us : List Use77) (a : Box Expr Global) (k : Kind) → has_kind us (expression_of (exprs.Transpose a)) k ≡ false
kind-transpose us a k = ap (λ e. has_kind us e k) (expression_of-transpose a)

pub kind-reshape : (us : List Use77) (a : Box Expr Global) (es : Seq Expr) (k : Kind) → has_kind us (expression_of (exprs.Reshape a es)) k ≡ false
kind-reshape us a es k = ap (λ e. has_kind us e k) (expression_of-reshape a es)

pub kind-reduce : (us : List Use77) (r : Red) (a : Box Expr Global) (k : Kind) → has_kind us (expression_of (exprs.Reduce r a)) k ≡ false
kind-reduce us r a k = ap (λ e. has_kind us e k) (expression_of-reduce r a)

pub subscript-one : (us : List Use77) (e : Expr) → is_subscript us (subscript_of (subs.One e)) ≡ has_kind us (expression_of e) Integer
subscript-one us e = ap (is_subscript us) (subscript_of-one e)

pub subscript-part : (us : List Use77) (a b c : Expr) → is_subscript us (subscript_of (subs.Part a b c)) ≡ false
subscript-part us a b c = ap (is_subscript us) (subscript_of-part a b c)

-- ---- a test and then more, as the code goes through them

pub first_holds : (g u s h r : Bool) → g ≡ (u && s) → g ≡ true → r ≡ h → r ≡ (u && s && h)
first_holds g true true h r e t k = k
first_holds g true false h r e t k = let z : ⊥ = cc in absurd z
first_holds g false s h r e t k = let z : ⊥ = cc in absurd z

pub first_fails : (g u s h : Bool) → g ≡ (u && s) → g ≡ false → g ≡ (u && s && h)
first_fails g true true h e f = let z : ⊥ = cc in absurd z
first_fails g true false h e f = e
first_fails g false s h e f = e

pub then_holds : (v x y r : Bool) → v ≡ x → v ≡ true → r ≡ y → r ≡ (x && y)
then_holds v true y r e t k = k
then_holds v false y r e t k = let z : ⊥ = cc in absurd z

pub then_fails : (v x y : Bool) → v ≡ x → v ≡ false → v ≡ (x && y)
then_fails v true y e f = let z : ⊥ = cc in absurd z
then_fails v false y e f = e

-- a kind by an expression that was told apart, of an operand that was read through its box
pub same_operand : (us : List Use77) (e f : Expr) (k j : Kind) (r : Bool) → r ≡ has_kind us (expression_of e) k → e ≡ f → k ≡ j → r ≡ has_kind us (expression_of f) j
same_operand us e f k j r h i l = h ∙ ap (λ x. has_kind us (expression_of x) k) i ∙ ap (has_kind us (expression_of f)) l

pub told : (us : List Use77) (e f : Expr) (k : Kind) (r q : Bool) → r ≡ q → e ≡ f → has_kind us (expression_of f) k ≡ q → r ≡ has_kind us (expression_of e) k
told us e f k r q h i l = h ∙ sym (ap (λ x. has_kind us (expression_of x) k) i ∙ l)

pub ruleset kind_laws = (kind-int, kind-truth, kind-item, kind-un, kind-bin, kind-call, subscript-one)
