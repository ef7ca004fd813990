-- The names that nodes of expressions read.
use Rattle.std.proofs.Common.{◌≡◌, ℕ, ℤ, Bool, List, [], ◌∷◌, ◌++◌, map, refl, sym, ap, ◌∙◌, append_assoc}
use Rattle.std.specs.declared.boxed.Box.{Box}
use Rattle.std.specs.declared.alloc.Global.{Global}
use Rattle.std.specs.List.{flat_map}
use Rattle.std.proofs.lemmas.List.{append-nil}
use Rattle.tree.specs.Plain.{Expression, Subscript, Reference, subscripts, expressions}
use Rattle.tree.specs.View.{expression_of, subscript_of, reference_of, loop_of, constructor_loops, ConstructorLoop}
use Rattle.tree.specs.declared.ops.Op.{Op}
use Rattle.tree.specs.declared.functions.Fun.{Fun}
use Rattle.tree.specs.declared.functions.Red.{Red}
use Rattle.tree.specs.declared.lists.Seq.{Seq}
use Rattle.tree.specs.declared.exprs.Expr.{Expr}
use Rattle.tree.specs.declared.exprs.Turn.{Turn, out-Turn}
use Rattle.tree.specs.declared.exprs.Expr.TheVariants as exprs
use Rattle.tree.specs.declared.exprs.Ref.{Ref, out-Ref}
use Rattle.tree.specs.declared.exprs.Sub.TheVariants as subs
use Rattle.tree.proofs.Equations.{expression_of-int, expression_of-truth, expression_of-item, expression_of-un, expression_of-bin, expression_of-call, reference_of-is, loop_of-is}
use Rattle.tree.proofs.Equations.{expression_of-list, expression_of-spread, expression_of-transpose, expression_of-reshape, expression_of-reduce, subscript_of-one, subscript_of-part}
use Rattle.reductions.specs.Reading.{read_in, read_in_each, read_in_subscript, read_in_subscripts, read_round, read_under, without}

-- ---- lists

pub each_expression : (es : List Expression) → read_in_each (expressions es) ≡ flat_map read_in es
each_expression [] = refl
each_expression (e ∷ es) = ap (λ ns. read_in e ++ ns) (each_expression es)

pub each_subscript : (ps : List Subscript) → read_in_subscripts (subscripts ps) ≡ flat_map read_in_subscript ps
each_subscript [] = refl
each_subscript (p ∷ ps) = ap (λ ns. read_in_subscript p ++ ns) (each_subscript ps)

-- ---- nodes

pub reads-int : (n : ℤ) → read_in (expression_of (exprs.Int n)) ≡ []
reads-int n = ap read_in (expression_of-int n)

pub reads-truth : (b : Bool) → read_in (expression_of (exprs.Truth b)) ≡ []
reads-truth b = ap read_in (expression_of-truth b)

pub reads-item : (r : Ref) → read_in (expression_of (exprs.Item r)) ≡ (reference_of r).name ∷ read_in_subscripts (reference_of r).subscripts
reads-item r = ap read_in (expression_of-item r)

pub reads-un : (o : Op) (a : Box Expr Global) → read_in (expression_of (exprs.Un o a)) ≡ read_in (expression_of a.value)
reads-un o a = ap read_in (expression_of-un o a)

pub reads-bin : (o : Op) (a b : Box Expr Global) → read_in (expression_of (exprs.Bin o a b)) ≡ read_in (expression_of a.value) ++ read_in (expression_of b.value)
reads-bin o a b = ap read_in (expression_of-bin o a b)

pub reads-call : (f : Fun) (es : Seq Expr) → read_in (expression_of (exprs.Call f es)) ≡ flat_map read_in (map expression_of es)
reads-call f es = ap read_in (expression_of-call f es) ∙ each_expression (map expression_of es)

pub reads-list : (es : Seq Expr) (ls : Seq Turn) → read_in (expression_of (exprs.List es ls)) ≡ read_under (constructor_loops (map loop_of ls)) (flat_map read_in (map expression_of es))
reads-list es ls = ap read_in (expression_of-list es ls) ∙ ap (read_under (constructor_loops (map loop_of ls))) (each_expression (map expression_of es))

pub reads-spread : (a : Box Expr Global) (d : ℕ) (n : Box Expr Global) → read_in (expression_of (exprs.Spread a d n)) ≡ read_in (expression_of a.value) ++ read_in (expression_of n.value)
reads-spread a d n = ap read_in (expression_of-spread a d n)

pub reads-transpose : (a : Box Expr Global) → read_in (expression_of (exprs.Transpose a)) ≡ read_in (expression_of a.value)
reads-transpose a = ap read_in (expression_of-transpose a)

pub reads-reshape : (a : Box Expr Global) (es : Seq Expr) → read_in (expression_of (exprs.Reshape a es)) ≡ read_in (expression_of a.value) ++ flat_map read_in (map expression_of es)
reads-reshape a es = ap read_in (expression_of-reshape a es) ∙ ap (λ ns. read_in (expression_of a.value) ++ ns) (each_expression (map expression_of es))

pub reads-reduce : (r : Red) (a : Box Expr Global) → read_in (expression_of (exprs.Reduce r a)) ≡ read_in (expression_of a.value)
reads-reduce r a = ap read_in (expression_of-reduce r a)

pub reads-one : (e : Expr) → read_in_subscript (subscript_of (subs.One e)) ≡ read_in (expression_of e)
reads-one e = ap read_in_subscript (subscript_of-one e)

pub reads-part : (a b c : Expr) → read_in_subscript (subscript_of (subs.Part a b c)) ≡ read_in (expression_of a) ++ (read_in (expression_of b) ++ read_in (expression_of c))
reads-part a b c = ap read_in_subscript (subscript_of-part a b c)

pub reads-turn : (l : Turn) → read_in (loop_of l).first ++ read_in (loop_of l).last ≡ read_in (expression_of (out-Turn l).first) ++ read_in (expression_of (out-Turn l).last)
reads-turn l = ap (λ (m : ConstructorLoop). read_in m.first ++ read_in m.last) (loop_of-is l)

pub reads-value : (r : Ref) → (reference_of r).name ∷ read_in_subscripts (reference_of r).subscripts ≡ (out-Ref r).name ∷ flat_map read_in_subscript (map subscript_of (out-Ref r).subs)
reads-value r =
    ap (λ (q : Reference). q.name ∷ read_in_subscripts q.subscripts) (reference_of-is r)
    ∙ ap (λ ns. (out-Ref r).name ∷ ns) (each_subscript (map subscript_of (out-Ref r).subs))

pub ruleset reading_laws = (reads-int, reads-truth, reads-item, reads-un, reads-bin, reads-call, reads-list, reads-spread, reads-transpose, reads-reshape, reads-reduce, reads-one, reads-part, reads-turn, reads-value, append_assoc, append-nil)
