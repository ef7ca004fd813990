-- What each kind of item is resolved to.
use Rattle.std.proofs.Common.{◌≡◌, ◌∙◌, ap, sym, refl, ℕ, ℤ, Bool, List, [], ◌∷◌, map}
use Rattle.std.specs.declared.boxed.Box.{Box}
use Rattle.std.specs.declared.alloc.Global.{Global}
use Rattle.tree.specs.Plain.{items, item, Single, Constant, ImpliedDo, Named}
use Rattle.tree.specs.View.{expression_of, reference_of, item_of}
use Rattle.tree.specs.declared.ops.Op.{Op}
use Rattle.tree.specs.declared.functions.Fun.{Fun}
use Rattle.tree.specs.declared.functions.Red.{Red}
use Rattle.tree.specs.declared.exprs.Turn.{Turn}
use Rattle.tree.specs.declared.lists.Seq.{Seq}
use Rattle.tree.specs.declared.exprs.Expr.{Expr}
use Rattle.tree.specs.declared.exprs.Expr.TheVariants as exprs
use Rattle.tree.specs.declared.exprs.Ref.{Ref}
use Rattle.tree.specs.declared.stmts.Item.{Item}
use Rattle.tree.specs.declared.stmts.Item.TheVariants as variants
use Rattle.tree.proofs.Equations.{expression_of-int, expression_of-truth, expression_of-item, expression_of-un, expression_of-bin, expression_of-call, item_of-one, item_of-text, item_of-turns, expression_of-list, expression_of-spread, expression_of-transpose, expression_of-reshape, expression_of-reduce}
use Rattle.meaning.specs.Store.{Store}
use Rattle.f77_grammar.specs.declared.directions.Direction.{Direction}
use Rattle.f77_grammar.specs.program.Uses.{Use77}
use Rattle.f77_grammar.specs.program.Tree as tree

-- ---- what is read into

pub read-item : (us : List Use77) (s : Store) (r : Ref)
    → tree.resolved_input us s (expression_of (exprs.Item r)) ≡ Named (tree.resolved_reference us s (reference_of r)).name (tree.resolved_reference us s (reference_of r)).subscripts
read-item us s r = ap (tree.resolved_input us s) (expression_of-item r)

pub read-int : (us : List Use77) (s : Store) (n : ℤ) → tree.resolved_input us s (expression_of (exprs.Int n)) ≡ tree.resolved us s (expression_of (exprs.Int n))
read-int us s n = ap (tree.resolved_input us s) (expression_of-int n) ∙ sym (ap (tree.resolved us s) (expression_of-int n))

pub read-truth : (us : List Use77) (s : Store) (b : Bool) → tree.resolved_input us s (expression_of (exprs.Truth b)) ≡ tree.resolved us s (expression_of (exprs.Truth b))
read-truth us s b = ap (tree.resolved_input us s) (expression_of-truth b) ∙ sym (ap (tree.resolved us s) (expression_of-truth b))

pub read-un : (us : List Use77) (s : Store) (o : Op) (a : Box Expr Global) → tree.resolved_input us s (expression_of (exprs.Un o a)) ≡ tree.resolved us s (expression_of (exprs.Un o a))
read-un us s o a = ap (tree.resolved_input us s) (expression_of-un o a) ∙ sym (ap (tree.resolved us s) (expression_of-un o a))

pub read-bin : (us : List Use77) (s : Store) (o : Op) (a b : Box Expr Global) → tree.resolved_input us s (expression_of (exprs.Bin o a b)) ≡ tree.resolved us s (expression_of (exprs.Bin o a b))
read-bin us s o a b = ap (tree.resolved_input us s) (expression_of-bin o a b) ∙ sym (ap (tree.resolved us s) (expression_of-bin o a b))

pub read-call : (us : List Use77) (s : Store) (f : Fun) (es : Seq Expr) → tree.resolved_input us s (expression_of (exprs.Call f es)) ≡ tree.resolved us s (expression_of (exprs.Call f es))
read-call us s f es = ap (tree.resolved_input us s) (expression_of-call f es) ∙ sym (ap (tree.resolved us s) (expression_of-call f es))

pub read-list : (us : List Use77) (s : Store) (es : Seq Expr) (ls : Seq Turn) → tree.resolved_input us s (expression_of (exprs.List es ls)) ≡ tree.resolved us s (expression_of (exprs.List es ls))
read-list us s es ls = ap (tree.resolved_input us s) (expression_of-list es ls) ∙ sym (ap (tree.resolved us s) (expression_of-list es ls))

pub read-spread : (us : List Use77) (s : Store) (a : Box Expr Global) (d : ℕ) (n : Box Expr Global) → tree.resolved_input us s (expression_of (exprs.Spread a d n)) ≡ tree.resolved us s (expression_of (exprs.Spread a d n))
read-spread us s a d n = ap (tree.resolved_input us s) (expression_of-spread a d n) ∙ sym (ap (tree.resolved us s) (expression_of-spread a d n))

pub read-transpose : (us : List Use77) (s : Store) (a : Box Expr Global) → tree.resolved_input us s (expression_of (exprs.Transpose a)) ≡ tree.resolved us s (expression_of (exprs.Transpose a))
read-transpose us s a = ap (tree.resolved_input us s) (expression_of-transpose a) ∙ sym (ap (tree.resolved us s) (expression_of-transpose a))

pub read-reshape : (us : List Use77) (s : Store) (a : Box Expr Global) (es : Seq Expr) → tree.resolved_input us s (expression_of (exprs.Reshape a es)) ≡ tree.resolved us s (expression_of (exprs.Reshape a es))
read-reshape us s a es = ap (tree.resolved_input us s) (expression_of-reshape a es) ∙ sym (ap (tree.resolved us s) (expression_of-reshape a es))

pub read-reduce : (us : List Use77) (s : Store) (r : Red) (a : Box Expr Global) → tree.resolved_input us s (expression_of (exprs.Reduce r a)) ≡ tree.resolved us s (expression_of (exprs.Reduce r a))
read-reduce us s r a = ap (tree.resolved_input us s) (expression_of-reduce r a) ∙ sym (ap (tree.resolved us s) (expression_of-reduce r a))

pub ruleset read_laws = (expression_of-item, read-item, read-int, read-truth, read-un, read-bin, read-call, read-list, read-spread, read-transpose, read-reshape, read-reduce)

-- ---- lists

pub items_resolved : (us : List Use77) (s : Store) (d : Direction) (is : List Item)
    → tree.resolved_items us s d (items (map item_of is)) ≡ items (map (λ i. tree.resolved_item us s d (item_of i)) is)
items_resolved us s d [] = refl
items_resolved us s d (i ∷ is) = ap (λ rest. item (tree.resolved_item us s d (item_of i)) rest) (items_resolved us s d is)

-- ---- items

pub item-one : (us : List Use77) (s : Store) (d : Direction) (e : Expr) → tree.resolved_item us s d (item_of (variants.One e)) ≡ Single (tree.resolved_value us s d (expression_of e))
item-one us s d e = ap (tree.resolved_item us s d) (item_of-one e)

pub item-text : (us : List Use77) (s : Store) (d : Direction) (t : Seq ℕ) → tree.resolved_item us s d (item_of (variants.Text t)) ≡ Constant t
item-text us s d t = ap (tree.resolved_item us s d) (item_of-text t)

pub item-turns : (us : List Use77) (s : Store) (d : Direction) (is : Seq Item) (x : List ℕ) (a b c : Expr) → tree.resolved_item us s d (item_of (variants.Turns is x a b c))
    ≡ ImpliedDo (items (map (λ i. tree.resolved_item us s d (item_of i)) is)) x (tree.resolved us s (expression_of a)) (tree.resolved us s (expression_of b)) (tree.resolved us s (expression_of c))
item-turns us s d is x a b c =
    ap (tree.resolved_item us s d) (item_of-turns is x a b c)
    ∙ ap (λ list. ImpliedDo list x (tree.resolved us s (expression_of a)) (tree.resolved us s (expression_of b)) (tree.resolved us s (expression_of c))) (items_resolved us s d is)

pub ruleset item_laws = (item_of-one, item_of-text, item_of-turns, item-one, item-text, item-turns)
