-- The uses of names in targets and in items of lists.
use Rattle.std.proofs.Common.{◌≡◌, ℕ, ℤ, Bool, suc, ◌+◌, ◌<◌, List, [], ◌∷◌, ◌++◌, map, take, length, get_or, refl, sym, ap, ◌∙◌, append_assoc, add-one, arith}
use Rattle.std.specs.declared.boxed.Box.{Box}
use Rattle.std.specs.declared.alloc.Global.{Global}
use Rattle.std.proofs.lemmas.List.{map-append, length-map, append-nil}
use Rattle.tree.specs.Plain.{Reference, Item, items, subscripts}
use Rattle.tree.specs.View.{expression_of, subscript_of, reference_of, item_of}
use Rattle.tree.specs.declared.names.Name.{Name}
use Rattle.tree.specs.declared.ops.Op.{Op}
use Rattle.tree.specs.declared.functions.Fun.{Fun}
use Rattle.tree.specs.declared.functions.Red.{Red}
use Rattle.tree.specs.declared.lists.Seq.{Seq}
use Rattle.tree.specs.declared.exprs.Expr.{Expr}
use Rattle.tree.specs.declared.exprs.Turn.{Turn}
use Rattle.tree.specs.declared.exprs.Expr.TheVariants as exprs
use Rattle.tree.specs.declared.exprs.Ref.{Ref, out-Ref}
use Rattle.tree.specs.declared.stmts.Item.{Item as Item'}
use Rattle.tree.specs.declared.stmts.Item.TheVariants as variants
use Rattle.tree.proofs.Equations.{expression_of-int, expression_of-truth, expression_of-item, expression_of-un, expression_of-bin, expression_of-call, reference_of-is, item_of-one, item_of-text, item_of-turns}
use Rattle.tree.proofs.Equations.{expression_of-list, expression_of-spread, expression_of-transpose, expression_of-reshape, expression_of-reduce}
use Rattle.f77_grammar.specs.declared.directions.Direction.{Direction}
use Rattle.f77_grammar.specs.program.Uses as plain
use Rattle.f77_names.proofs.UseLaws.{number_is, one_more}

pub target-is : (r : Ref) → plain.target_uses (reference_of r).name (reference_of r).subscripts
    ≡ plain.use77_of (out-Ref r).name (plain.Target (length (out-Ref r).subs)) ∷ plain.uses77_in_subscripts (subscripts (map subscript_of (out-Ref r).subs))
target-is r =
    ap (λ (q : Reference). plain.target_uses q.name q.subscripts) (reference_of-is r)
    ∙ ap (λ n. plain.use77_of (out-Ref r).name (plain.Target n) ∷ plain.uses77_in_subscripts (subscripts (map subscript_of (out-Ref r).subs)))
    (number_is (map subscript_of (out-Ref r).subs) ∙ length-map (out-Ref r).subs subscript_of)

pub input-item : (r : Ref) → plain.input_uses (expression_of (exprs.Item r)) ≡ plain.target_uses (reference_of r).name (reference_of r).subscripts
input-item r = ap plain.input_uses (expression_of-item r)

pub input-int : (n : ℤ) → plain.input_uses (expression_of (exprs.Int n)) ≡ plain.uses77_in (expression_of (exprs.Int n))
input-int n = ap plain.input_uses (expression_of-int n) ∙ sym (ap plain.uses77_in (expression_of-int n))

pub input-truth : (b : Bool) → plain.input_uses (expression_of (exprs.Truth b)) ≡ plain.uses77_in (expression_of (exprs.Truth b))
input-truth b = ap plain.input_uses (expression_of-truth b) ∙ sym (ap plain.uses77_in (expression_of-truth b))

pub input-un : (o : Op) (a : Box Expr Global) → plain.input_uses (expression_of (exprs.Un o a)) ≡ plain.uses77_in (expression_of (exprs.Un o a))
input-un o a = ap plain.input_uses (expression_of-un o a) ∙ sym (ap plain.uses77_in (expression_of-un o a))

pub input-bin : (o : Op) (a b : Box Expr Global) → plain.input_uses (expression_of (exprs.Bin o a b)) ≡ plain.uses77_in (expression_of (exprs.Bin o a b))
input-bin o a b = ap plain.input_uses (expression_of-bin o a b) ∙ sym (ap plain.uses77_in (expression_of-bin o a b))

pub input-call : (f : Fun) (es : Seq Expr) → plain.input_uses (expression_of (exprs.Call f es)) ≡ plain.uses77_in (expression_of (exprs.Call f es))
input-call f es = ap plain.input_uses (expression_of-call f es) ∙ sym (ap plain.uses77_in (expression_of-call f es))

pub input-list : (es : Seq Expr) (ls : Seq Turn) → plain.input_uses (expression_of (exprs.List es ls)) ≡ plain.uses77_in (expression_of (exprs.List es ls))
input-list es ls = ap plain.input_uses (expression_of-list es ls) ∙ sym (ap plain.uses77_in (expression_of-list es ls))

pub input-spread : (a : Box Expr Global) (d : ℕ) (n : Box Expr Global) → plain.input_uses (expression_of (exprs.Spread a d n)) ≡ plain.uses77_in (expression_of (exprs.Spread a d n))
input-spread a d n = ap plain.input_uses (expression_of-spread a d n) ∙ sym (ap plain.uses77_in (expression_of-spread a d n))

pub input-transpose : (a : Box Expr Global) → plain.input_uses (expression_of (exprs.Transpose a)) ≡ plain.uses77_in (expression_of (exprs.Transpose a))
input-transpose a = ap plain.input_uses (expression_of-transpose a) ∙ sym (ap plain.uses77_in (expression_of-transpose a))

pub input-reshape : (a : Box Expr Global) (es : Seq Expr) → plain.input_uses (expression_of (exprs.Reshape a es)) ≡ plain.uses77_in (expression_of (exprs.Reshape a es))
input-reshape a es = ap plain.input_uses (expression_of-reshape a es) ∙ sym (ap plain.uses77_in (expression_of-reshape a es))

pub input-reduce : (r : Red) (a : Box Expr Global) → plain.input_uses (expression_of (exprs.Reduce r a)) ≡ plain.uses77_in (expression_of (exprs.Reduce r a))
input-reduce r a = ap plain.input_uses (expression_of-reduce r a) ∙ sym (ap plain.uses77_in (expression_of-reduce r a))

-- ---- lists

pub item-one : (d : Direction) (e : Expr) → plain.uses_in_item d (item_of (variants.One e)) ≡ plain.value_uses d (expression_of e)
item-one d e = ap (plain.uses_in_item d) (item_of-one e)

pub item-text : (d : Direction) (t : Seq ℕ) → plain.uses_in_item d (item_of (variants.Text t)) ≡ []
item-text d t = ap (plain.uses_in_item d) (item_of-text t)

pub item-turns : (d : Direction) (is : Seq Item') (x : Name) (a b c : Expr) → plain.uses_in_item d (item_of (variants.Turns is x a b c))
    ≡ plain.uses_in_items d (items (map item_of is)) ++ plain.control_uses x (expression_of a) (expression_of b) (expression_of c)
item-turns d is x a b c = ap (plain.uses_in_item d) (item_of-turns is x a b c)

items_append : (d : Direction) (xs ys : List Item) → plain.uses_in_items d (items (xs ++ ys)) ≡ plain.uses_in_items d (items xs) ++ plain.uses_in_items d (items ys)
items_append d [] ys = refl
items_append d (x ∷ xs) ys = ap (λ us. plain.uses_in_item d x ++ us) (items_append d xs ys) ∙ sym (append_assoc (plain.uses_in_item d x) (plain.uses_in_items d (items xs)) (plain.uses_in_items d (items ys)))

pub items_more : (d : Direction) (list : List Item') (i : ℕ) (x : Item') → i < length list → x ≡ get_or list i x
    → plain.uses_in_items d (items (map item_of (take (i + 1) list))) ≡ plain.uses_in_items d (items (map item_of (take i list))) ++ plain.uses_in_item d (item_of x)
items_more d list i x h e =
    ap (λ xs. plain.uses_in_items d (items (map item_of xs))) (one_more list i x h e)
    ∙ ap (λ xs. plain.uses_in_items d (items xs)) (map-append item_of (take i list) (x ∷ []))
    ∙ items_append d (map item_of (take i list)) (item_of x ∷ [])
    ∙ ap (λ us. plain.uses_in_items d (items (map item_of (take i list))) ++ us) (append-nil (plain.uses_in_item d (item_of x)))

pub ruleset item_use_laws = (target-is, input-item, input-int, input-truth, input-un, input-bin, input-call, input-list, input-spread, input-transpose, input-reshape, input-reduce, item-one, item-text, item-turns, append_assoc, append-nil)
