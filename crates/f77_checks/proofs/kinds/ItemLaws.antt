-- What suits in lists, for each kind of item.
use Rattle.std.proofs.Common.{◌≡◌, ◌≢◌, ℕ, ℤ, Bool, true, false, ◌&&◌, List, [], ◌∷◌, map, refl, sym, ap, ◌∙◌}
use Rattle.std.specs.declared.boxed.Box.{Box}
use Rattle.std.specs.declared.alloc.Global.{Global}
use Rattle.tree.specs.Plain.{Named, Reference, items, subscripts}
use Rattle.tree.specs.View.{expression_of, subscript_of, item_of}
use Rattle.tree.specs.declared.names.Name.{Name}
use Rattle.tree.specs.declared.ops.Op.{Op}
use Rattle.tree.specs.declared.functions.Fun.{Fun}
use Rattle.tree.specs.declared.functions.Red.{Red}
use Rattle.tree.specs.declared.lists.Seq.{Seq}
use Rattle.tree.specs.declared.exprs.Expr.{Expr}
use Rattle.tree.specs.declared.exprs.Turn.{Turn}
use Rattle.tree.specs.declared.exprs.Expr.TheVariants as exprs
use Rattle.tree.specs.declared.exprs.Ref.{Ref, out-Ref}
use Rattle.tree.specs.declared.exprs.Sub.{Sub}
use Rattle.tree.specs.declared.stmts.Item.{Item}
use Rattle.tree.specs.declared.stmts.Item.TheVariants as variants
use Rattle.tree.proofs.Equations.{expression_of-int, expression_of-truth, expression_of-item, expression_of-un, expression_of-bin, expression_of-call, reference_of-is, item_of-one, item_of-text, item_of-turns}
use Rattle.tree.proofs.Equations.{expression_of-list, expression_of-spread, expression_of-transpose, expression_of-reshape, expression_of-reduce}
use Rattle.f77_grammar.specs.program.Uses.{Use77, is_array_name}
use Rattle.f77_grammar.specs.statements.Items.{takes_text}
use Rattle.f77_grammar.specs.declared.directions.Direction.{Direction}
use Rattle.f77_grammar.specs.program.Kinds.{has_some_kind, are_numbers, are_subscripts, suits_output, suits_input, suits_value, suits_item, suits_items}

-- a reference as an expression
item-is : (r : Ref) → expression_of (exprs.Item r) ≡ Named (out-Ref r).name (subscripts (map subscript_of (out-Ref r).subs))
item-is r = expression_of-item r ∙ ap (λ (q : Reference). Named q.name q.subscripts) (reference_of-is r)

-- ---- output lists

pub output-alone : (us : List Use77) (r : Ref) → (out-Ref r).subs ≡ [] → suits_output us (expression_of (exprs.Item r)) ≡ true
output-alone us r h = ap (suits_output us) (item-is r) ∙ ap (λ (ss : List Sub). suits_output us (Named (out-Ref r).name (subscripts (map subscript_of ss)))) h

pub output-listed : (us : List Use77) (r : Ref) → (out-Ref r).subs ≢ [] → suits_output us (expression_of (exprs.Item r)) ≡ has_some_kind us (expression_of (exprs.Item r))
output-listed us r h = ap (suits_output us) (item-is r) ∙ cases (out-Ref r).subs h ∙ ap (has_some_kind us) (sym (item-is r))
  where
    cases : (ss : List Sub) → ss ≢ [] → suits_output us (Named (out-Ref r).name (subscripts (map subscript_of ss))) ≡ has_some_kind us (Named (out-Ref r).name (subscripts (map subscript_of ss)))
    cases [] some = absurd (some refl)
    cases (s ∷ ss) some = refl

pub output-int : (us : List Use77) (n : ℤ) → suits_output us (expression_of (exprs.Int n)) ≡ has_some_kind us (expression_of (exprs.Int n))
output-int us n = ap (suits_output us) (expression_of-int n) ∙ ap (has_some_kind us) (sym (expression_of-int n))

pub output-truth : (us : List Use77) (b : Bool) → suits_output us (expression_of (exprs.Truth b)) ≡ has_some_kind us (expression_of (exprs.Truth b))
output-truth us b = ap (suits_output us) (expression_of-truth b) ∙ ap (has_some_kind us) (sym (expression_of-truth b))

pub output-un : (us : List Use77) (o : Op) (a : Box Expr Global) → suits_output us (expression_of (exprs.Un o a)) ≡ has_some_kind us (expression_of (exprs.Un o a))
output-un us o a = ap (suits_output us) (expression_of-un o a) ∙ ap (has_some_kind us) (sym (expression_of-un o a))

pub output-bin : (us : List Use77) (o : Op) (a b : Box Expr Global) → suits_output us (expression_of (exprs.Bin o a b)) ≡ has_some_kind us (expression_of (exprs.Bin o a b))
output-bin us o a b = ap (suits_output us) (expression_of-bin o a b) ∙ ap (has_some_kind us) (sym (expression_of-bin o a b))

pub output-call : (us : List Use77) (f : Fun) (es : Seq Expr) → suits_output us (expression_of (exprs.Call f es)) ≡ has_some_kind us (expression_of (exprs.Call f es))
output-call us f es = ap (suits_output us) (expression_of-call f es) ∙ ap (has_some_kind us) (sym (expression_of-call f es))

pub output-list : (us : List Use77) (es : Seq Expr) (ls : Seq Turn) → suits_output us (expression_of (exprs.List es ls)) ≡ has_some_kind us (expression_of (exprs.List es ls))
output-list us es ls = ap (suits_output us) (expression_of-list es ls) ∙ ap (has_some_kind us) (sym (expression_of-list es ls))

pub output-spread : (us : List Use77) (a : Box Expr Global) (d : ℕ) (n : Box Expr Global) → suits_output us (expression_of (exprs.Spread a d n)) ≡ has_some_kind us (expression_of (exprs.Spread a d n))
output-spread us a d n = ap (suits_output us) (expression_of-spread a d n) ∙ ap (has_some_kind us) (sym (expression_of-spread a d n))

pub output-transpose : (us : List Use77) (a : Box Expr Global) → suits_output us (expression_of (exprs.Transpose a)) ≡ has_some_kind us (expression_of (exprs.Transpose a))
output-transpose us a = ap (suits_output us) (expression_of-transpose a) ∙ ap (has_some_kind us) (sym (expression_of-transpose a))

pub output-reshape : (us : List Use77) (a : Box Expr Global) (es : Seq Expr) → suits_output us (expression_of (exprs.Reshape a es)) ≡ has_some_kind us (expression_of (exprs.Reshape a es))
output-reshape us a es = ap (suits_output us) (expression_of-reshape a es) ∙ ap (has_some_kind us) (sym (expression_of-reshape a es))

pub output-reduce : (us : List Use77) (r : Red) (a : Box Expr Global) → suits_output us (expression_of (exprs.Reduce r a)) ≡ has_some_kind us (expression_of (exprs.Reduce r a))
output-reduce us r a = ap (suits_output us) (expression_of-reduce r a) ∙ ap (has_some_kind us) (sym (expression_of-reduce r a))

-- ---- input lists

pub input-alone : (us : List Use77) (r : Ref) → (out-Ref r).subs ≡ [] → suits_input us (expression_of (exprs.Item r)) ≡ true
input-alone us r h = ap (suits_input us) (item-is r) ∙ ap (λ (ss : List Sub). suits_input us (Named (out-Ref r).name (subscripts (map subscript_of ss)))) h

pub input-listed : (us : List Use77) (r : Ref) → (out-Ref r).subs ≢ []
    → suits_input us (expression_of (exprs.Item r)) ≡ (is_array_name us (out-Ref r).name && are_subscripts us (subscripts (map subscript_of (out-Ref r).subs)))
input-listed us r h = ap (suits_input us) (item-is r) ∙ cases (out-Ref r).subs h
  where
    cases : (ss : List Sub) → ss ≢ [] → suits_input us (Named (out-Ref r).name (subscripts (map subscript_of ss))) ≡ (is_array_name us (out-Ref r).name && are_subscripts us (subscripts (map subscript_of ss)))
    cases [] some = absurd (some refl)
    cases (s ∷ ss) some = refl

pub input-int : (us : List Use77) (n : ℤ) → suits_input us (expression_of (exprs.Int n)) ≡ false
input-int us n = ap (suits_input us) (expression_of-int n)

pub input-truth : (us : List Use77) (b : Bool) → suits_input us (expression_of (exprs.Truth b)) ≡ false
input-truth us b = ap (suits_input us) (expression_of-truth b)

pub input-un : (us : List Use77) (o : Op) (a : Box Expr Global) → suits_input us (expression_of (exprs.Un o a)) ≡ false
input-un us o a = ap (suits_input us) (expression_of-un o a)

pub input-bin : (us : List Use77) (o : Op) (a b : Box Expr Global) → suits_input us (expression_of (exprs.Bin o a b)) ≡ false
input-bin us o a b = ap (suits_input us) (expression_of-bin o a b)

pub input-call : (us : List Use77) (f : Fun) (es : Seq Expr) → suits_input us (expression_of (exprs.Call f es)) ≡ false
input-call us f es = ap (suits_input us) (expression_of-call f es)

pub input-list : (us : List Use77) (es : Seq Expr) (ls : Seq Turn) → suits_input us (expression_of (exprs.List es ls)) ≡ false
input-list us es ls = ap (suits_input us) (expression_of-list es ls)

pub input-spread : (us : List Use77) (a : Box Expr Global) (d : ℕ) (n : Box Expr Global) → suits_input us (expression_of (exprs.Spread a d n)) ≡ false
input-spread us a d n = ap (suits_input us) (expression_of-spread a d n)

pub input-transpose : (us : List Use77) (a : Box Expr Global) → suits_input us (expression_of (exprs.Transpose a)) ≡ false
input-transpose us a = ap (suits_input us) (expression_of-transpose a)

pub input-reshape : (us : List Use77) (a : Box Expr Global) (es : Seq Expr) → suits_input us (expression_of (exprs.Reshape a es)) ≡ false
input-reshape us a es = ap (suits_input us) (expression_of-reshape a es)

pub input-reduce : (us : List Use77) (r : Red) (a : Box Expr Global) → suits_input us (expression_of (exprs.Reduce r a)) ≡ false
input-reduce us r a = ap (suits_input us) (expression_of-reduce r a)

-- ---- items

pub item-one : (us : List Use77) (d : Direction) (e : Expr) → suits_item us d (item_of (variants.One e)) ≡ suits_value us d (expression_of e)
item-one us d e = ap (suits_item us d) (item_of-one e)

pub item-text : (us : List Use77) (d : Direction) (t : Seq ℕ) → suits_item us d (item_of (variants.Text t)) ≡ takes_text d
item-text us d t = ap (suits_item us d) (item_of-text t)

pub item-turns : (us : List Use77) (d : Direction) (is : Seq Item) (x : Name) (a b c : Expr) → suits_item us d (item_of (variants.Turns is x a b c))
    ≡ (suits_items us d (items (map item_of is)) && are_numbers us (expression_of a) (expression_of b) (expression_of c))
item-turns us d is x a b c = ap (suits_item us d) (item_of-turns is x a b c)

pub ruleset item_laws = (output-alone, output-listed, output-int, output-truth, output-un, output-bin, output-call, output-list, output-spread, output-transpose, output-reshape, output-reduce, input-alone, input-listed, input-int, input-truth, input-un, input-bin, input-call, input-list, input-spread, input-transpose, input-reshape, input-reduce, item-one, item-text, item-turns)
