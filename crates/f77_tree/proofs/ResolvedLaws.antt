-- What each kind of expression is resolved to.
use Rattle.std.proofs.Common.{◌≡◌, ◌≢◌, ◌∙◌, ap, sym, refl, ℕ, ℤ, Bool, true, false, cond, Option, Some, None, List, [], ◌∷◌, map}
use Rattle.std.specs.declared.boxed.Box.{Box}
use Rattle.std.specs.declared.alloc.Global.{Global}
use Rattle.tree.specs.Plain.{Expression, expression, expressions, Subscript, Only, Section, Subscripts, no_subscripts, subscript, subscripts, Reference, Number, Logic, Named, Unary, Binary, Apply}
use Rattle.tree.specs.View.{expression_of, subscript_of, reference_of}
use Rattle.tree.specs.declared.ops.Op.{Op}
use Rattle.tree.specs.declared.functions.Fun.{Fun}
use Rattle.tree.specs.declared.functions.Red.{Red}
use Rattle.tree.specs.declared.exprs.Turn.{Turn}
use Rattle.tree.specs.declared.lists.Seq.{Seq}
use Rattle.tree.specs.declared.exprs.Expr.{Expr}
use Rattle.tree.specs.declared.exprs.Expr.TheVariants as exprs
use Rattle.tree.specs.declared.exprs.Ref.{Ref, out-Ref, roll-Ref}
use Rattle.tree.specs.declared.exprs.Sub.{Sub}
use Rattle.tree.specs.declared.exprs.Sub.TheVariants as subs
use Rattle.tree.proofs.Equations.{expression_of-int, expression_of-truth, expression_of-item, expression_of-un, expression_of-bin, expression_of-call, expression_of-list, expression_of-spread, expression_of-transpose, expression_of-reshape, expression_of-reduce, subscript_of-one, subscript_of-part, reference_of-is, reference_of-made}
use Rattle.meaning.specs.Store.{Store}
use Rattle.tree.specs.Functions.{function_named}
use Rattle.f77_grammar.specs.program.Uses.{Use77, is_array_name, is_constant_name}
use Rattle.f77_grammar.specs.program.Tree as tree
use Rattle.f77_tree.specs.Resolved.{called}
use Rattle.reading.specs.Signs as signs

-- a reference as an expression
pub item-is : (r : Ref) → expression_of (exprs.Item r) ≡ Named (out-Ref r).name (subscripts (map subscript_of (out-Ref r).subs))
item-is r = expression_of-item r ∙ ap (λ (q : Reference). Named q.name q.subscripts) (reference_of-is r)

-- a reference that was made, as an expression
pub item-made : (x : List ℕ) (ss : Seq Sub) → expression_of (exprs.Item (roll-Ref (record { name = x; subs = ss }))) ≡ Named x (subscripts (map subscript_of ss))
item-made x ss = expression_of-item (roll-Ref (record { name = x; subs = ss })) ∙ ap (λ (q : Reference). Named q.name q.subscripts) (reference_of-made x ss)

-- ---- names

pub name-constant : (us : List Use77) (s : Store) (x : List ℕ) → is_constant_name us x ≡ true
    → tree.named_tree us s x no_subscripts ≡ tree.literal (s.held (record { name = x; subscripts = [] }))
name-constant us s x h = ap (λ b. tree.value_or_name b x s) h

pub name-other : (us : List Use77) (s : Store) (x : List ℕ) → is_constant_name us x ≡ false → tree.named_tree us s x no_subscripts ≡ Named x no_subscripts
name-other us s x h = ap (λ b. tree.value_or_name b x s) h

pub ruleset name_laws = (item-made, name-constant, name-other)

-- ---- lists

pub arguments_resolved : (us : List Use77) (s : Store) (es : List Expr)
    → tree.resolved_arguments us s (expressions (map expression_of es)) ≡ expressions (map (λ e. tree.resolved us s (expression_of e)) es)
arguments_resolved us s [] = refl
arguments_resolved us s (e ∷ es) = ap (λ rest. expression (tree.resolved us s (expression_of e)) rest) (arguments_resolved us s es)

pub subscripts_resolved : (us : List Use77) (s : Store) (ps : List Sub)
    → tree.resolved_subscripts us s (subscripts (map subscript_of ps)) ≡ subscripts (map (λ p. tree.resolved_subscript us s (subscript_of p)) ps)
subscripts_resolved us s [] = refl
subscripts_resolved us s (p ∷ ps) = ap (λ rest. subscript (tree.resolved_subscript us s (subscript_of p)) rest) (subscripts_resolved us s ps)

pub arguments_only : (us : List Use77) (s : Store) (ps : List Sub)
    → tree.arguments77_of (tree.resolved_subscripts us s (subscripts (map subscript_of ps))) ≡ expressions (map (λ p. signs.argument_of (tree.resolved_subscript us s (subscript_of p))) ps)
arguments_only us s [] = refl
arguments_only us s (p ∷ ps) = ap (λ rest. expression (signs.argument_of (tree.resolved_subscript us s (subscript_of p))) rest) (arguments_only us s ps)

-- ---- expressions

pub resolved-int : (us : List Use77) (s : Store) (n : ℤ) → tree.resolved us s (expression_of (exprs.Int n)) ≡ Number n
resolved-int us s n = ap (tree.resolved us s) (expression_of-int n)

pub resolved-truth : (us : List Use77) (s : Store) (b : Bool) → tree.resolved us s (expression_of (exprs.Truth b)) ≡ Logic b
resolved-truth us s b = ap (tree.resolved us s) (expression_of-truth b)

pub resolved-un : (us : List Use77) (s : Store) (o : Op) (a : Box Expr Global)
    → tree.resolved us s (expression_of (exprs.Un o a)) ≡ Unary o (tree.resolved us s (expression_of a.value))
resolved-un us s o a = ap (tree.resolved us s) (expression_of-un o a)

pub resolved-bin : (us : List Use77) (s : Store) (o : Op) (a b : Box Expr Global)
    → tree.resolved us s (expression_of (exprs.Bin o a b)) ≡ Binary o (tree.resolved us s (expression_of a.value)) (tree.resolved us s (expression_of b.value))
resolved-bin us s o a b = ap (tree.resolved us s) (expression_of-bin o a b)

pub resolved-call : (us : List Use77) (s : Store) (f : Fun) (es : Seq Expr)
    → tree.resolved us s (expression_of (exprs.Call f es)) ≡ Apply f (expressions (map (λ e. tree.resolved us s (expression_of e)) es))
resolved-call us s f es = ap (tree.resolved us s) (expression_of-call f es) ∙ ap (Apply f) (arguments_resolved us s es)

pub resolved-item : (us : List Use77) (s : Store) (r : Ref)
    → tree.resolved us s (expression_of (exprs.Item r)) ≡ tree.named_tree us s (out-Ref r).name (subscripts (map (λ p. tree.resolved_subscript us s (subscript_of p)) (out-Ref r).subs))
resolved-item us s r = ap (tree.resolved us s) (item-is r) ∙ ap (tree.named_tree us s (out-Ref r).name) (subscripts_resolved us s (out-Ref r).subs)

pub resolved-list : (us : List Use77) (s : Store) (es : Seq Expr) (ls : Seq Turn) → tree.resolved us s (expression_of (exprs.List es ls)) ≡ expression_of (exprs.List es ls)
resolved-list us s es ls = ap (tree.resolved us s) (expression_of-list es ls) ∙ sym (expression_of-list es ls)

pub resolved-spread : (us : List Use77) (s : Store) (a : Box Expr Global) (d : ℕ) (n : Box Expr Global) → tree.resolved us s (expression_of (exprs.Spread a d n)) ≡ expression_of (exprs.Spread a d n)
resolved-spread us s a d n = ap (tree.resolved us s) (expression_of-spread a d n) ∙ sym (expression_of-spread a d n)

pub resolved-transpose : (us : List Use77) (s : Store) (a : Box Expr Global) → tree.resolved us s (expression_of (exprs.Transpose a)) ≡ expression_of (exprs.Transpose a)
resolved-transpose us s a = ap (tree.resolved us s) (expression_of-transpose a) ∙ sym (expression_of-transpose a)

pub resolved-reshape : (us : List Use77) (s : Store) (a : Box Expr Global) (es : Seq Expr) → tree.resolved us s (expression_of (exprs.Reshape a es)) ≡ expression_of (exprs.Reshape a es)
resolved-reshape us s a es = ap (tree.resolved us s) (expression_of-reshape a es) ∙ sym (expression_of-reshape a es)

pub resolved-reduce : (us : List Use77) (s : Store) (r : Red) (a : Box Expr Global) → tree.resolved us s (expression_of (exprs.Reduce r a)) ≡ expression_of (exprs.Reduce r a)
resolved-reduce us s r a = ap (tree.resolved us s) (expression_of-reduce r a) ∙ sym (expression_of-reduce r a)

pub only-part : (us : List Use77) (s : Store) (a b c : Expr) → signs.argument_of (tree.resolved_subscript us s (subscript_of (subs.Part a b c))) ≡ expression_of a
only-part us s a b c = ap (λ p. signs.argument_of (tree.resolved_subscript us s p)) (subscript_of-part a b c)

pub resolved-part : (us : List Use77) (s : Store) (a b c : Expr) → tree.resolved_subscript us s (subscript_of (subs.Part a b c)) ≡ Section (expression_of a) (expression_of b) (expression_of c)
resolved-part us s a b c = ap (tree.resolved_subscript us s) (subscript_of-part a b c)

pub only-one : (us : List Use77) (s : Store) (e : Expr) → signs.argument_of (tree.resolved_subscript us s (subscript_of (subs.One e))) ≡ tree.resolved us s (expression_of e)
only-one us s e = ap (λ p. signs.argument_of (tree.resolved_subscript us s p)) (subscript_of-one e)

pub resolved-one : (us : List Use77) (s : Store) (e : Expr) → tree.resolved_subscript us s (subscript_of (subs.One e)) ≡ Only (tree.resolved us s (expression_of e))
resolved-one us s e = ap (tree.resolved_subscript us s) (subscript_of-one e)

pub ruleset resolved_laws = (expression_of-int, expression_of-truth, expression_of-un, expression_of-bin, expression_of-call, subscript_of-one, subscript_of-part, resolved-int, resolved-truth, resolved-un, resolved-bin, resolved-call, resolved-list, resolved-spread, resolved-transpose, resolved-reshape, resolved-reduce, only-one, only-part, resolved-one, resolved-part)

-- ---- references

pub item-bare : (us : List Use77) (s : Store) (r : Ref) → (out-Ref r).subs ≡ [] → tree.resolved us s (expression_of (exprs.Item r)) ≡ tree.named_tree us s (out-Ref r).name no_subscripts
item-bare us s r h = resolved-item us s r ∙ ap (λ (ps : List Sub). tree.named_tree us s (out-Ref r).name (subscripts (map (λ p. tree.resolved_subscript us s (subscript_of p)) ps))) h

-- a name with a list in parentheses, by the function that it calls
abbrev by_call : Option Fun → List ℕ → Subscripts → Expression
by_call f x ps = tree.call_of f x ps

by_called : (b : Bool) (x : List ℕ) (ps : Subscripts) → tree.element_or_call b x ps ≡ by_call (cond b None (function_named x)) x ps
by_called true x ps = refl
by_called false x ps = refl

item-listed : (us : List Use77) (s : Store) (r : Ref) → (out-Ref r).subs ≢ []
    → tree.resolved us s (expression_of (exprs.Item r)) ≡ by_call (called us (out-Ref r).name) (out-Ref r).name (tree.resolved_subscripts us s (subscripts (map subscript_of (out-Ref r).subs)))
item-listed us s r some = ap (tree.resolved us s) (item-is r) ∙ cases (out-Ref r).subs some
  where
    cases : (ps : List Sub) → ps ≢ []
        → tree.resolved us s (Named (out-Ref r).name (subscripts (map subscript_of ps))) ≡ by_call (called us (out-Ref r).name) (out-Ref r).name (tree.resolved_subscripts us s (subscripts (map subscript_of ps)))
    cases [] none = absurd (none refl)
    cases (p ∷ ps) more = by_called (is_array_name us (out-Ref r).name) (out-Ref r).name (tree.resolved_subscripts us s (subscripts (map subscript_of (p ∷ ps))))

pub item-call : (us : List Use77) (s : Store) (r : Ref) (f : Fun) → (out-Ref r).subs ≢ [] → called us (out-Ref r).name ≡ Some f
    → tree.resolved us s (expression_of (exprs.Item r)) ≡ Apply f (expressions (map (λ p. signs.argument_of (tree.resolved_subscript us s (subscript_of p))) (out-Ref r).subs))
item-call us s r f some h =
    item-listed us s r some
    ∙ ap (λ g. by_call g (out-Ref r).name (tree.resolved_subscripts us s (subscripts (map subscript_of (out-Ref r).subs)))) h
    ∙ ap (Apply f) (arguments_only us s (out-Ref r).subs)

pub item-element : (us : List Use77) (s : Store) (r : Ref) → (out-Ref r).subs ≢ [] → called us (out-Ref r).name ≡ None
    → tree.resolved us s (expression_of (exprs.Item r)) ≡ Named (out-Ref r).name (subscripts (map (λ p. tree.resolved_subscript us s (subscript_of p)) (out-Ref r).subs))
item-element us s r some h =
    item-listed us s r some
    ∙ ap (λ g. by_call g (out-Ref r).name (tree.resolved_subscripts us s (subscripts (map subscript_of (out-Ref r).subs)))) h
    ∙ ap (Named (out-Ref r).name) (subscripts_resolved us s (out-Ref r).subs)

pub reference-resolved : (us : List Use77) (s : Store) (r : Ref)
    → tree.resolved_reference us s (reference_of r) ≡ (let q : Reference = record { name = (out-Ref r).name; subscripts = subscripts (map (λ p. tree.resolved_subscript us s (subscript_of p)) (out-Ref r).subs) } in q)
reference-resolved us s r =
    ap (tree.resolved_reference us s) (reference_of-is r)
    ∙ ap (λ ps. let q : Reference = record { name = (out-Ref r).name; subscripts = ps } in q) (subscripts_resolved us s (out-Ref r).subs)

pub ruleset item_laws = (expression_of-call, expression_of-item, item-bare, item-call, item-element, reference-resolved)

pub ruleset reference_laws = (reference_of-made, reference-resolved)
