-- The references in an expression, by its parts.
use Rattle.std.proofs.Common.{◌≡◌, ℕ, ℤ, Bool, true, false, ◌||◌, ◌&&◌, cond, not, List, [], ◌∷◌, ◌++◌, map, refl, sym, ap, ◌∙◌, append_assoc, Option, Some, None}
use Rattle.std.specs.declared.boxed.Box.{Box}
use Rattle.std.specs.declared.alloc.Global.{Global}
use Rattle.std.specs.List.{flat_map, list_any}
use Rattle.std.specs.Option.{option_map}
use Rattle.std.specs.Str.{bytes_eq}
use Rattle.std.proofs.lemmas.List.{append-nil}
use Rattle.tree.specs.Plain.{Expression, Subscript, Reference, Subscripts, no_subscripts, subscript, subscripts, expressions}
use Rattle.tree.specs.View.{expression_of, subscript_of, reference_of}
use Rattle.tree.specs.declared.ops.Op.{Op}
use Rattle.tree.specs.declared.functions.Fun.{Fun}
use Rattle.tree.specs.declared.functions.Red.{Red}
use Rattle.tree.specs.declared.lists.Seq.{Seq}
use Rattle.tree.specs.declared.exprs.Expr.{Expr}
use Rattle.tree.specs.declared.exprs.Sub.{Sub}
use Rattle.tree.specs.declared.exprs.Turn.{Turn}
use Rattle.tree.specs.declared.exprs.Expr.TheVariants as exprs
use Rattle.tree.specs.declared.exprs.Ref.{Ref, out-Ref}
use Rattle.tree.specs.declared.exprs.Sub.TheVariants as subs
use Rattle.tree.proofs.Equations.{expression_of-int, expression_of-truth, expression_of-item, expression_of-un, expression_of-bin, expression_of-call, reference_of-is}
use Rattle.tree.proofs.Equations.{expression_of-list, expression_of-spread, expression_of-transpose, expression_of-reshape, expression_of-reduce, subscript_of-one, subscript_of-part}
use Rattle.nest.specs.Plain.{Loop}
use Rattle.nest.specs.declared.parts.GuardedStmt.{GuardedStmt}
use Rattle.nest.specs.View.{guarded_of, loop_of}
use Rattle.dependence_graph.specs.nest_graph.References.{has_no_subscript, is_among, own_reference, references_in, references_in_all, references_in_guard, references_in_subscript, references_in_subscripts, references_of}
use Rattle.dependence_graph.specs.nest_references.Items.{references_in_item}
use Rattle.nest.specs.statement_loops.Standings.{standing_of}
use Rattle.nest.specs.declared.statement_loops.standings.Standing.{Standing}

each_expression : (ls : List (List ℕ)) (es : List Expression) → references_in_all ls (expressions es) ≡ flat_map (references_in ls) es
each_expression ls [] = refl
each_expression ls (e ∷ es) = ap (λ rs. references_in ls e ++ rs) (each_expression ls es)

each_subscript : (ls : List (List ℕ)) (ps : List Subscript) → references_in_subscripts ls (subscripts ps) ≡ flat_map (references_in_subscript ls) ps
each_subscript ls [] = refl
each_subscript ls (p ∷ ps) = ap (λ rs. references_in_subscript ls p ++ rs) (each_subscript ls ps)

pub ref-int : (ls : List (List ℕ)) (n : ℤ) → references_in ls (expression_of (exprs.Int n)) ≡ []
ref-int ls n = ap (references_in ls) (expression_of-int n)

pub ref-truth : (ls : List (List ℕ)) (b : Bool) → references_in ls (expression_of (exprs.Truth b)) ≡ []
ref-truth ls b = ap (references_in ls) (expression_of-truth b)

pub ref-item : (ls : List (List ℕ)) (r : Ref) → references_in ls (expression_of (exprs.Item r)) ≡ references_in_item ls (reference_of r)
ref-item ls r = ap (references_in ls) (expression_of-item r)

pub ref-un : (ls : List (List ℕ)) (o : Op) (a : Box Expr Global) → references_in ls (expression_of (exprs.Un o a)) ≡ references_in ls (expression_of a.value)
ref-un ls o a = ap (references_in ls) (expression_of-un o a)

pub ref-bin : (ls : List (List ℕ)) (o : Op) (a b : Box Expr Global)
    → references_in ls (expression_of (exprs.Bin o a b)) ≡ references_in ls (expression_of a.value) ++ references_in ls (expression_of b.value)
ref-bin ls o a b = ap (references_in ls) (expression_of-bin o a b)

pub ref-call : (ls : List (List ℕ)) (f : Fun) (es : Seq Expr) → references_in ls (expression_of (exprs.Call f es)) ≡ flat_map (references_in ls) (map expression_of es)
ref-call ls f es = ap (references_in ls) (expression_of-call f es) ∙ each_expression ls (map expression_of es)

pub ref-list : (ls : List (List ℕ)) (es : Seq Expr) (ts : Seq Turn) → references_in ls (expression_of (exprs.List es ts)) ≡ flat_map (references_in ls) (map expression_of es)
ref-list ls es ts = ap (references_in ls) (expression_of-list es ts) ∙ each_expression ls (map expression_of es)

pub ref-spread : (ls : List (List ℕ)) (a : Box Expr Global) (d : ℕ) (n : Box Expr Global)
    → references_in ls (expression_of (exprs.Spread a d n)) ≡ references_in ls (expression_of a.value) ++ references_in ls (expression_of n.value)
ref-spread ls a d n = ap (references_in ls) (expression_of-spread a d n)

pub ref-transpose : (ls : List (List ℕ)) (a : Box Expr Global) → references_in ls (expression_of (exprs.Transpose a)) ≡ references_in ls (expression_of a.value)
ref-transpose ls a = ap (references_in ls) (expression_of-transpose a)

pub ref-reshape : (ls : List (List ℕ)) (a : Box Expr Global) (es : Seq Expr)
    → references_in ls (expression_of (exprs.Reshape a es)) ≡ references_in ls (expression_of a.value) ++ flat_map (references_in ls) (map expression_of es)
ref-reshape ls a es =
    ap (references_in ls) (expression_of-reshape a es) ∙ ap (λ rs. references_in ls (expression_of a.value) ++ rs) (each_expression ls (map expression_of es))

pub ref-reduce : (ls : List (List ℕ)) (r : Red) (a : Box Expr Global) → references_in ls (expression_of (exprs.Reduce r a)) ≡ references_in ls (expression_of a.value)
ref-reduce ls r a = ap (references_in ls) (expression_of-reduce r a)

pub ref-one : (ls : List (List ℕ)) (e : Expr) → references_in_subscript ls (subscript_of (subs.One e)) ≡ references_in ls (expression_of e)
ref-one ls e = ap (references_in_subscript ls) (subscript_of-one e)

pub ref-part : (ls : List (List ℕ)) (a b c : Expr) → references_in_subscript ls (subscript_of (subs.Part a b c))
    ≡ references_in ls (expression_of a) ++ (references_in ls (expression_of b) ++ references_in ls (expression_of c))
ref-part ls a b c = ap (references_in_subscript ls) (subscript_of-part a b c)

pub ref-subs : (ls : List (List ℕ)) (r : Ref) → references_in_subscripts ls (reference_of r).subscripts ≡ flat_map (references_in_subscript ls) (map subscript_of (out-Ref r).subs)
ref-subs ls r = ap (λ (q : Reference). references_in_subscripts ls q.subscripts) (reference_of-is r) ∙ each_subscript ls (map subscript_of (out-Ref r).subs)

pub ref-ref : (ls : List (List ℕ)) (r : Ref) → references_in_item ls (reference_of r)
    ≡ own_reference ls (reference_of r).name (reference_of r).subscripts ++ flat_map (references_in_subscript ls) (map subscript_of (out-Ref r).subs)
ref-ref ls r = ap (λ rs. own_reference ls (reference_of r).name (reference_of r).subscripts ++ rs) (ref-subs ls r)

pub ruleset reference_laws = (ref-int, ref-truth, ref-item, ref-un, ref-bin, ref-call, ref-list, ref-spread, ref-transpose, ref-reshape, ref-reduce, ref-one, ref-part, ref-ref, append_assoc, append-nil)

-- ---- the reference itself

none_of : (ss : Seq Sub) → ss ≡ [] → has_no_subscript (subscripts (map subscript_of ss)) ≡ true
none_of ss e = ap (λ (s : Seq Sub). has_no_subscript (subscripts (map subscript_of s))) e

some_of : (ss : Seq Sub) → (ss ≡ [] → ⊥) → has_no_subscript (subscripts (map subscript_of ss)) ≡ false
some_of [] h = absurd (h refl)
some_of (s ∷ ss) h = refl

whole : (r : Ref) → record { name = (reference_of r).name; subscripts = (reference_of r).subscripts } ≡ reference_of r
whole r = refl

among_any : (ls : List (List ℕ)) (x : List ℕ) → is_among ls x ≡ list_any (λ y. bytes_eq y x) ls
among_any [] x = refl
among_any (l ∷ ls) x = ap (λ b. bytes_eq l x || b) (among_any ls x)

pub own_none : (ls : List (List ℕ)) (r : Ref) → (out-Ref r).subs ≡ [] → list_any (λ y. bytes_eq y (out-Ref r).name) ls ≡ true → own_reference ls (reference_of r).name (reference_of r).subscripts ≡ []
own_none ls r e h =
    ap (λ (q : Reference). own_reference ls q.name q.subscripts) (reference_of-is r)
    ∙ ap (λ b. cond b (cond (is_among ls (out-Ref r).name) [] (made ∷ [])) (made ∷ [])) (none_of (out-Ref r).subs e)
    ∙ ap (λ b. cond b [] (made ∷ [])) (among_any ls (out-Ref r).name ∙ h)
  where
    made : Reference
    made = record { name = (out-Ref r).name; subscripts = subscripts (map subscript_of (out-Ref r).subs) }

pub own_subscripted : (ls : List (List ℕ)) (r : Ref) → ((out-Ref r).subs ≡ [] → ⊥) → own_reference ls (reference_of r).name (reference_of r).subscripts ≡ reference_of r ∷ []
own_subscripted ls r h =
    ap (λ (q : Reference). own_reference ls q.name q.subscripts) (reference_of-is r)
    ∙ ap (λ b. cond b (cond (is_among ls (out-Ref r).name) [] (made ∷ [])) (made ∷ [])) (some_of (out-Ref r).subs h)
    ∙ ap (λ q. q ∷ []) (sym (reference_of-is r))
  where
    made : Reference
    made = record { name = (out-Ref r).name; subscripts = subscripts (map subscript_of (out-Ref r).subs) }

pub own_other : (ls : List (List ℕ)) (r : Ref) → list_any (λ y. bytes_eq y (out-Ref r).name) ls ≡ false → own_reference ls (reference_of r).name (reference_of r).subscripts ≡ reference_of r ∷ []
own_other ls r h =
    ap (λ (q : Reference). own_reference ls q.name q.subscripts) (reference_of-is r)
    ∙ ap (λ b. cond (has_no_subscript (subscripts (map subscript_of (out-Ref r).subs))) (cond b [] (made ∷ [])) (made ∷ [])) (among_any ls (out-Ref r).name ∙ h)
    ∙ same (has_no_subscript (subscripts (map subscript_of (out-Ref r).subs)))
    ∙ ap (λ q. q ∷ []) (sym (reference_of-is r))
  where
    made : Reference
    made = record { name = (out-Ref r).name; subscripts = subscripts (map subscript_of (out-Ref r).subs) }

    same : (b : Bool) → cond b (made ∷ []) (made ∷ []) ≡ made ∷ []
    same true = refl
    same false = refl

pub ruleset own_laws = (own_none, own_subscripted, own_other, append-nil)

-- ---- a statement

pub ref-statement : (s : Standing) → references_of (standing_of s)
    ≡ reference_of s.stmt.left
    ∷ (references_in_guard (map (λ (l : Loop). l.variable) (map loop_of s.loops)) (option_map expression_of s.stmt.guard)
    ++ (flat_map (references_in_subscript (map (λ (l : Loop). l.variable) (map loop_of s.loops))) (map subscript_of (out-Ref s.stmt.left).subs)
    ++ references_in (map (λ (l : Loop). l.variable) (map loop_of s.loops)) (expression_of s.stmt.right)))
ref-statement s =
    let ls = map (λ (l : Loop). l.variable) (map loop_of s.loops) in
    ap (λ rs. reference_of s.stmt.left ∷ (references_in_guard ls (option_map expression_of s.stmt.guard) ++ (rs ++ references_in ls (expression_of s.stmt.right))))
    (ref-subs ls s.stmt.left)

pub ruleset statement_laws = (ref-statement, append_assoc)
