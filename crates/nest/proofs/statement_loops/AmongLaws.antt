-- Which names stand in an expression, by its parts.
use Rattle.std.proofs.Common.{◌≡◌, ℕ, ℤ, Bool, true, false, ◌||◌, List, [], ◌∷◌, ◌++◌, map, refl, sym, ap, ◌∙◌}
use Rattle.std.specs.declared.boxed.Box.{Box}
use Rattle.std.specs.declared.alloc.Global.{Global}
use Rattle.std.specs.List.{list_any}
use Rattle.std.proofs.lemmas.List.Folds.{list_any-append}
use Rattle.std.specs.Str.{bytes_eq}
use Rattle.tree.specs.Plain.{Expression, Subscript, Reference, subscripts, expressions}
use Rattle.tree.specs.View.{expression_of, subscript_of, reference_of, loop_of, constructor_loops, ConstructorLoop}
use Rattle.tree.specs.declared.ops.Op.{Op}
use Rattle.tree.specs.declared.functions.Fun.{Fun}
use Rattle.tree.specs.declared.functions.Red.{Red}
use Rattle.tree.specs.declared.lists.Seq.{Seq}
use Rattle.tree.specs.declared.exprs.Expr.{Expr}
use Rattle.tree.specs.declared.exprs.Turn.{Turn, out-Turn}
use Rattle.tree.specs.declared.exprs.Expr.TheVariants as exprs
use Rattle.tree.specs.declared.exprs.Ref.{Ref, out-Ref}
use Rattle.tree.specs.declared.exprs.Sub.TheVariants as subs
use Rattle.tree.proofs.Equations.{expression_of-int, expression_of-truth, expression_of-item, expression_of-un, expression_of-bin, expression_of-call, reference_of-is, loop_of-is}
use Rattle.tree.proofs.Equations.{expression_of-list, expression_of-spread, expression_of-transpose, expression_of-reshape, expression_of-reduce, subscript_of-one, subscript_of-part}
use Rattle.meaning.specs.Reads.{names_in, names_in_each, names_in_subscript, names_in_subscripts, names_in_loops}
use Rattle.nest.specs.statement_loops.Standings.{names_in_loop}
use Rattle.nest.specs.statement_loops.Names.{is_among}

or_assoc : (a b c : Bool) → (a || (b || c)) ≡ ((a || b) || c)
or_assoc true b c = refl
or_assoc false b c = refl

among_append : (xs ys : List (List ℕ)) (x : List ℕ) → is_among (xs ++ ys) x ≡ (is_among xs x || is_among ys x)
among_append xs ys x = list_any-append (λ y. bytes_eq y x) xs ys

each_expression : (es : List Expression) (x : List ℕ) → is_among (names_in_each (expressions es)) x ≡ list_any (λ e. is_among (names_in e) x) es
each_expression [] x = refl
each_expression (e ∷ es) x = among_append (names_in e) (names_in_each (expressions es)) x ∙ ap (λ b. is_among (names_in e) x || b) (each_expression es x)

each_subscript : (ps : List Subscript) (x : List ℕ) → is_among (names_in_subscripts (subscripts ps)) x ≡ list_any (λ p. is_among (names_in_subscript p) x) ps
each_subscript [] x = refl
each_subscript (p ∷ ps) x = among_append (names_in_subscript p) (names_in_subscripts (subscripts ps)) x ∙ ap (λ b. is_among (names_in_subscript p) x || b) (each_subscript ps x)

each_loop : (ls : List ConstructorLoop) (x : List ℕ) → is_among (names_in_loops (constructor_loops ls)) x ≡ list_any (λ l. is_among (names_in_loop l) x) ls
each_loop [] x = refl
each_loop (l ∷ ls) x = among_append (names_in_loop l) (names_in_loops (constructor_loops ls)) x ∙ ap (λ b. is_among (names_in_loop l) x || b) (each_loop ls x)

abbrev among_in : List ℕ → Expression → Bool
among_in x e = is_among (names_in e) x

pub among-int : (n : ℤ) (x : List ℕ) → is_among (names_in (expression_of (exprs.Int n))) x ≡ false
among-int n x = ap (among_in x) (expression_of-int n)

pub among-truth : (b : Bool) (x : List ℕ) → is_among (names_in (expression_of (exprs.Truth b))) x ≡ false
among-truth b x = ap (among_in x) (expression_of-truth b)

pub among-item : (r : Ref) (x : List ℕ) → is_among (names_in (expression_of (exprs.Item r))) x ≡ is_among ((reference_of r).name ∷ names_in_subscripts (reference_of r).subscripts) x
among-item r x = ap (among_in x) (expression_of-item r)

pub among-un : (o : Op) (a : Box Expr Global) (x : List ℕ) → is_among (names_in (expression_of (exprs.Un o a))) x ≡ is_among (names_in (expression_of a.value)) x
among-un o a x = ap (among_in x) (expression_of-un o a)

pub among-bin : (o : Op) (a b : Box Expr Global) (x : List ℕ)
    → is_among (names_in (expression_of (exprs.Bin o a b))) x ≡ (is_among (names_in (expression_of a.value)) x || is_among (names_in (expression_of b.value)) x)
among-bin o a b x = ap (among_in x) (expression_of-bin o a b) ∙ among_append (names_in (expression_of a.value)) (names_in (expression_of b.value)) x

pub among-call : (f : Fun) (es : Seq Expr) (x : List ℕ) → is_among (names_in (expression_of (exprs.Call f es))) x ≡ list_any (λ e. is_among (names_in e) x) (map expression_of es)
among-call f es x = ap (among_in x) (expression_of-call f es) ∙ each_expression (map expression_of es) x

pub among-list : (es : Seq Expr) (ls : Seq Turn) (x : List ℕ) → is_among (names_in (expression_of (exprs.List es ls))) x
    ≡ (list_any (λ e. is_among (names_in e) x) (map expression_of es) || list_any (λ l. is_among (names_in_loop l) x) (map loop_of ls))
among-list es ls x =
    ap (among_in x) (expression_of-list es ls) ∙ among_append (names_in_each (expressions (map expression_of es))) (names_in_loops (constructor_loops (map loop_of ls))) x
    ∙ ap (λ b. b || is_among (names_in_loops (constructor_loops (map loop_of ls))) x) (each_expression (map expression_of es) x)
    ∙ ap (λ b. list_any (λ e. is_among (names_in e) x) (map expression_of es) || b) (each_loop (map loop_of ls) x)

pub among-spread : (a : Box Expr Global) (d : ℕ) (n : Box Expr Global) (x : List ℕ)
    → is_among (names_in (expression_of (exprs.Spread a d n))) x ≡ (is_among (names_in (expression_of a.value)) x || is_among (names_in (expression_of n.value)) x)
among-spread a d n x = ap (among_in x) (expression_of-spread a d n) ∙ among_append (names_in (expression_of a.value)) (names_in (expression_of n.value)) x

pub among-transpose : (a : Box Expr Global) (x : List ℕ) → is_among (names_in (expression_of (exprs.Transpose a))) x ≡ is_among (names_in (expression_of a.value)) x
among-transpose a x = ap (among_in x) (expression_of-transpose a)

pub among-reshape : (a : Box Expr Global) (es : Seq Expr) (x : List ℕ)
    → is_among (names_in (expression_of (exprs.Reshape a es))) x ≡ (is_among (names_in (expression_of a.value)) x || list_any (λ e. is_among (names_in e) x) (map expression_of es))
among-reshape a es x =
    ap (among_in x) (expression_of-reshape a es) ∙ among_append (names_in (expression_of a.value)) (names_in_each (expressions (map expression_of es))) x
    ∙ ap (λ b. is_among (names_in (expression_of a.value)) x || b) (each_expression (map expression_of es) x)

pub among-reduce : (r : Red) (a : Box Expr Global) (x : List ℕ) → is_among (names_in (expression_of (exprs.Reduce r a))) x ≡ is_among (names_in (expression_of a.value)) x
among-reduce r a x = ap (among_in x) (expression_of-reduce r a)

pub among-one : (e : Expr) (x : List ℕ) → is_among (names_in_subscript (subscript_of (subs.One e))) x ≡ is_among (names_in (expression_of e)) x
among-one e x = ap (λ p. is_among (names_in_subscript p) x) (subscript_of-one e)

pub among-part : (a b c : Expr) (x : List ℕ) → is_among (names_in_subscript (subscript_of (subs.Part a b c))) x
    ≡ (is_among (names_in (expression_of a)) x || (is_among (names_in (expression_of b)) x || is_among (names_in (expression_of c)) x))
among-part a b c x =
    ap (λ p. is_among (names_in_subscript p) x) (subscript_of-part a b c)
    ∙ among_append (names_in (expression_of a) ++ names_in (expression_of b)) (names_in (expression_of c)) x
    ∙ ap (λ t. t || is_among (names_in (expression_of c)) x) (among_append (names_in (expression_of a)) (names_in (expression_of b)) x)
    ∙ sym (or_assoc (is_among (names_in (expression_of a)) x) (is_among (names_in (expression_of b)) x) (is_among (names_in (expression_of c)) x))

pub among-turn : (l : Turn) (x : List ℕ) → is_among (names_in_loop (loop_of l)) x
    ≡ (bytes_eq (out-Turn l).var x || (is_among (names_in (expression_of (out-Turn l).first)) x || is_among (names_in (expression_of (out-Turn l).last)) x))
among-turn l x =
    ap (λ m. is_among (names_in_loop m) x) (loop_of-is l)
    ∙ among_append ((out-Turn l).var ∷ names_in (expression_of (out-Turn l).first)) (names_in (expression_of (out-Turn l).last)) x
    ∙ sym (or_assoc (bytes_eq (out-Turn l).var x) (is_among (names_in (expression_of (out-Turn l).first)) x) (is_among (names_in (expression_of (out-Turn l).last)) x))

pub among-ref : (r : Ref) (x : List ℕ) → is_among ((reference_of r).name ∷ names_in_subscripts (reference_of r).subscripts) x
    ≡ (bytes_eq (out-Ref r).name x || list_any (λ p. is_among (names_in_subscript p) x) (map subscript_of (out-Ref r).subs))
among-ref r x =
    ap (λ (q : Reference). is_among (q.name ∷ names_in_subscripts q.subscripts) x) (reference_of-is r)
    ∙ ap (λ b. bytes_eq (out-Ref r).name x || b) (each_subscript (map subscript_of (out-Ref r).subs) x)

pub ruleset among_laws = (among-int, among-truth, among-item, among-un, among-bin, among-call, among-list, among-spread, among-transpose, among-reshape, among-reduce, among-one, among-part, among-turn, among-ref)
