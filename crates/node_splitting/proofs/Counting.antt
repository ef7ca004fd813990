-- How many references there are, by the parts of an expression.
use Rattle.std.proofs.Common.{◌≡◌, refl, sym, ap, ◌∙◌, ℕ, ℤ, ◌+◌, ◌<◌, Bool, true, false, ◌&&◌, ◌||◌, cond, List, [], ◌∷◌, ◌++◌, map, length, get_or, take, length-append, arith}
use Rattle.std.specs.declared.boxed.Box.{Box}
use Rattle.std.specs.declared.alloc.Global.{Global}
use Rattle.std.specs.List.{list_any}
use Rattle.std.specs.Str.{bytes_eq}
use Rattle.std.proofs.lemmas.List.{map-append, take_more}
use Rattle.tree.specs.Plain.{Expression, Reference, Subscript, Subscripts, expressions, subscripts}
use Rattle.tree.specs.View.{expression_of, reference_of, subscript_of}
use Rattle.tree.specs.declared.functions.Fun.{Fun}
use Rattle.tree.specs.declared.functions.Red.{Red}
use Rattle.tree.specs.declared.lists.Seq.{Seq}
use Rattle.tree.specs.declared.ops.Op.{Op}
use Rattle.tree.specs.declared.exprs.Expr.{Expr}
use Rattle.tree.specs.declared.exprs.Expr.TheVariants as exprs
use Rattle.tree.specs.declared.exprs.Ref.{Ref, out-Ref}
use Rattle.tree.specs.declared.exprs.Sub.{Sub}
use Rattle.tree.specs.declared.exprs.Sub.TheVariants as subs
use Rattle.tree.specs.declared.exprs.Turn.{Turn}
use Rattle.tree.proofs.Equations.{expression_of-int, expression_of-truth, expression_of-item, expression_of-un, expression_of-bin, expression_of-call, reference_of-is}
use Rattle.tree.proofs.Equations.{expression_of-list, expression_of-spread, expression_of-transpose, expression_of-reshape, expression_of-reduce, subscript_of-one, subscript_of-part}
use Rattle.dependence_graph.specs.nest_graph.References.{has_no_subscript, is_among, own_reference, references_in, references_in_all, references_in_subscript, references_in_subscripts}
use Rattle.node_splitting.specs.Counts.{count, count_all, count_in_subscripts, count_subscript, is_counter}
use Rattle.node_splitting.specs.Reads.{read_as_expression}

-- ---- a reference

none_of : (ss : List Sub) → ss ≡ [] → has_no_subscript (subscripts (map subscript_of ss)) ≡ true
none_of ss e = ap (λ (s : List Sub). has_no_subscript (subscripts (map subscript_of s))) e

some_of : (ss : List Sub) → (ss ≡ [] → ⊥) → has_no_subscript (subscripts (map subscript_of ss)) ≡ false
some_of [] h = absurd (h refl)
some_of (s ∷ ss) h = refl

among_any : (ls : List (List ℕ)) (x : List ℕ) → is_among ls x ≡ list_any (λ y. bytes_eq y x) ls
among_any [] x = refl
among_any (l ∷ ls) x = ap (λ b. bytes_eq l x || b) (among_any ls x)

counter_by : (ls : List (List ℕ)) (r : Ref) (b : Bool) → has_no_subscript (subscripts (map subscript_of (out-Ref r).subs)) ≡ b
    → is_counter ls (reference_of r).name (reference_of r).subscripts ≡ (b && list_any (λ y. bytes_eq y (out-Ref r).name) ls)
counter_by ls r b h =
    ap (λ (q : Reference). is_counter ls q.name q.subscripts) (reference_of-is r)
    ∙ (ap (λ c. c && is_among ls (out-Ref r).name) h ∙ ap (λ c. b && c) (among_any ls (out-Ref r).name))

pub counter_bare : (ls : List (List ℕ)) (r : Ref) → (out-Ref r).subs ≡ []
    → is_counter ls (reference_of r).name (reference_of r).subscripts ≡ list_any (λ y. bytes_eq y (out-Ref r).name) ls
counter_bare ls r e = counter_by ls r true (none_of (out-Ref r).subs e)

pub counter_subscripted : (ls : List (List ℕ)) (r : Ref) → ((out-Ref r).subs ≡ [] → ⊥) → is_counter ls (reference_of r).name (reference_of r).subscripts ≡ false
counter_subscripted ls r h = counter_by ls r false (some_of (out-Ref r).subs h)

pub ruleset counter_laws = (counter_bare, counter_subscripted)

own_length : (ls : List (List ℕ)) (x : List ℕ) (ss : Subscripts) → length (own_reference ls x ss) ≡ cond (is_counter ls x ss) 0 1
own_length ls x ss = by (has_no_subscript ss) (is_among ls x)
  where
    r : Reference
    r = record { name = x; subscripts = ss }

    by : (a b : Bool) → length (cond a (cond b [] (r ∷ [])) (r ∷ [])) ≡ cond (a && b) 0 1
    by true true = refl
    by true false = refl
    by false b = refl

-- a name counts by itself, and what stands in its subscripts
pub count-named : (ls : List (List ℕ)) (r : Reference) → count ls (read_as_expression r) ≡ cond (is_counter ls r.name r.subscripts) 0 1 + count_in_subscripts ls r.subscripts
count-named ls r =
    length-append (own_reference ls r.name r.subscripts) (references_in_subscripts ls r.subscripts)
    ∙ ap (λ n. n + count_in_subscripts ls r.subscripts) (own_length ls r.name r.subscripts)

pub count-ref : (ls : List (List ℕ)) (r : Ref) → count ls (read_as_expression (reference_of r))
    ≡ cond (is_counter ls (reference_of r).name (reference_of r).subscripts) 0 1 + count_in_subscripts ls (subscripts (map subscript_of (out-Ref r).subs))
count-ref ls r =
    count-named ls (reference_of r)
    ∙ ap (λ (q : Reference). cond (is_counter ls (reference_of r).name (reference_of r).subscripts) 0 1 + count_in_subscripts ls q.subscripts) (reference_of-is r)

-- ---- expressions

pub count-int : (ls : List (List ℕ)) (n : ℤ) → count ls (expression_of (exprs.Int n)) ≡ 0
count-int ls n = ap (count ls) (expression_of-int n)

pub count-truth : (ls : List (List ℕ)) (b : Bool) → count ls (expression_of (exprs.Truth b)) ≡ 0
count-truth ls b = ap (count ls) (expression_of-truth b)

pub count-item : (ls : List (List ℕ)) (r : Ref) → count ls (expression_of (exprs.Item r)) ≡ count ls (read_as_expression (reference_of r))
count-item ls r = ap (count ls) (expression_of-item r)

pub count-un : (ls : List (List ℕ)) (o : Op) (a : Box Expr Global) → count ls (expression_of (exprs.Un o a)) ≡ count ls (expression_of a.value)
count-un ls o a = ap (count ls) (expression_of-un o a)

pub count-bin : (ls : List (List ℕ)) (o : Op) (a b : Box Expr Global)
    → count ls (expression_of (exprs.Bin o a b)) ≡ count ls (expression_of a.value) + count ls (expression_of b.value)
count-bin ls o a b = ap (count ls) (expression_of-bin o a b) ∙ length-append (references_in ls (expression_of a.value)) (references_in ls (expression_of b.value))

pub count-call : (ls : List (List ℕ)) (f : Fun) (es : Seq Expr) → count ls (expression_of (exprs.Call f es)) ≡ count_all ls (expressions (map expression_of es))
count-call ls f es = ap (count ls) (expression_of-call f es)

pub count-list : (ls : List (List ℕ)) (es : Seq Expr) (ts : Seq Turn) → count ls (expression_of (exprs.List es ts)) ≡ count_all ls (expressions (map expression_of es))
count-list ls es ts = ap (count ls) (expression_of-list es ts)

pub count-spread : (ls : List (List ℕ)) (a : Box Expr Global) (d : ℕ) (n : Box Expr Global)
    → count ls (expression_of (exprs.Spread a d n)) ≡ count ls (expression_of a.value) + count ls (expression_of n.value)
count-spread ls a d n = ap (count ls) (expression_of-spread a d n) ∙ length-append (references_in ls (expression_of a.value)) (references_in ls (expression_of n.value))

pub count-transpose : (ls : List (List ℕ)) (a : Box Expr Global) → count ls (expression_of (exprs.Transpose a)) ≡ count ls (expression_of a.value)
count-transpose ls a = ap (count ls) (expression_of-transpose a)

pub count-reshape : (ls : List (List ℕ)) (a : Box Expr Global) (es : Seq Expr)
    → count ls (expression_of (exprs.Reshape a es)) ≡ count ls (expression_of a.value) + count_all ls (expressions (map expression_of es))
count-reshape ls a es =
    ap (count ls) (expression_of-reshape a es) ∙ length-append (references_in ls (expression_of a.value)) (references_in_all ls (expressions (map expression_of es)))

pub count-reduce : (ls : List (List ℕ)) (r : Red) (a : Box Expr Global) → count ls (expression_of (exprs.Reduce r a)) ≡ count ls (expression_of a.value)
count-reduce ls r a = ap (count ls) (expression_of-reduce r a)

pub count-one : (ls : List (List ℕ)) (e : Expr) → count_subscript ls (subscript_of (subs.One e)) ≡ count ls (expression_of e)
count-one ls e = ap (count_subscript ls) (subscript_of-one e)

pub count-part : (ls : List (List ℕ)) (a b c : Expr) → count_subscript ls (subscript_of (subs.Part a b c))
    ≡ count ls (expression_of a) + (count ls (expression_of b) + count ls (expression_of c))
count-part ls a b c =
    ap (count_subscript ls) (subscript_of-part a b c)
    ∙ (length-append (references_in ls (expression_of a)) (references_in ls (expression_of b) ++ references_in ls (expression_of c))
    ∙ ap (λ n. count ls (expression_of a) + n) (length-append (references_in ls (expression_of b)) (references_in ls (expression_of c))))

pub ruleset count_laws = (count-int, count-truth, count-item, count-un, count-bin, count-call, count-list, count-spread, count-transpose, count-reshape, count-reduce, count-one, count-part, count-ref)

-- ---- lists

pub all-cons : (ls : List (List ℕ)) (e : Expression) (es : List Expression) → count_all ls (expressions (e ∷ es)) ≡ count ls e + count_all ls (expressions es)
all-cons ls e es = length-append (references_in ls e) (references_in_all ls (expressions es))

pub in-cons : (ls : List (List ℕ)) (s : Subscript) (ss : List Subscript) → count_in_subscripts ls (subscripts (s ∷ ss)) ≡ count_subscript ls s + count_in_subscripts ls (subscripts ss)
in-cons ls s ss = length-append (references_in_subscript ls s) (references_in_subscripts ls (subscripts ss))

pub all-snoc : (ls : List (List ℕ)) (es : List Expression) (e : Expression) → count_all ls (expressions (es ++ e ∷ [])) ≡ count_all ls (expressions es) + count ls e
all-snoc ls [] e = let k = all-cons ls e [] in omega (arith, k)
all-snoc ls (f ∷ es) e = let a = all-cons ls f (es ++ e ∷ []) in let b = all-cons ls f es in let more = all-snoc ls es e in omega (arith, a, b, more)

pub in-snoc : (ls : List (List ℕ)) (ss : List Subscript) (s : Subscript) → count_in_subscripts ls (subscripts (ss ++ s ∷ [])) ≡ count_in_subscripts ls (subscripts ss) + count_subscript ls s
in-snoc ls [] s = let k = in-cons ls s [] in omega (arith, k)
in-snoc ls (t ∷ ss) s = let a = in-cons ls t (ss ++ s ∷ []) in let b = in-cons ls t ss in let more = in-snoc ls ss s in omega (arith, a, b, more)

pub one_more_expr : (list : List Expr) (i : ℕ) (x : Expr) → i < length list → x ≡ get_or list i x → map expression_of (take (i + 1) list) ≡ map expression_of (take i list) ++ expression_of x ∷ []
one_more_expr list i x h e =
    ap (map expression_of) (take_more list i x h ∙ ap (λ z. take i list ++ z ∷ []) (sym e)) ∙ map-append expression_of (take i list) (x ∷ [])

pub one_more_sub : (list : List Sub) (i : ℕ) (x : Sub) → i < length list → x ≡ get_or list i x → map subscript_of (take (i + 1) list) ≡ map subscript_of (take i list) ++ subscript_of x ∷ []
one_more_sub list i x h e =
    ap (map subscript_of) (take_more list i x h ∙ ap (λ z. take i list ++ z ∷ []) (sym e)) ∙ map-append subscript_of (take i list) (x ∷ [])

pub all_step : (ls : List (List ℕ)) (list : List Expr) (i : ℕ) (x : Expr) (old here new : ℕ) → i < length list → x ≡ get_or list i x
    → old ≡ count_all ls (expressions (map expression_of (take i list))) → here ≡ count ls (expression_of x) → new ≡ old + here
    → new ≡ count_all ls (expressions (map expression_of (take (i + 1) list)))
all_step ls list i x old here new h e f g k =
    let all = ap (λ es. count_all ls (expressions es)) (one_more_expr list i x h e) in
    let more = all-snoc ls (map expression_of (take i list)) (expression_of x) in
    omega (arith, f, g, k, all, more)

pub in_step : (ls : List (List ℕ)) (list : List Sub) (i : ℕ) (x : Sub) (old here new : ℕ) → i < length list → x ≡ get_or list i x
    → old ≡ count_in_subscripts ls (subscripts (map subscript_of (take i list))) → here ≡ count_subscript ls (subscript_of x) → new ≡ old + here
    → new ≡ count_in_subscripts ls (subscripts (map subscript_of (take (i + 1) list)))
in_step ls list i x old here new h e f g k =
    let all = ap (λ ss. count_in_subscripts ls (subscripts ss)) (one_more_sub list i x h e) in
    let more = in-snoc ls (map subscript_of (take i list)) (subscript_of x) in
    omega (arith, f, g, k, all, more)

-- ---- the left side

pub left-subs : (ls : List (List ℕ)) (r : Ref) → count_in_subscripts ls (reference_of r).subscripts ≡ count_in_subscripts ls (subscripts (map subscript_of (out-Ref r).subs))
left-subs ls r = ap (λ (q : Reference). count_in_subscripts ls q.subscripts) (reference_of-is r)

pub ruleset left_laws = (left-subs)
