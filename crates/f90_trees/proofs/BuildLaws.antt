-- What each part of a list makes of the stack that the code holds.
use Rattle.std.proofs.Common.{◌≡◌, ℕ, ℤ, Bool, List, [], ◌∷◌, ◌++◌, refl, ap, sym, ◌∙◌, Option, Some, None, map, pos}
use mathlib.Core.Path.{ap₂}
use Rattle.std.proofs.lemmas.List.{map_push}
use Rattle.std.specs.declared.boxed.Box.{Box}
use Rattle.std.specs.declared.alloc.Global.{Global}
use Rattle.tree.specs.OperatorTable as table
use Rattle.tree.specs.declared.ops.Op.{Op}
use Rattle.tree.specs.declared.lists.Seq.{Seq}
use Rattle.tree.specs.declared.exprs.Expr.{Expr}
use Rattle.tree.specs.declared.exprs.Expr.TheVariants as exprs
use Rattle.tree.specs.declared.exprs.Sub.{Sub}
use Rattle.tree.specs.declared.exprs.Sub.TheVariants as subs
use Rattle.tree.specs.declared.exprs.Turn.{Turn, roll-Turn}
use Rattle.tree.specs.declared.exprs.Ref.{roll-Ref}
use Rattle.tree.specs.Plain as tree
use Rattle.tree.specs.Plain.{Expression, Subscript}
use Rattle.tree.specs.View.{ConstructorLoop, expression_of, subscript_of, loop_of, constructor_loops}
use Rattle.tree.proofs.Equations.{expression_of-truth, expression_of-bin, expression_of-list, expression_of-int, subscript_of-one, subscript_of-part, loop_of-made, expression_of-item, reference_of-made}
use Rattle.f90_grammar.specs.Phrases.{arguments90_of}
use Rattle.reading.specs.Signs.{signed, argument_of}
use Rattle.f90_expressions.specs.declared.nodes.Node as code
use Rattle.f90_expressions.specs.Views.{node_seen}
use Rattle.f90_trees.specs.Building as building
use Rattle.f90_trees.specs.Hiding.{function_in}
use Rattle.f90_trees.specs.declared.functions.Functions.{Functions}
use Rattle.f90_trees.specs.Building.{build, Entry, Value, Part, Mark, with_value, with_two, with_turn, with_mark, prefixed, infixed, single, bounded, strided, turned, turned_round, looped}

abbrev value : Expr → Entry
value e = Value (expression_of e)

-- a name with a list, which may be empty
pub item_made : (x : List ℕ) (ss : Seq Sub) → expression_of (exprs.Item (roll-Ref (record { name = x; subs = ss }))) ≡ tree.Named x (tree.subscripts (map subscript_of ss))
item_made x ss =
    expression_of-item (roll-Ref (record { name = x; subs = ss })) ∙ ap (λ (q : tree.Reference). tree.Named q.name q.subscripts) (reference_of-made x ss)

-- ---- what was taken

pub two_some : (b a : Expr) (old mid new : List Entry) → old ≡ value b ∷ mid → mid ≡ value a ∷ new → old ≡ value b ∷ (value a ∷ new)
two_some b a old mid new h k = h ∙ ap (λ (q : List Entry). value b ∷ q) k

pub two_none : (b : Expr) (old mid : List Entry) → old ≡ value b ∷ mid → ((on : Expression → List Entry → Option (List Entry)) → with_value mid on ≡ None)
    → (on : Expression → Expression → List Entry → Option (List Entry)) → with_two old on ≡ None
two_none b old mid h n on = ap (λ (q : List Entry). with_two q on) h ∙ n (λ a under. on a (expression_of b) under)

-- ---- what is made

pub prefixed_is : (s : table.Sign) (e m : Expr) (old mid new : List Entry) → old ≡ value e ∷ mid → expression_of m ≡ signed s (expression_of e) → new ≡ value m ∷ mid
    → prefixed s old ≡ Some new
prefixed_is s e m old mid new h k n = ap (prefixed s) h ∙ ap (λ (q : List Entry). Some q) (ap (λ (x : Expression). Value x ∷ mid) (sym k) ∙ sym n)

pub infixed_is : (o : Op) (x y : Expr) (a b : Box Expr Global) (old mid new : List Entry) → old ≡ value y ∷ (value x ∷ mid) → a.value ≡ x → b.value ≡ y
    → new ≡ value (exprs.Bin o a b) ∷ mid → infixed o old ≡ Some new
infixed_is o x y a b old mid new h p q n =
    ap (infixed o) h
    ∙ ap (λ (z : List Entry). Some z)
    (ap₂ (λ (u v : Expr). Value (tree.Binary o (expression_of u) (expression_of v)) ∷ mid) (sym p) (sym q)
    ∙ (ap (λ (z : Expression). Value z ∷ mid) (sym (expression_of-bin o a b)) ∙ sym n))

pub single_is : (e : Expr) (old mid new : List Entry) → old ≡ value e ∷ mid → new ≡ Part (subscript_of (subs.One e)) ∷ mid → single old ≡ Some new
single_is e old mid new h n = ap single h ∙ ap (λ (q : List Entry). Some q) (ap (λ (x : Subscript). Part x ∷ mid) (sym (subscript_of-one e)) ∙ sym n)

pub bounded_is : (x y : Expr) (old mid new : List Entry) → old ≡ value y ∷ (value x ∷ mid) → new ≡ Part (subscript_of (subs.Part x y (exprs.Int (pos 1)))) ∷ mid
    → bounded old ≡ Some new
bounded_is x y old mid new h n =
    ap bounded h
    ∙ ap (λ (q : List Entry). Some q)
    (ap (λ (z : Expression). Part (tree.Section (expression_of x) (expression_of y) z) ∷ mid) (sym (expression_of-int (pos 1)))
    ∙ (ap (λ (z : Subscript). Part z ∷ mid) (sym (subscript_of-part x y (exprs.Int (pos 1)))) ∙ sym n))

pub strided_is : (x y z : Expr) (old mid under new : List Entry) → old ≡ value z ∷ mid → mid ≡ value y ∷ (value x ∷ under) → new ≡ Part (subscript_of (subs.Part x y z)) ∷ under
    → strided old ≡ Some new
strided_is x y z old mid under new h k n =
    ap strided (h ∙ ap (λ (q : List Entry). value z ∷ q) k)
    ∙ ap (λ (q : List Entry). Some q) (ap (λ (s : Subscript). Part s ∷ under) (sym (subscript_of-part x y z)) ∙ sym n)

pub strided_none : (z : Expr) (old mid : List Entry) → old ≡ value z ∷ mid
    → ((on : Expression → Expression → List Entry → Option (List Entry)) → with_two mid on ≡ None) → strided old ≡ None
strided_none z old mid h n = ap strided h ∙ n (λ a b under. Some (Part (tree.Section a b (expression_of z)) ∷ under))

abbrev made_loop : List ℕ → Expr → Expr → Turn
made_loop x a b = roll-Turn (record { var = x; first = a; last = b })

pub turned_is : (x : List ℕ) (a b e : Expr) (ls : List Turn) (old mid under new : List Entry) → old ≡ value b ∷ (value a ∷ mid) → mid ≡ value e ∷ under
    → ls ≡ made_loop x a b ∷ [] → new ≡ building.Turn (expression_of e) (map loop_of ls) ∷ under → turned x old ≡ Some new
turned_is x a b e ls old mid under new h k l n =
    ap (turned x) (h ∙ ap (λ (q : List Entry). value b ∷ (value a ∷ q)) k)
    ∙ ap (λ (q : List Entry). Some q)
    (ap (λ (q : ConstructorLoop). building.Turn (expression_of e) (q ∷ []) ∷ under) (sym (loop_of-made x a b))
    ∙ (ap (λ (q : List Turn). building.Turn (expression_of e) (map loop_of q) ∷ under) (sym l) ∙ sym n))

pub turned_none : (x : List ℕ) (a b : Expr) (old mid : List Entry) → old ≡ value b ∷ (value a ∷ mid)
    → ((on : Expression → List Entry → Option (List Entry)) → with_value mid on ≡ None) → turned x old ≡ None
turned_none x a b old mid h n =
    ap (turned x) h ∙ n (λ e under. Some (building.Turn e (building.loop_of x (expression_of a) (expression_of b) ∷ []) ∷ under))

pub turned_round_is : (x : List ℕ) (a b e : Expr) (ls ms : List Turn) (old mid under new : List Entry) → old ≡ value b ∷ (value a ∷ mid)
    → mid ≡ building.Turn (expression_of e) (map loop_of ls) ∷ under → ms ≡ ls ++ made_loop x a b ∷ [] → new ≡ building.Turn (expression_of e) (map loop_of ms) ∷ under
    → turned_round x old ≡ Some new
turned_round_is x a b e ls ms old mid under new h k l n =
    ap (turned_round x) (h ∙ ap (λ (q : List Entry). value b ∷ (value a ∷ q)) k)
    ∙ ap (λ (q : List Entry). Some q)
    (ap (λ (q : ConstructorLoop). building.Turn (expression_of e) (map loop_of ls ++ q ∷ []) ∷ under) (sym (loop_of-made x a b))
    ∙ (ap (λ (q : List ConstructorLoop). building.Turn (expression_of e) q ∷ under) (sym (map_push loop_of ls (made_loop x a b)))
    ∙ (ap (λ (q : List Turn). building.Turn (expression_of e) (map loop_of q) ∷ under) (sym l) ∙ sym n)))

pub turned_round_none : (x : List ℕ) (a b : Expr) (old mid : List Entry) → old ≡ value b ∷ (value a ∷ mid)
    → ((on : Expression → List ConstructorLoop → List Entry → Option (List Entry)) → with_turn mid on ≡ None) → turned_round x old ≡ None
turned_round_none x a b old mid h n =
    ap (turned_round x) h ∙ n (λ e ls under. Some (building.Turn e (ls ++ building.loop_of x (expression_of a) (expression_of b) ∷ []) ∷ under))

pub looped_is : (e : Expr) (ls : Seq Turn) (es : Seq Expr) (old mid under new : List Entry) → old ≡ building.Turn (expression_of e) (map loop_of ls) ∷ mid → mid ≡ Mark ∷ under
    → es ≡ e ∷ [] → new ≡ value (exprs.List es ls) ∷ under → looped old ≡ Some new
looped_is e ls es old mid under new h k l n =
    ap looped (h ∙ ap (λ (q : List Entry). building.Turn (expression_of e) (map loop_of ls) ∷ q) k)
    ∙ ap (λ (q : List Entry). Some q)
    (ap (λ (q : List Expr). Value (tree.Constructor (tree.expressions (map expression_of q)) (constructor_loops (map loop_of ls))) ∷ under) (sym l)
    ∙ (ap (λ (x : Expression). Value x ∷ under) (sym (expression_of-list es ls)) ∙ sym n))

pub looped_none : (e : Expr) (ls : List Turn) (old mid : List Entry) → old ≡ building.Turn (expression_of e) (map loop_of ls) ∷ mid
    → ((on : List Entry → Option (List Entry)) → with_mark mid on ≡ None) → looped old ≡ None
looped_none e ls old mid h n =
    ap looped h ∙ n (λ under. Some (Value (tree.Constructor (tree.expression (expression_of e) tree.no_expressions) (constructor_loops (map loop_of ls))) ∷ under))

pub constructed_is : (es : Seq Expr) (ls : Seq Turn) (o : Option building.Values) (under new : List Entry) → o ≡ Some (record { values = map expression_of es; under = under })
    → ls ≡ [] → new ≡ value (exprs.List es ls) ∷ under → building.constructed o ≡ Some new
constructed_is es ls o under new h l n =
    ap building.constructed h
    ∙ ap (λ (q : List Entry). Some q)
    (ap (λ (q : List Turn). Value (tree.Constructor (tree.expressions (map expression_of es)) (constructor_loops (map loop_of q))) ∷ under) (sym l)
    ∙ (ap (λ (x : Expression). Value x ∷ under) (sym (expression_of-list es ls)) ∙ sym n))

-- ---- arguments

arguments_last : (ss : List Subscript) (s : Subscript) → arguments90_of (ss ++ s ∷ []) ≡ arguments90_of ss ++ argument_of s ∷ []
arguments_last [] s = refl
arguments_last (t ∷ ss) s = ap (λ (q : List Expression). argument_of t ∷ q) (arguments_last ss s)

pub arguments_push : (xs : List Sub) (x : Sub) → arguments90_of (map subscript_of (xs ++ x ∷ [])) ≡ arguments90_of (map subscript_of xs) ++ argument_of (subscript_of x) ∷ []
arguments_push xs x = ap arguments90_of (map_push subscript_of xs x) ∙ arguments_last (map subscript_of xs) (subscript_of x)

pub argument_more : (done : List Expr) (e : Expr) (xs : List Sub) (x : Sub) → map expression_of done ≡ arguments90_of (map subscript_of xs)
    → expression_of e ≡ argument_of (subscript_of x) → map expression_of (done ++ e ∷ []) ≡ arguments90_of (map subscript_of (xs ++ x ∷ []))
argument_more done e xs x h k =
    map_push expression_of done e
    ∙ (ap (λ (q : List Expression). q ++ expression_of e ∷ []) h
    ∙ (ap (λ (q : Expression). arguments90_of (map subscript_of xs) ++ q ∷ []) k ∙ sym (arguments_push xs x)))

pub ruleset arguments = (argument_more)

-- ---- what the list begins with

pub number_is : (k : ℕ) (z : ℤ) (old new : List Entry) → z ≡ pos k → new ≡ value (exprs.Int z) ∷ old → building.valued (tree.Number (pos k)) old ≡ Some new
number_is k z old new h e =
    ap (λ (q : List Entry). Some q) (ap (λ (q : ℤ). Value (tree.Number q) ∷ old) (sym h) ∙ (ap (λ (q : Expression). Value q ∷ old) (sym (expression_of-int z)) ∙ sym e))

pub truth_is : (b : Bool) (old new : List Entry) → new ≡ value (exprs.Truth b) ∷ old → building.valued (tree.Logic b) old ≡ Some new
truth_is b old new e = ap (λ (q : List Entry). Some q) (ap (λ (q : Expression). Value q ∷ old) (sym (expression_of-truth b)) ∙ sym e)

-- of the part that the code looks at
pub built_of : (fs : Functions) (n m : code.Node) (old : List Entry) (new : Option (List Entry)) → n ≡ m → build (function_in fs) (node_seen m) old ≡ new
    → build (function_in fs) (node_seen n) old ≡ new
built_of fs n m old new h k = ap (λ (q : code.Node). build (function_in fs) (node_seen q) old) h ∙ k

-- ---- the value that is left

abbrev nil : List Entry
nil = []

pub sole_other : (old : List Entry) → ((on : Expression → List Entry → Option (List Entry)) → with_value old on ≡ None) → (e : Expression) → old ≡ Value e ∷ [] → ⊥
sole_other old n e h =
    let on : Expression → List Entry → Option (List Entry) = λ x st. Some [] in
    let k : with_value (Value e ∷ []) on ≡ None = sym (ap (λ (q : List Entry). with_value q on) h) ∙ n on in
    clash k
  where
    clash : Some nil ≡ None → ⊥
    clash e = cc

pub ruleset steps = (two_some, two_none, prefixed_is, infixed_is, single_is, bounded_is, strided_is, strided_none, turned_is, turned_none, turned_round_is, turned_round_none, looped_is, looped_none, constructed_is)
