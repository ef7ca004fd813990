-- The list of an expression makes its tree.
use Rattle.std.proofs.Common.{arith, ◌≡◌, ◌≤◌, ℕ, pos, negsuc, ◌-◌, ◌^◌, List, [], ◌∷◌, ◌++◌, refl, ap, sym, ◌∙◌, append_assoc, append-nil, Option, Some, None}
use Rattle.std.specs.Prelude.{min}
use Rattle.tree.specs.Limits.{greatest_literal}
use Rattle.tree.specs.OperatorTable.{Sign, Plus, Minus, Negation}
use Rattle.tree.specs.declared.functions.Intrinsic.{Intrinsic}
use Rattle.tree.specs.declared.functions.Intrinsic.TheVariants as intrinsics
use Rattle.tree.specs.Plain as tree
use Rattle.tree.specs.Plain.{Expression, Subscript, Loops}
use Rattle.tree.specs.View.{ConstructorLoop, constructor_loops}
use Rattle.f90_grammar.specs.Phrases as phrases
use Rattle.f90_grammar.specs.Phrases.{Phrase90, tree_of, tree_of_part, trees_of_parts, trees_of_values, looped, called, arguments90_of, natural_in, list_in}
use Rattle.reading.specs.Signs.{signed, argument_of}
use Rattle.f90_expressions.specs.Flat as flats
use Rattle.f90_expressions.specs.Flat.{Node, flat, flat_part, flat_parts, flat_values, flat_turn}
use Rattle.f90_trees.specs.Building.{MakesTree, Entry, Value, Part, Mark, Turn, loop_of, Parts, parts_above, Values, values_above, constructed, listed, built_on, build_all, held, held_all, held_subscript, held_subscripts, held_loops, held_dimension, called_held}

-- ---- what is held

smaller : (n g h : ℕ) → h ≤ g → min (min n g) h ≡ min n h
smaller n g h l = omega arith

held_natural : (e : Expression) → held_dimension (natural_in (held e)) ≡ held_dimension (natural_in e)
held_natural (tree.Number (pos n)) = smaller n greatest_literal (2 ^ 64 - 1) (omega arith)
held_natural (tree.Number (negsuc n)) = refl
held_natural (tree.Logic b) = refl
held_natural (tree.Named x ss) = refl
held_natural (tree.Unary o a) = refl
held_natural (tree.Binary o a b) = refl
held_natural (tree.Apply f es) = refl
held_natural (tree.Constructor es ls) = refl
held_natural (tree.Spread a d n) = refl
held_natural (tree.Transpose a) = refl
held_natural (tree.Reshape a es) = refl
held_natural (tree.Reduce r a) = refl

held_list : (e : Expression) → list_in (held e) ≡ held_all (list_in e)
held_list (tree.Number z) = refl
held_list (tree.Logic b) = refl
held_list (tree.Named x ss) = refl
held_list (tree.Unary o a) = refl
held_list (tree.Binary o a b) = refl
held_list (tree.Apply f es) = refl
held_list (tree.Constructor es ls) = refl
held_list (tree.Spread a d n) = refl
held_list (tree.Transpose a) = refl
held_list (tree.Reshape a es) = refl
held_list (tree.Reduce r a) = refl

held_argument : (s : Subscript) → argument_of (held_subscript s) ≡ held (argument_of s)
held_argument (tree.Only e) = refl
held_argument (tree.Section a b c) = refl

abbrev held_parts : List Subscript → List Subscript
held_parts [] = []
held_parts (s ∷ ss) = held_subscript s ∷ held_parts ss

held_parts-last : (ss : List Subscript) (s : Subscript) → held_parts (ss ++ s ∷ []) ≡ held_parts ss ++ held_subscript s ∷ []
held_parts-last [] s = refl
held_parts-last (t ∷ ss) s = ap (λ (q : List Subscript). held_subscript t ∷ q) (held_parts-last ss s)

abbrev held_values : List Expression → List Expression
held_values [] = []
held_values (e ∷ es) = held e ∷ held_values es

held_values-last : (es : List Expression) (e : Expression) → held_values (es ++ e ∷ []) ≡ held_values es ++ held e ∷ []
held_values-last [] e = refl
held_values-last (d ∷ es) e = ap (λ (q : List Expression). held d ∷ q) (held_values-last es e)

values_held : (es : List Expression) → tree.expressions (held_values es) ≡ held_all (tree.expressions es)
values_held [] = refl
values_held (e ∷ es) = ap (tree.expression (held e)) (values_held es)

parts_held : (ss : List Subscript) → tree.subscripts (held_parts ss) ≡ held_subscripts (tree.subscripts ss)
parts_held [] = refl
parts_held (s ∷ ss) = ap (tree.subscript (held_subscript s)) (parts_held ss)

arguments_held : (ss : List Subscript) → tree.expressions (arguments90_of (held_parts ss)) ≡ held_all (tree.expressions (arguments90_of ss))
arguments_held [] = refl
arguments_held (s ∷ ss) =
    ap (λ (e : Expression). tree.expression e (tree.expressions (arguments90_of (held_parts ss)))) (held_argument s)
    ∙ ap (tree.expression (held (argument_of s))) (arguments_held ss)

spread_held : (s d n : Subscript)
    → tree.Spread (argument_of (held_subscript s)) (held_dimension (natural_in (argument_of (held_subscript d)))) (argument_of (held_subscript n))
    ≡ tree.Spread (held (argument_of s)) (held_dimension (natural_in (argument_of d))) (held (argument_of n))
spread_held s d n =
    ap (λ (e : Expression). tree.Spread e (held_dimension (natural_in (argument_of (held_subscript d)))) (argument_of (held_subscript n))) (held_argument s)
    ∙ (ap (λ (e : Expression). tree.Spread (held (argument_of s)) (held_dimension (natural_in e)) (argument_of (held_subscript n))) (held_argument d)
    ∙ (ap (λ (k : ℕ). tree.Spread (held (argument_of s)) k (argument_of (held_subscript n))) (held_natural (argument_of d))
    ∙ ap (tree.Spread (held (argument_of s)) (held_dimension (natural_in (argument_of d)))) (held_argument n)))

reshape_held : (s ns : Subscript)
    → tree.Reshape (argument_of (held_subscript s)) (list_in (argument_of (held_subscript ns)))
    ≡ tree.Reshape (held (argument_of s)) (held_all (list_in (argument_of ns)))
reshape_held s ns =
    ap (λ (e : Expression). tree.Reshape e (list_in (argument_of (held_subscript ns)))) (held_argument s)
    ∙ (ap (λ (e : Expression). tree.Reshape (held (argument_of s)) (list_in e)) (held_argument ns)
    ∙ ap (tree.Reshape (held (argument_of s))) (held_list (argument_of ns)))

call_held : (f : Option Intrinsic) (x : List ℕ) (ss : List Subscript) → called_held f x (held_parts ss) ≡ held (called f x ss)
call_held None x ss = ap (tree.Named x) (parts_held ss)
call_held (Some (intrinsics.Elemental f)) x ss = ap (tree.Apply f) (arguments_held ss)
call_held (Some (intrinsics.Reduction r)) x [] = refl
call_held (Some (intrinsics.Reduction r)) x (s ∷ []) = ap (tree.Reduce r) (held_argument s)
call_held (Some (intrinsics.Reduction r)) x (s ∷ t ∷ ss) = ap (tree.Named x) (parts_held (s ∷ t ∷ ss))
call_held (Some intrinsics.Spread) x [] = refl
call_held (Some intrinsics.Spread) x (s ∷ []) = refl
call_held (Some intrinsics.Spread) x (s ∷ d ∷ []) = refl
call_held (Some intrinsics.Spread) x (s ∷ d ∷ n ∷ []) = spread_held s d n
call_held (Some intrinsics.Spread) x (s ∷ d ∷ n ∷ m ∷ ss) = ap (tree.Named x) (parts_held (s ∷ d ∷ n ∷ m ∷ ss))
call_held (Some intrinsics.Transpose) x [] = refl
call_held (Some intrinsics.Transpose) x (s ∷ []) = ap tree.Transpose (held_argument s)
call_held (Some intrinsics.Transpose) x (s ∷ t ∷ ss) = ap (tree.Named x) (parts_held (s ∷ t ∷ ss))
call_held (Some intrinsics.Reshape) x [] = refl
call_held (Some intrinsics.Reshape) x (s ∷ []) = refl
call_held (Some intrinsics.Reshape) x (s ∷ ns ∷ []) = reshape_held s ns
call_held (Some intrinsics.Reshape) x (s ∷ ns ∷ t ∷ ss) = ap (tree.Named x) (parts_held (s ∷ ns ∷ t ∷ ss))

sign_held : (s : Sign) (e : Expression) → signed s (held e) ≡ held (signed s e)
sign_held Plus e = refl
sign_held Minus e = refl
sign_held Negation e = refl

-- ---- parts and values on the stack, the last one above

abbrev parts_on : List Subscript → List Entry → List Entry
parts_on [] st = st
parts_on (s ∷ ss) st = parts_on ss (Part s ∷ st)

parts_on-last : (ss : List Subscript) (s : Subscript) (st : List Entry) → parts_on (ss ++ s ∷ []) st ≡ Part s ∷ parts_on ss st
parts_on-last [] s st = refl
parts_on-last (t ∷ ss) s st = parts_on-last ss s (Part t ∷ st)

parts_taken : (ss taken : List Subscript) (st : List Entry) → parts_above (parts_on ss st) taken ≡ parts_above st (ss ++ taken)
parts_taken [] taken st = refl
parts_taken (s ∷ ss) taken st = parts_taken ss taken (Part s ∷ st)

abbrev values_on : List Expression → List Entry → List Entry
values_on [] st = st
values_on (e ∷ es) st = values_on es (Value e ∷ st)

values_on-last : (es : List Expression) (e : Expression) (st : List Entry) → values_on (es ++ e ∷ []) st ≡ Value e ∷ values_on es st
values_on-last [] e st = refl
values_on-last (d ∷ es) e st = values_on-last es e (Value d ∷ st)

values_taken : (es taken : List Expression) (st : List Entry) → values_above (values_on es st) taken ≡ values_above st (es ++ taken)
values_taken [] taken st = refl
values_taken (e ∷ es) taken st = values_taken es taken (Value e ∷ st)

-- ---- loops, the innermost one first

abbrev before : List ConstructorLoop → Loops → Loops
before [] ls = ls
before (l ∷ more) ls = tree.loop l.variable l.first l.last (before more ls)

before-last : (more : List ConstructorLoop) (l : ConstructorLoop) (ls : Loops) → before (more ++ l ∷ []) ls ≡ before more (tree.loop l.variable l.first l.last ls)
before-last [] l ls = refl
before-last (k ∷ more) l ls = ap (tree.loop k.variable k.first k.last) (before-last more l ls)

loops_before : (ls : List ConstructorLoop) → before ls tree.no_loops ≡ constructor_loops ls
loops_before [] = refl
loops_before (l ∷ ls) = ap (tree.loop l.variable l.first l.last) (loops_before ls)

module _ (f : List ℕ → Option Intrinsic) where
  abbrev made : Phrase90 → Expression
  made p = held (tree_of f p)

  abbrev made_part : phrases.ListPart → Subscript
  made_part p = held_subscript (tree_of_part f p)

  abbrev made_parts : phrases.ListParts → List Subscript
  made_parts ps = held_parts (trees_of_parts f ps)

  abbrev made_values : phrases.Phrases90 → List Expression
  made_values ps = held_values (trees_of_values f ps)

  abbrev under_turn : phrases.Turn → Expression
  under_turn (phrases.Innermost p x a b) = made p
  under_turn (phrases.Round t x a b) = under_turn t

  abbrev loops_in : phrases.Turn → List ConstructorLoop
  loops_in (phrases.Innermost p x a b) = loop_of x (made a) (made b) ∷ []
  loops_in (phrases.Round t x a b) = loops_in t ++ loop_of x (made a) (made b) ∷ []

  looped_is : (t : phrases.Turn) (ls : Loops) → held (looped f t ls) ≡ tree.Constructor (tree.expression (under_turn t) tree.no_expressions) (before (loops_in t) (held_loops ls))
  looped_is (phrases.Innermost p x a b) ls = refl
  looped_is (phrases.Round t x a b) ls =
      looped_is t (tree.loop x (tree_of f a) (tree_of f b) ls)
      ∙ ap (tree.Constructor (tree.expression (under_turn t) tree.no_expressions)) (sym (before-last (loops_in t) (loop_of x (made a) (made b)) (held_loops ls)))

  grouped : (a b r : List Node) (st : List Entry) → build_all f ((a ++ b) ++ r) st ≡ build_all f (a ++ (b ++ r)) st
  grouped a b r st = ap (λ (q : List Node). build_all f q st) (append_assoc a b r)

  ends_list : (x : List ℕ) (ss : List Subscript) (r : List Node) (st : List Entry)
      → build_all f (flats.Listed x ∷ r) (parts_on (held_parts ss) (Mark ∷ st)) ≡ build_all f r (Value (held (called (f x) x ss)) ∷ st)
  ends_list x ss r st =
      ap (λ (o : Option Parts). built_on f (listed (f x) x o) (build_all f r)) (parts_taken (held_parts ss) [] (Mark ∷ st))
      ∙ (ap (λ (q : List Subscript). build_all f r (Value (called_held (f x) x q) ∷ st)) (append-nil (held_parts ss))
      ∙ ap (λ (e : Expression). build_all f r (Value e ∷ st)) (call_held (f x) x ss))

  ends_values : (es : List Expression) (r : List Node) (st : List Entry)
      → build_all f (flats.Values ∷ r) (values_on (held_values es) (Mark ∷ st))
      ≡ build_all f r (Value (held (tree.Constructor (tree.expressions es) tree.no_loops)) ∷ st)
  ends_values es r st =
      ap (λ (o : Option Values). built_on f (constructed o) (build_all f r)) (values_taken (held_values es) [] (Mark ∷ st))
      ∙ (ap (λ (q : List Expression). build_all f r (Value (tree.Constructor (tree.expressions q) tree.no_loops) ∷ st)) (append-nil (held_values es))
      ∙ ap (λ (q : tree.Expressions). build_all f r (Value (tree.Constructor q tree.no_loops) ∷ st)) (values_held es))

  mutual
    makes : (p : Phrase90) (r : List Node) (st : List Entry) → build_all f (flat p ++ r) st ≡ build_all f r (Value (made p) ∷ st)
    makes (phrases.Literal t) r st = refl
    makes (phrases.Truth b) r st = refl
    makes (phrases.Name x) r st = refl
    makes (phrases.Listed x ps) r st =
        grouped (flat_parts ps) (flats.Listed x ∷ []) r (Mark ∷ st)
        ∙ (makes_parts ps (flats.Listed x ∷ r) (Mark ∷ st) ∙ ends_list x (trees_of_parts f ps) r st)
    makes (phrases.Paren p) r st = grouped (flat p) (flats.Parenthesis ∷ []) r st ∙ makes p (flats.Parenthesis ∷ r) st
    makes (phrases.Signed s p) r st =
        grouped (flat p) (flats.Prefix s ∷ []) r st
        ∙ (makes p (flats.Prefix s ∷ r) st ∙ ap (λ (e : Expression). build_all f r (Value e ∷ st)) (sign_held s (tree_of f p)))
    makes (phrases.Joined o a b) r st =
        grouped (flat a) (flat b ++ flats.Infix o ∷ []) r st
        ∙ (makes a ((flat b ++ flats.Infix o ∷ []) ++ r) st
        ∙ (grouped (flat b) (flats.Infix o ∷ []) r (Value (made a) ∷ st) ∙ makes b (flats.Infix o ∷ r) (Value (made a) ∷ st)))
    makes (phrases.Values ps) r st =
        grouped (flat_values ps) (flats.Values ∷ []) r (Mark ∷ st)
        ∙ (makes_values ps (flats.Values ∷ r) (Mark ∷ st) ∙ ends_values (trees_of_values f ps) r st)
    makes (phrases.Looped t) r st =
        grouped (flat_turn t) (flats.Looped ∷ []) r (Mark ∷ st)
        ∙ (makes_turn t (flats.Looped ∷ r) (Mark ∷ st)
        ∙ ap (λ (e : Expression). build_all f r (Value e ∷ st))
        (ap (tree.Constructor (tree.expression (under_turn t) tree.no_expressions)) (sym (loops_before (loops_in t))) ∙ sym (looped_is t tree.no_loops)))

    makes_part : (p : phrases.ListPart) (r : List Node) (st : List Entry) → build_all f (flat_part p ++ r) st ≡ build_all f r (Part (made_part p) ∷ st)
    makes_part (phrases.Value p) r st = grouped (flat p) (flats.One ∷ []) r st ∙ makes p (flats.One ∷ r) st
    makes_part (phrases.Range a b) r st =
        grouped (flat a) (flat b ++ flats.Bounds ∷ []) r st
        ∙ (makes a ((flat b ++ flats.Bounds ∷ []) ++ r) st
        ∙ (grouped (flat b) (flats.Bounds ∷ []) r (Value (made a) ∷ st) ∙ makes b (flats.Bounds ∷ r) (Value (made a) ∷ st)))
    makes_part (phrases.Strided a b c) r st =
        grouped (flat a) (flat b ++ (flat c ++ flats.Stride ∷ [])) r st
        ∙ (makes a ((flat b ++ (flat c ++ flats.Stride ∷ [])) ++ r) st
        ∙ (grouped (flat b) (flat c ++ flats.Stride ∷ []) r (Value (made a) ∷ st)
        ∙ (makes b ((flat c ++ flats.Stride ∷ []) ++ r) (Value (made a) ∷ st)
        ∙ (grouped (flat c) (flats.Stride ∷ []) r (Value (made b) ∷ (Value (made a) ∷ st))
        ∙ makes c (flats.Stride ∷ r) (Value (made b) ∷ (Value (made a) ∷ st))))))

    makes_parts : (ps : phrases.ListParts) (r : List Node) (st : List Entry) → build_all f (flat_parts ps ++ r) st ≡ build_all f r (parts_on (made_parts ps) st)
    makes_parts (phrases.One p) r st = makes_part p r st
    makes_parts (phrases.Then ps p) r st =
        grouped (flat_parts ps) (flat_part p) r st
        ∙ (makes_parts ps (flat_part p ++ r) st
        ∙ (makes_part p r (parts_on (made_parts ps) st)
        ∙ ap (build_all f r)
        (sym (ap (λ (q : List Subscript). parts_on q st) (held_parts-last (trees_of_parts f ps) (tree_of_part f p)) ∙ parts_on-last (made_parts ps) (made_part p) st))))

    makes_values : (ps : phrases.Phrases90) (r : List Node) (st : List Entry) → build_all f (flat_values ps ++ r) st ≡ build_all f r (values_on (made_values ps) st)
    makes_values (phrases.Sole p) r st = makes p r st
    makes_values (phrases.More ps p) r st =
        grouped (flat_values ps) (flat p) r st
        ∙ (makes_values ps (flat p ++ r) st
        ∙ (makes p r (values_on (made_values ps) st)
        ∙ ap (build_all f r)
        (sym (ap (λ (q : List Expression). values_on q st) (held_values-last (trees_of_values f ps) (tree_of f p)) ∙ values_on-last (made_values ps) (made p) st))))

    makes_turn : (t : phrases.Turn) (r : List Node) (st : List Entry) → build_all f (flat_turn t ++ r) st ≡ build_all f r (Turn (under_turn t) (loops_in t) ∷ st)
    makes_turn (phrases.Innermost p x a b) r st =
        grouped (flat p) (flat a ++ (flat b ++ flats.Inner x ∷ [])) r st
        ∙ (makes p ((flat a ++ (flat b ++ flats.Inner x ∷ [])) ++ r) st
        ∙ (grouped (flat a) (flat b ++ flats.Inner x ∷ []) r (Value (made p) ∷ st)
        ∙ (makes a ((flat b ++ flats.Inner x ∷ []) ++ r) (Value (made p) ∷ st)
        ∙ (grouped (flat b) (flats.Inner x ∷ []) r (Value (made a) ∷ (Value (made p) ∷ st))
        ∙ makes b (flats.Inner x ∷ r) (Value (made a) ∷ (Value (made p) ∷ st))))))
    makes_turn (phrases.Round t x a b) r st =
        grouped (flat_turn t) (flat a ++ (flat b ++ flats.Outer x ∷ [])) r st
        ∙ (makes_turn t ((flat a ++ (flat b ++ flats.Outer x ∷ [])) ++ r) st
        ∙ (grouped (flat a) (flat b ++ flats.Outer x ∷ []) r (Turn (under_turn t) (loops_in t) ∷ st)
        ∙ (makes a ((flat b ++ flats.Outer x ∷ []) ++ r) (Turn (under_turn t) (loops_in t) ∷ st)
        ∙ (grouped (flat b) (flats.Outer x ∷ []) r (Value (made a) ∷ (Turn (under_turn t) (loops_in t) ∷ st))
        ∙ makes b (flats.Outer x ∷ r) (Value (made a) ∷ (Turn (under_turn t) (loops_in t) ∷ st))))))

pub makes_tree : MakesTree
makes_tree f p = ap (λ (q : List Node). build_all f q []) (sym (append-nil (flat p))) ∙ makes f p [] []
