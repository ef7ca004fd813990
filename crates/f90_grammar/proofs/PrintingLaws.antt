-- What the printer writes stands for its tree.
use Rattle.std.proofs.Common.{◌≡◌, ◌<◌, ◌^◌, refl, sym, ap, ◌∙◌, ℕ, ℤ, pos, negsuc, Bool, true, false, IsTrue, List, [], ◌∷◌, ◌++◌, Option, append_assoc, append-nil, arith, codes}
use Rattle.std.specs.Prelude.{nat_le, decimal}
use Rattle.std.specs.Str.Parse.{digits_value}
use Rattle.std.proofs.lemmas.Bool.{cond_both}
use Rattle.std.proofs.lemmas.Bool.Decides.{Decides-int_eq}
use Rattle.std.proofs.lemmas.Fmt.{decimal_is_IsNumeral_wide}
use mathlib.Core.Path.{ap₂}
use Rattle.tree.specs.declared.ops.Op.{Op}
use Rattle.tree.specs.declared.ops.Op.TheVariants.{Neg, Not}
use Rattle.tree.specs.Plain as tree
use Rattle.tree.specs.Plain.{Expression, Expressions, Subscript, Subscripts, Loops}
use Rattle.tree.specs.OperatorTable.{left_least, right_least}
use Rattle.f90_grammar.specs.Phrases.{Phrase90, Literal, Paren, Value, ListParts, One, Then, Phrases90, Sole, More, Turn, Innermost, Round, phrase_level90, called, arguments90_of, tree_of, tree_of_part, trees_of_parts, trees_of_values, looped}
use Rattle.reading.specs.Signs.{argument_of}
use Rattle.tree.specs.Functions.{name_of_function, name_of_reduction}
use Rattle.f90_grammar.specs.Printing.{fit, unary_phrase, digits_of, is_one, section_part, phrase_of, list_part_of, more_parts}
use Rattle.f90_grammar.specs.Printing.{more_arguments, more_values, rounds}
use Rattle.f90_grammar.specs.Sources.{IsLiteral, is_negating, IsSource, EachIsSource, IsSourceSubscript, AreSource}
use Rattle.f90_grammar.specs.Sources.{LoopsAreSource}
use Rattle.tree.specs.declared.functions.Intrinsic.{Intrinsic}

-- ---- lists

abbrev subscript_list : Subscripts → List Subscript
subscript_list tree.no_subscripts = []
subscript_list (tree.subscript s ss) = s ∷ subscript_list ss

abbrev expression_list : Expressions → List Expression
expression_list tree.no_expressions = []
expression_list (tree.expression e es) = e ∷ expression_list es

subscripts-list : (ss : Subscripts) → tree.subscripts (subscript_list ss) ≡ ss
subscripts-list tree.no_subscripts = refl
subscripts-list (tree.subscript s ss) = ap (tree.subscript s) (subscripts-list ss)

expressions-list : (es : Expressions) → tree.expressions (expression_list es) ≡ es
expressions-list tree.no_expressions = refl
expressions-list (tree.expression e es) = ap (tree.expression e) (expressions-list es)

arguments-append : (xs ys : List Subscript) → arguments90_of (xs ++ ys) ≡ arguments90_of xs ++ arguments90_of ys
arguments-append [] ys = refl
arguments-append (x ∷ xs) ys = ap (λ zs. argument_of x ∷ zs) (arguments-append xs ys)

read_decimal : (n : ℕ) → n < 2 ^ 127 → digits_value 10 (decimal n) ≡ n
read_decimal n h = (decimal_is_IsNumeral_wide n (omega arith)).1

one-is : (e : Expression) → is_one e ≡ true → tree.Number (pos 1) ≡ e
one-is (tree.Number n) e = ap tree.Number (sym ((Decides-int_eq n (pos 1)).0 e))
one-is (tree.Logic b) e = cc
one-is (tree.Named x ss) e = cc
one-is (tree.Unary o a) e = cc
one-is (tree.Binary o a b) e = cc
one-is (tree.Apply f es) e = cc
one-is (tree.Constructor es ls) e = cc
one-is (tree.Spread a d n) e = cc
one-is (tree.Transpose a) e = cc
one-is (tree.Reshape a es) e = cc
one-is (tree.Reduce r a) e = cc

module _ (function : List ℕ → Option Intrinsic) where
  fit_tree : (n : ℕ) (p : Phrase90) → tree_of function (fit n p) ≡ tree_of function p
  fit_tree n p = cond_both (nat_le n (phrase_level90 p)) p (Paren p) (λ q. tree_of function q ≡ tree_of function p) (λ e. refl) (λ e. refl)

  unary_tree : (o : Op) (p : Phrase90) → IsTrue (is_negating o) → tree_of function (unary_phrase o p) ≡ tree.Unary o (tree_of function p)
  unary_tree Neg p h = ap (tree.Unary Neg) (fit_tree 8 p)
  unary_tree Not p h = ap (tree.Unary Not) (fit_tree 6 p)
  unary_tree o p h = cc

  literal_tree : (n : ℤ) → IsLiteral n → tree_of function (Literal (digits_of n)) ≡ tree.Number n
  literal_tree (pos n) h = ap (λ m. tree.Number (pos m)) (read_decimal n h)
  literal_tree (negsuc n) h = absurd h

  section_tree : (t : Bool) (pa pb pc : Phrase90) (a b c : Expression) → (t ≡ true → tree.Number (pos 1) ≡ c)
      → tree_of function pa ≡ a → tree_of function pb ≡ b → tree_of function pc ≡ c → tree_of_part function (section_part t pa pb pc) ≡ tree.Section a b c
  section_tree true pa pb pc a b c one ea eb ec = ap₂ (λ x y. tree.Section x y (tree.Number (pos 1))) ea eb ∙ ap (tree.Section a b) (one refl)
  section_tree false pa pb pc a b c one ea eb ec = ap₂ (λ x y. tree.Section x y (tree_of function pc)) ea eb ∙ ap (tree.Section a b) ec

  mutual
    pub back : (e : Expression) → IsSource function e → tree_of function (phrase_of e) ≡ e
    back (tree.Number n) h = literal_tree n h
    back (tree.Logic b) h = refl
    back (tree.Named x tree.no_subscripts) h = refl
    back (tree.Named x (tree.subscript s ss)) h =
        ap (λ f. called f x (trees_of_parts function (more_parts (One (list_part_of s)) ss))) h.0
        ∙ ap (λ xs. tree.Named x (tree.subscripts xs)) (parts_back (One (list_part_of s)) ss h.1.1 ∙ ap (λ t. t ∷ [] ++ subscript_list ss) (part_back s h.1.0))
        ∙ ap (λ ts. tree.Named x (tree.subscript s ts)) (subscripts-list ss)
    back (tree.Unary o a) h = unary_tree o (phrase_of a) h.0 ∙ ap (tree.Unary o) (back a h.1)
    back (tree.Binary o a b) h =
        ap₂ (tree.Binary o) (fit_tree (left_least o) (phrase_of a) ∙ back a h.1) (fit_tree (right_least o) (phrase_of b) ∙ back b h.2)
    back (tree.Apply f tree.no_expressions) h = absurd h.1
    back (tree.Apply f (tree.expression e es)) h =
        ap (λ g. called g (name_of_function f) (trees_of_parts function (more_arguments (One (Value (phrase_of e))) es))) h.0
        ∙ ap (λ xs. tree.Apply f (tree.expressions xs)) (arguments_back (One (Value (phrase_of e))) es h.2.1 ∙ ap (λ t. t ∷ [] ++ expression_list es) (back e h.2.0))
        ∙ ap (λ ts. tree.Apply f (tree.expression e ts)) (expressions-list es)
    back (tree.Constructor tree.no_expressions tree.no_loops) h = absurd h.0
    back (tree.Constructor (tree.expression e es) tree.no_loops) h =
        ap (λ xs. tree.Constructor (tree.expressions xs) tree.no_loops) (values_back (Sole (phrase_of e)) es h.1.1 ∙ ap (λ t. t ∷ [] ++ expression_list es) (back e h.1.0))
        ∙ ap (λ ts. tree.Constructor (tree.expression e ts) tree.no_loops) (expressions-list es)
    back (tree.Constructor tree.no_expressions (tree.loop x a b ls)) h = absurd h.0
    back (tree.Constructor (tree.expression e tree.no_expressions) (tree.loop x a b ls)) h =
        loops_back (Innermost (phrase_of e) x (phrase_of a) (phrase_of b)) ls h.2.2
        ∙ ap₂ (λ t l. tree.Constructor (tree.expression t tree.no_expressions) l) (back e h.1.0) (ap₂ (λ p q. tree.loop x p q ls) (back a h.2.0) (back b h.2.1))
    back (tree.Constructor (tree.expression e (tree.expression f es)) (tree.loop x a b ls)) h = absurd h.0
    back (tree.Spread a d n) h =
        ap (λ g. called g (codes "SPREAD") (tree.Only (tree_of function (phrase_of a)) ∷ tree.Only (tree.Number (pos (digits_value 10 (decimal d)))) ∷ tree.Only (tree_of function (phrase_of n)) ∷ [])) h.0
        ∙ (ap₂ (λ p q. tree.Spread p (digits_value 10 (decimal d)) q) (back a h.2) (back n h.3) ∙ ap (λ k. tree.Spread a k n) (read_decimal d h.1))
    back (tree.Transpose a) h = ap (λ g. called g (codes "TRANSPOSE") (tree.Only (tree_of function (phrase_of a)) ∷ [])) h.0 ∙ ap tree.Transpose (back a h.1)
    back (tree.Reshape a tree.no_expressions) h = absurd h.1
    back (tree.Reshape a (tree.expression e es)) h =
        ap (λ g. called g (codes "RESHAPE") (tree.Only (tree_of function (phrase_of a)) ∷ tree.Only (tree.Constructor (tree.expressions (trees_of_values function (more_values (Sole (phrase_of e)) es))) tree.no_loops) ∷ [])) h.0
        ∙ (ap₂ (λ p xs. tree.Reshape p (tree.expressions xs)) (back a h.2) (values_back (Sole (phrase_of e)) es h.3.1 ∙ ap (λ t. t ∷ [] ++ expression_list es) (back e h.3.0))
        ∙ ap (λ ts. tree.Reshape a (tree.expression e ts)) (expressions-list es))
    back (tree.Reduce r a) h = ap (λ g. called g (name_of_reduction r) (tree.Only (tree_of function (phrase_of a)) ∷ [])) h.0 ∙ ap (tree.Reduce r) (back a h.1)

    part_back : (s : Subscript) → IsSourceSubscript function s → tree_of_part function (list_part_of s) ≡ s
    part_back (tree.Only e) h = ap tree.Only (back e h)
    part_back (tree.Section a b c) h = section_tree (is_one c) (phrase_of a) (phrase_of b) (phrase_of c) a b c (one-is c) (back a h.0) (back b h.1) (back c h.2)

    parts_back : (ps : ListParts) (ss : Subscripts) → AreSource function ss → trees_of_parts function (more_parts ps ss) ≡ trees_of_parts function ps ++ subscript_list ss
    parts_back ps tree.no_subscripts h = sym (append-nil (trees_of_parts function ps))
    parts_back ps (tree.subscript s ss) h =
        parts_back (Then ps (list_part_of s)) ss h.1 ∙ (append_assoc (trees_of_parts function ps) _ (subscript_list ss) ∙ ap (λ t. trees_of_parts function ps ++ t ∷ subscript_list ss) (part_back s h.0))

    arguments_back : (ps : ListParts) (es : Expressions) → EachIsSource function es
        → arguments90_of (trees_of_parts function (more_arguments ps es)) ≡ arguments90_of (trees_of_parts function ps) ++ expression_list es
    arguments_back ps tree.no_expressions h = sym (append-nil (arguments90_of (trees_of_parts function ps)))
    arguments_back ps (tree.expression e es) h =
        arguments_back (Then ps (Value (phrase_of e))) es h.1
        ∙ (ap (λ xs. xs ++ expression_list es) (arguments-append (trees_of_parts function ps) (tree.Only (tree_of function (phrase_of e)) ∷ []))
        ∙ (append_assoc (arguments90_of (trees_of_parts function ps)) _ (expression_list es) ∙ ap (λ t. arguments90_of (trees_of_parts function ps) ++ t ∷ expression_list es) (back e h.0)))

    values_back : (ps : Phrases90) (es : Expressions) → EachIsSource function es → trees_of_values function (more_values ps es) ≡ trees_of_values function ps ++ expression_list es
    values_back ps tree.no_expressions h = sym (append-nil (trees_of_values function ps))
    values_back ps (tree.expression e es) h =
        values_back (More ps (phrase_of e)) es h.1 ∙ (append_assoc (trees_of_values function ps) _ (expression_list es) ∙ ap (λ t. trees_of_values function ps ++ t ∷ expression_list es) (back e h.0))

    -- the loops round a turn are its loops
    loops_back : (t : Turn) (ls : Loops) → LoopsAreSource function ls → looped function (rounds t ls) tree.no_loops ≡ looped function t ls
    loops_back t tree.no_loops h = refl
    loops_back t (tree.loop x a b ls) h = loops_back (Round t x (phrase_of a) (phrase_of b)) ls h.2 ∙ ap₂ (λ p q. looped function t (tree.loop x p q ls)) (back a h.0) (back b h.1)
