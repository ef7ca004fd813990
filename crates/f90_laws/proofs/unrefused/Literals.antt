-- No literal of a printed program is too great.
use Rattle.std.specs.Prelude.{nat_lt, nat_le, ◌||◌}
use Rattle.std.proofs.Common.{◌≡◌, refl, ap, ◌∙◌, ℕ, ◌+◌, ◌<◌, ◌^◌, ◌-◌, arith, decimal, ℤ, pos, negsuc, Bool, true, false, Option, List, [], ◌∷◌, ◌++◌, map, FitsSigned, w64, replicate, zero, suc}
use Rattle.std.specs.List.{AllByRecursion, list_any}
use Rattle.std.specs.Ordering.{int_eq}
use Rattle.std.proofs.lemmas.Bool.{cond_both, le-ltb}
use Rattle.std.proofs.lemmas.Fmt.{decimal_is_IsNumeral_wide}
use Rattle.tree.specs.declared.ops.Op.{Op}
use Rattle.tree.specs.declared.ops.Op.TheVariants.{Not}
use Rattle.tree.specs.declared.functions.Intrinsic.{Intrinsic}
use Rattle.tree.specs.OperatorTable.{left_least, right_least}
use Rattle.tree.specs.Plain as tree
use Rattle.tree.specs.Plain.{Expression, Expressions, Subscript, Subscripts, Loops, Item, Items, Reference, Extent, Given, Later, Declaration}
use Rattle.meaning.specs.Profile90.{IsExtent}
use Rattle.meaning.specs.Extents.{IsDimension}
use Rattle.f90_grammar.specs.Phrases.{Phrase90, Paren, Value, ListParts, One, Then, Phrases90, Sole, More, Turn, Innermost, Round, phrase_level90, value_of_digits}
use Rattle.f90_grammar.specs.Printing.{fit, unary_phrase, is_one, section_part, digits_of, phrase_of, list_part_of, more_parts}
use Rattle.f90_grammar.specs.Printing.{more_arguments, more_values, rounds}
use Rattle.f90_grammar.specs.Sources.{IsLiteral, IsSource, EachIsSource, IsSourceSubscript, AreSource, LoopsAreSource}
use Rattle.f90_grammar.specs.PrintedForms.{bound, dimension, dimensions_of}
use Rattle.f90_grammar.specs.Forms as forms
use Rattle.f90_grammar.specs.Forms.{Form90}
use Rattle.f90_grammar.specs.Contents.{is_wide_literal, has_wide_literal90, part_has_wide_literal, parts_have_wide_literal, values_have_wide_literal, turn_has_wide_literal, is_wide_dimension, is_declared_wide, has_wide_literal_in, expressions_of, stored_variables_of}
use Rattle.f90_grammar.specs.Reading.{function_by}
use Rattle.f90_laws.proofs.printed.PrintedTrees.{source}
use Rattle.f90_laws.proofs.readings.Lists.{both_false, all_both}
use Rattle.f90_laws.proofs.unrefused.PrintedForms.{EachForm}
use Rattle.f90_laws.proofs.unrefused.EachPhrase.{EachPhrase, HasGoodPhrases, phrase_forms}

decimal_narrow : (n : ℕ) → n < 2 ^ 127 → is_wide_literal (decimal n) ≡ false
decimal_narrow n h =
    let e : value_of_digits (decimal n) ≡ n = (decimal_is_IsNumeral_wide n (omega arith)).1 in
    ap (λ m. nat_lt (2 ^ 127 - 1) m) e ∙ le-ltb (2 ^ 127 - 1) n (omega arith)

literal_narrow : (n : ℤ) → IsLiteral n → is_wide_literal (digits_of n) ≡ false
literal_narrow (pos n) h = decimal_narrow n h
literal_narrow (negsuc n) h = absurd h

fit_narrow : (n : ℕ) (p : Phrase90) → has_wide_literal90 p ≡ false → has_wide_literal90 (fit n p) ≡ false
fit_narrow n p h = cond_both (nat_le n (phrase_level90 p)) p (Paren p) (λ q. has_wide_literal90 q ≡ false) (λ e. h) (λ e. h)

unary_narrow : (o : Op) (p : Phrase90) → has_wide_literal90 p ≡ false → has_wide_literal90 (unary_phrase o p) ≡ false
unary_narrow Not p h = fit_narrow 6 p h
unary_narrow o p h = fit_narrow 8 p h

section_narrow : (t : Bool) (a b c : Phrase90) → has_wide_literal90 a ≡ false → has_wide_literal90 b ≡ false → has_wide_literal90 c ≡ false → part_has_wide_literal (section_part t a b c) ≡ false
section_narrow true a b c h g k = both_false (has_wide_literal90 a) (has_wide_literal90 b) h g
section_narrow false a b c h g k = both_false (has_wide_literal90 a) _ h (both_false (has_wide_literal90 b) (has_wide_literal90 c) g k)

three_false : (a b c : Bool) → a ≡ false → b ≡ false → c ≡ false → (a || (b || c)) ≡ false
three_false a b c h g k = both_false a (b || c) h (both_false b c g k)

module _ (function : List ℕ → Option Intrinsic) where
  mutual
    narrow : (e : Expression) → IsSource function e → has_wide_literal90 (phrase_of e) ≡ false
    narrow (tree.Number n) h = literal_narrow n h
    narrow (tree.Logic b) h = refl
    narrow (tree.Named x tree.no_subscripts) h = refl
    narrow (tree.Named x (tree.subscript s ss)) h = parts_narrow (One (list_part_of s)) ss (part_narrow s h.1.0) h.1.1
    narrow (tree.Unary o a) h = unary_narrow o (phrase_of a) (narrow a h.1)
    narrow (tree.Binary o a b) h =
        both_false (has_wide_literal90 (fit (left_least o) (phrase_of a))) (has_wide_literal90 (fit (right_least o) (phrase_of b)))
        (fit_narrow (left_least o) (phrase_of a) (narrow a h.1)) (fit_narrow (right_least o) (phrase_of b) (narrow b h.2))
    narrow (tree.Apply f tree.no_expressions) h = refl
    narrow (tree.Apply f (tree.expression e es)) h = arguments_narrow (One (Value (phrase_of e))) es (narrow e h.2.0) h.2.1
    narrow (tree.Constructor tree.no_expressions tree.no_loops) h = refl
    narrow (tree.Constructor (tree.expression e es) tree.no_loops) h = values_narrow (Sole (phrase_of e)) es (narrow e h.1.0) h.1.1
    narrow (tree.Constructor tree.no_expressions (tree.loop x a b ls)) h = absurd h.0
    narrow (tree.Constructor (tree.expression e tree.no_expressions) (tree.loop x a b ls)) h =
        turn_narrow (Innermost (phrase_of e) x (phrase_of a) (phrase_of b)) ls
        (three_false (has_wide_literal90 (phrase_of e)) (has_wide_literal90 (phrase_of a)) (has_wide_literal90 (phrase_of b)) (narrow e h.1.0) (narrow a h.2.0) (narrow b h.2.1)) h.2.2
    narrow (tree.Constructor (tree.expression e (tree.expression f es)) (tree.loop x a b ls)) h = absurd h.0
    narrow (tree.Spread a d n) h =
        both_false (has_wide_literal90 (phrase_of a) || is_wide_literal (decimal d)) (has_wide_literal90 (phrase_of n))
        (both_false (has_wide_literal90 (phrase_of a)) (is_wide_literal (decimal d)) (narrow a h.2) (decimal_narrow d h.1)) (narrow n h.3)
    narrow (tree.Transpose a) h = narrow a h.1
    narrow (tree.Reshape a tree.no_expressions) h = absurd h.1
    narrow (tree.Reshape a (tree.expression e es)) h =
        both_false (has_wide_literal90 (phrase_of a)) (values_have_wide_literal (more_values (Sole (phrase_of e)) es)) (narrow a h.2)
        (values_narrow (Sole (phrase_of e)) es (narrow e h.3.0) h.3.1)
    narrow (tree.Reduce r a) h = narrow a h.1

    part_narrow : (s : Subscript) → IsSourceSubscript function s → part_has_wide_literal (list_part_of s) ≡ false
    part_narrow (tree.Only e) h = narrow e h
    part_narrow (tree.Section a b c) h = section_narrow (is_one c) (phrase_of a) (phrase_of b) (phrase_of c) (narrow a h.0) (narrow b h.1) (narrow c h.2)

    parts_narrow : (ps : ListParts) (ss : Subscripts) → parts_have_wide_literal ps ≡ false → AreSource function ss → parts_have_wide_literal (more_parts ps ss) ≡ false
    parts_narrow ps tree.no_subscripts g h = g
    parts_narrow ps (tree.subscript s ss) g h =
        parts_narrow (Then ps (list_part_of s)) ss (both_false (parts_have_wide_literal ps) (part_has_wide_literal (list_part_of s)) g (part_narrow s h.0)) h.1

    arguments_narrow : (ps : ListParts) (es : Expressions) → parts_have_wide_literal ps ≡ false → EachIsSource function es → parts_have_wide_literal (more_arguments ps es) ≡ false
    arguments_narrow ps tree.no_expressions g h = g
    arguments_narrow ps (tree.expression e es) g h =
        arguments_narrow (Then ps (Value (phrase_of e))) es (both_false (parts_have_wide_literal ps) (has_wide_literal90 (phrase_of e)) g (narrow e h.0)) h.1

    values_narrow : (ps : Phrases90) (es : Expressions) → values_have_wide_literal ps ≡ false → EachIsSource function es → values_have_wide_literal (more_values ps es) ≡ false
    values_narrow ps tree.no_expressions g h = g
    values_narrow ps (tree.expression e es) g h =
        values_narrow (More ps (phrase_of e)) es (both_false (values_have_wide_literal ps) (has_wide_literal90 (phrase_of e)) g (narrow e h.0)) h.1

    turn_narrow : (t : Turn) (ls : Loops) → turn_has_wide_literal t ≡ false → LoopsAreSource function ls → turn_has_wide_literal (rounds t ls) ≡ false
    turn_narrow t tree.no_loops g h = g
    turn_narrow t (tree.loop x a b ls) g h =
        turn_narrow (Round t x (phrase_of a) (phrase_of b)) ls
        (three_false (turn_has_wide_literal t) (has_wide_literal90 (phrase_of a)) (has_wide_literal90 (phrase_of b)) g (narrow a h.0) (narrow b h.1)) h.2

-- ---- statements

abbrev IsNarrow : Phrase90 → Type 0
IsNarrow p = has_wide_literal90 p ≡ false

each_narrow : (ds : List Declaration) → EachPhrase ds IsNarrow IsNarrow
each_narrow ds = record {
  value = λ e k h. narrow (function_by ds) e (source ds e k h);
  variable = λ x ss k h. narrow (function_by ds) (tree.Named x ss) (source ds (tree.Named x ss) k h);
}

none_wide : (ps : List Phrase90) → AllByRecursion IsNarrow ps → list_any has_wide_literal90 ps ≡ false
none_wide [] h = refl
none_wide (p ∷ ps) h = both_false (has_wide_literal90 p) (list_any has_wide_literal90 ps) h.0 (none_wide ps h.1)

no_literal : (f : Form90) → is_declared_wide f ≡ false → HasGoodPhrases IsNarrow IsNarrow f → has_wide_literal_in f ≡ false
no_literal f e h =
    both_false (is_declared_wide f) (list_any has_wide_literal90 (expressions_of f ++ stored_variables_of f)) e
    (none_wide (expressions_of f ++ stored_variables_of f) (all_both IsNarrow (expressions_of f) (stored_variables_of f) h.expressions h.variables))

-- ---- bounds

bound_narrow : (z : ℤ) → FitsSigned w64 z → is_wide_literal (bound z).digits ≡ false
bound_narrow (pos n) h = let l : n < 2 ^ 63 = h.sfits in decimal_narrow n (omega arith)
bound_narrow (negsuc n) h = let l : n < 2 ^ 63 = h.sfits in decimal_narrow (n + 1) (omega arith)

dimension_narrow : (b : ℤ × ℤ) → IsDimension b → is_wide_dimension (dimension b) ≡ false
dimension_narrow b h =
    cond_both (int_eq b.0 (pos 1)) (forms.Upper (bound b.1)) (forms.Both (bound b.0) (bound b.1)) (λ d. is_wide_dimension d ≡ false)
    (λ e. bound_narrow b.1 h.upper)
    (λ e. both_false (is_wide_literal (bound b.0).digits) (is_wide_literal (bound b.1).digits) (bound_narrow b.0 h.lower) (bound_narrow b.1 h.upper))

dimensions_narrow : (bs : List (ℤ × ℤ)) → AllByRecursion IsDimension bs → list_any is_wide_dimension (map dimension bs) ≡ false
dimensions_narrow [] h = refl
dimensions_narrow (b ∷ bs) h = both_false (is_wide_dimension (dimension b)) _ (dimension_narrow b h.0) (dimensions_narrow bs h.1)

deferred_narrow : (n : ℕ) → list_any is_wide_dimension (replicate n forms.Deferred) ≡ false
deferred_narrow zero = refl
deferred_narrow (suc n) = deferred_narrow n

extent_narrow : (e : Extent) → IsExtent e → list_any is_wide_dimension (dimensions_of e) ≡ false
extent_narrow (Given bs) h = dimensions_narrow bs h.1
extent_narrow (Later n) h = deferred_narrow n

-- no literal is too great
abbrev pub HasNarrowLiterals : Form90 → Type 0
HasNarrowLiterals f = has_wide_literal_in f ≡ false

pub narrow_forms : (ds : List Declaration) → EachForm ds HasNarrowLiterals
narrow_forms ds =
    let each = phrase_forms IsNarrow IsNarrow ds (each_narrow ds) in
    record {
      titles = λ x. refl;
      implicit = refl;
      declares = λ d h. both_false _ false (both_false _ false (extent_narrow d.extent h.extent) refl) refl;
      assigns = λ left right w h. no_literal _ refl (each.assigns left right w h);
      masks = λ mask left right w g h. no_literal _ refl (each.masks mask left right w g h);
      tests = λ e h. no_literal _ refl (each.tests e h);
      other_tests = λ e h. no_literal _ refl (each.other_tests e h);
      others = refl;
      ends_if = refl;
      loops = λ x a b c g h k. no_literal _ refl (each.loops x a b c g h k);
      ends_do = refl;
      labels = λ n h. refl;
      goes = λ n. refl;
      stops = refl;
      reads_nothing = refl;
      reads = λ i is around h l. no_literal _ refl (each.reads i is around h l);
      prints_nothing = refl;
      prints = λ i is around h l. no_literal _ refl (each.prints i is around h l);
      allocates = λ x es h. no_literal _ refl (each.allocates x es h);
      deallocates = λ x h. refl;
      ends = refl;
    }
