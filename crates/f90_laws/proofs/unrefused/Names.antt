-- Each name of a printed program is declared, with a dimension for each part in its parentheses.
use Rattle.std.proofs.Common.{◌≡◌, ◌⊎◌, inl, inr, refl, sym, subst, ℕ, ◌+◌, arith, Bool, true, false, Option, None, Some, IsSomeAnd, List, [], ◌∷◌, ◌++◌, codes}
use Rattle.std.specs.Prelude.{nat_le, flat_map}
use Rattle.std.specs.List.{AllByRecursion}
use Rattle.std.proofs.lemmas.Bool.{cond_both}
use Rattle.tree.specs.declared.ops.Op.{Op}
use Rattle.tree.specs.declared.ops.Op.TheVariants.{Not}
use Rattle.tree.specs.declared.ops.Kind.{Kind}
use Rattle.tree.specs.declared.ops.Kind.TheVariants.{Integer}
use Rattle.tree.specs.OperatorTable.{left_least, right_least, operand_kind}
use Rattle.tree.specs.declared.functions.Intrinsic.{Intrinsic}
use Rattle.tree.specs.Functions.{name_of_function, name_of_reduction}
use Rattle.tree.specs.Plain as tree
use Rattle.tree.specs.Plain.{Expression, Expressions, Subscript, Subscripts, Loops, Item, Items, Reference, Extent, Declaration}
use Rattle.meaning.specs.Typed.{declared, rank_of_extent, number_of_subscripts}
use Rattle.meaning.specs.Typed90.{HasKind, AreArguments, AreScalars, AreSubscripts, IsSubscript, AreLoops}
use Rattle.f90_grammar.specs.Phrases as phrases
use Rattle.f90_grammar.specs.Phrases.{Phrase90, Paren, Value, ListPart, ListParts, One, Then, Phrases90, Turn, Innermost, Round, phrase_level90, length_of_parts}
use Rattle.f90_grammar.specs.Printing.{fit, unary_phrase, is_one, section_part, phrase_of, list_part_of, more_parts, more_arguments, more_values, rounds}
use Rattle.f90_grammar.specs.Reading.{function_by}
use Rattle.f90_grammar.specs.Declared.{Use90, use90_of, use_unless_function, uses90_in, uses_in_part, uses_in_parts, uses_in_values, uses_in_turn, uses90_in_variable, array_use, IsKnown, HasKnownNames}
use Rattle.f90_laws.proofs.printed.PrintedTrees.{source}
use Rattle.f90_laws.proofs.readings.Lists.{all_both}
use Rattle.f90_laws.proofs.unrefused.PrintedForms.{EachForm}
use Rattle.f90_laws.proofs.unrefused.EachPhrase.{EachPhrase, HasGoodPhrases, phrase_forms}
use Rattle.f90_grammar.specs.Forms as forms
use Rattle.f90_grammar.specs.Forms.{Form90}
use Rattle.f90_grammar.specs.Contents.{expressions_of, stored_variables_of}
use Rattle.f90_grammar.specs.PrintedForms.{phrases_of}

more_length : (ps : ListParts) (ss : Subscripts) → length_of_parts (more_parts ps ss) ≡ length_of_parts ps + number_of_subscripts ss
more_length ps tree.no_subscripts = omega arith
more_length ps (tree.subscript s ss) = let e = more_length (Then ps (list_part_of s)) ss in omega arith

module _ (ds : List Declaration) where
  abbrev AreKnown : List Use90 → Type 0
  AreKnown us = AllByRecursion (IsKnown ds) us

  known_both : (us vs : List Use90) → AreKnown us → AreKnown vs → AreKnown (us ++ vs)
  known_both us vs h k = all_both (IsKnown ds) us vs h k

  known_three : (us vs ws : List Use90) → AreKnown us → AreKnown vs → AreKnown ws → AreKnown (us ++ (vs ++ ws))
  known_three us vs ws h k g = known_both us (vs ++ ws) h (known_both vs ws k g)

  uses : Phrase90 → List Use90
  uses p = uses90_in (function_by ds) p

  -- ---- one name

  name_known : (x : List ℕ) (o : Option Declaration) (P : Declaration → Type 0) → IsSomeAnd o P → IsSomeAnd o (λ (d : Declaration). (◌≡◌ {A = ℕ} 0 0) ⊎ (◌≡◌ {A = ℕ} 0 (rank_of_extent d.extent)))
  name_known x None P h = absurd h
  name_known x (Some d) P h = inl refl

  listed_known : (n : ℕ) (k : Kind) (o : Option Declaration) → IsSomeAnd o (λ (d : Declaration). (k ≡ d.kind) × (n ≡ rank_of_extent d.extent))
      → IsSomeAnd o (λ (d : Declaration). (n ≡ 0) ⊎ (n ≡ rank_of_extent d.extent))
  listed_known n k None h = absurd h
  listed_known n k (Some d) h = inr h.1

  part_number : (s : Subscript) (ss : Subscripts) → length_of_parts (more_parts (One (list_part_of s)) ss) ≡ number_of_subscripts (tree.subscript s ss)
  part_number s ss = let e = more_length (One (list_part_of s)) ss in omega arith

  use_known : (x : List ℕ) (s : Subscript) (ss : Subscripts) (k : Kind) → HasKind ds (tree.Named x (tree.subscript s ss)) k
      → IsKnown ds (use90_of x (length_of_parts (more_parts (One (list_part_of s)) ss)))
  use_known x s ss k h =
      subst (λ (n : ℕ). IsKnown ds (use90_of x n)) (sym (part_number s ss)) (listed_known (number_of_subscripts (tree.subscript s ss)) k (declared ds x) h.0)

  unless_known : (o : Option Intrinsic) (x : List ℕ) (n : ℕ) → IsKnown ds (use90_of x n) → AreKnown (use_unless_function o x n)
  unless_known None x n h = (h, tt)
  unless_known (Some f) x n h = tt

  call_known : (o : Option Intrinsic) (f : Intrinsic) (x : List ℕ) (n : ℕ) → o ≡ Some f → AreKnown (use_unless_function o x n)
  call_known o f x n e = subst (λ (p : Option Intrinsic). AreKnown (use_unless_function p x n)) (sym e) tt

  -- ---- expressions

  fit_known : (n : ℕ) (p : Phrase90) → AreKnown (uses90_in (function_by ds) p) → AreKnown (uses90_in (function_by ds) (fit n p))
  fit_known n p h = cond_both (nat_le n (phrase_level90 p)) p (Paren p) (λ q. AreKnown (uses90_in (function_by ds) q)) (λ e. h) (λ e. h)

  unary_known : (o : Op) (p : Phrase90) → AreKnown (uses90_in (function_by ds) p) → AreKnown (uses90_in (function_by ds) (unary_phrase o p))
  unary_known Not p h = fit_known 6 p h
  unary_known o p h = fit_known 8 p h

  section_known : (t : Bool) (a b c : Phrase90) → AreKnown (uses90_in (function_by ds) a) → AreKnown (uses90_in (function_by ds) b) → AreKnown (uses90_in (function_by ds) c)
      → AreKnown (uses_in_part (function_by ds) (section_part t a b c))
  section_known true a b c h g k = known_both (uses90_in (function_by ds) a) (uses90_in (function_by ds) b) h g
  section_known false a b c h g k = known_three (uses90_in (function_by ds) a) (uses90_in (function_by ds) b) (uses90_in (function_by ds) c) h g k

  mutual
    known : (e : Expression) (k : Kind) → HasKind ds e k → AreKnown (uses90_in (function_by ds) (phrase_of e))
    known (tree.Number n) k h = tt
    known (tree.Logic b) k h = tt
    known (tree.Named x tree.no_subscripts) k h = (name_known x (declared ds x) _ h.0, tt)
    known (tree.Named x (tree.subscript s ss)) k h =
        known_both (use_unless_function (function_by ds x) x (length_of_parts (more_parts (One (list_part_of s)) ss))) _
        (unless_known (function_by ds x) x (length_of_parts (more_parts (One (list_part_of s)) ss)) (use_known x s ss k h)) (parts_known (One (list_part_of s)) ss (part_known s h.1.0) h.1.1)
    known (tree.Unary o a) k h = unary_known o (phrase_of a) (known a (operand_kind o) h.2)
    known (tree.Binary o a b) k h =
        known_both (uses90_in (function_by ds) (fit (left_least o) (phrase_of a))) _
        (fit_known (left_least o) (phrase_of a) (known a (operand_kind o) h.2)) (fit_known (right_least o) (phrase_of b) (known b (operand_kind o) h.3))
    known (tree.Apply f tree.no_expressions) k h = absurd (source ds (tree.Apply f tree.no_expressions) k h).1
    known (tree.Apply f (tree.expression e es)) k h =
        known_both _ _ (call_known (function_by ds (name_of_function f)) _ (name_of_function f) _ (source ds (tree.Apply f (tree.expression e es)) k h).0)
        (arguments_known (One (Value (phrase_of e))) es (known e Integer h.3.0) h.3.2)
    known (tree.Constructor tree.no_expressions tree.no_loops) k h = tt
    known (tree.Constructor (tree.expression e es) tree.no_loops) k h = values_known (phrases.Sole (phrase_of e)) es k (known e k h.0.0.0) h.0.1
    known (tree.Constructor tree.no_expressions (tree.loop x a b ls)) k h = absurd (source ds (tree.Constructor tree.no_expressions (tree.loop x a b ls)) k h).0
    known (tree.Constructor (tree.expression e tree.no_expressions) (tree.loop x a b ls)) k h =
        turn_known (Innermost (phrase_of e) x (phrase_of a) (phrase_of b)) ls
        (known_both (uses90_in (function_by ds) (phrase_of e)) _ (known e k h.0.0.0) (name_known x (declared ds x) _ h.2.0, known_both (uses90_in (function_by ds) (phrase_of a)) _ (known a Integer h.2.1.0) (known b Integer h.2.2.0)))
        h.2.3
    known (tree.Constructor (tree.expression e (tree.expression f es)) (tree.loop x a b ls)) k h =
        absurd (source ds (tree.Constructor (tree.expression e (tree.expression f es)) (tree.loop x a b ls)) k h).0
    known (tree.Spread a d n) k h =
        known_both _ _ (call_known (function_by ds (codes "SPREAD")) _ (codes "SPREAD") 3 (source ds (tree.Spread a d n) k h).0)
        (known_both (uses90_in (function_by ds) (phrase_of a) ++ []) _ (known_both (uses90_in (function_by ds) (phrase_of a)) [] (known a k h.4) tt) (known n Integer h.5))
    known (tree.Transpose a) k h =
        known_both _ _ (call_known (function_by ds (codes "TRANSPOSE")) _ (codes "TRANSPOSE") 1 (source ds (tree.Transpose a) k h).0) (known a k h.2)
    known (tree.Reshape a tree.no_expressions) k h = absurd (source ds (tree.Reshape a tree.no_expressions) k h).1
    known (tree.Reshape a (tree.expression e es)) k h =
        known_both _ _ (call_known (function_by ds (codes "RESHAPE")) _ (codes "RESHAPE") 2 (source ds (tree.Reshape a (tree.expression e es)) k h).0)
        (known_both (uses90_in (function_by ds) (phrase_of a)) _ (known a k h.4) (values_known (phrases.Sole (phrase_of e)) es Integer (known e Integer h.5.0.0) h.5.1))
    known (tree.Reduce r a) k h =
        known_both _ _ (call_known (function_by ds (name_of_reduction r)) _ (name_of_reduction r) 1 (source ds (tree.Reduce r a) k h).0) (known a Integer h.3)

    part_known : (s : Subscript) → IsSubscript ds s → AreKnown (uses_in_part (function_by ds) (list_part_of s))
    part_known (tree.Only e) h = known e Integer h.0
    part_known (tree.Section a b c) h =
        section_known (is_one c) (phrase_of a) (phrase_of b) (phrase_of c) (known a Integer h.0.0) (known b Integer h.1.0) (known c Integer h.2.0)

    parts_known : (ps : ListParts) (ss : Subscripts) → AreKnown (uses_in_parts (function_by ds) ps) → AreSubscripts ds ss → AreKnown (uses_in_parts (function_by ds) (more_parts ps ss))
    parts_known ps tree.no_subscripts g h = g
    parts_known ps (tree.subscript s ss) g h = parts_known (Then ps (list_part_of s)) ss (known_both (uses_in_parts (function_by ds) ps) _ g (part_known s h.0)) h.1

    arguments_known : (ps : ListParts) (es : Expressions) → AreKnown (uses_in_parts (function_by ds) ps) → AreArguments ds es → AreKnown (uses_in_parts (function_by ds) (more_arguments ps es))
    arguments_known ps tree.no_expressions g h = g
    arguments_known ps (tree.expression e es) g h =
        arguments_known (Then ps (Value (phrase_of e))) es (known_both (uses_in_parts (function_by ds) ps) _ g (known e Integer h.0)) h.2

    values_known : (ps : Phrases90) (es : Expressions) (k : Kind) → AreKnown (uses_in_values (function_by ds) ps) → AreScalars ds es k → AreKnown (uses_in_values (function_by ds) (more_values ps es))
    values_known ps tree.no_expressions k g h = g
    values_known ps (tree.expression e es) k g h =
        values_known (phrases.More ps (phrase_of e)) es k (known_both (uses_in_values (function_by ds) ps) _ g (known e k h.0.0)) h.1

    turn_known : (t : Turn) (ls : Loops) → AreKnown (uses_in_turn (function_by ds) t) → AreLoops ds ls → AreKnown (uses_in_turn (function_by ds) (rounds t ls))
    turn_known t tree.no_loops g h = g
    turn_known t (tree.loop x a b ls) g h =
        turn_known (Round t x (phrase_of a) (phrase_of b)) ls
        (known_both (uses_in_turn (function_by ds) t) _ g (name_known x (declared ds x) _ h.0, known_both (uses90_in (function_by ds) (phrase_of a)) _ (known a Integer h.1.0) (known b Integer h.2.0)))
        h.3

  variable_known : (x : List ℕ) (ss : Subscripts) (k : Kind) → HasKind ds (tree.Named x ss) k → AreKnown (uses90_in_variable (function_by ds) (phrase_of (tree.Named x ss)))
  variable_known x tree.no_subscripts k h = (name_known x (declared ds x) _ h.0, tt)
  variable_known x (tree.subscript s ss) k h = (use_known x s ss k h, parts_known (One (list_part_of s)) ss (part_known s h.1.0) h.1.1)

  -- ---- statements

  abbrev IsKnownPhrase : Phrase90 → Type 0
  IsKnownPhrase p = AreKnown (uses90_in (function_by ds) p)

  abbrev IsKnownVariable : Phrase90 → Type 0
  IsKnownVariable p = AreKnown (uses90_in_variable (function_by ds) p)

  flat_known : (ps : List Phrase90) → AllByRecursion IsKnownPhrase ps → AreKnown (flat_map (uses90_in (function_by ds)) ps)
  flat_known [] h = tt
  flat_known (p ∷ ps) h = known_both (uses90_in (function_by ds) p) _ h.0 (flat_known ps h.1)

  flat_variables : (ps : List Phrase90) → AllByRecursion IsKnownVariable ps → AreKnown (flat_map (uses90_in_variable (function_by ds)) ps)
  flat_variables [] h = tt
  flat_variables (p ∷ ps) h = known_both (uses90_in_variable (function_by ds) p) _ h.0 (flat_variables ps h.1)

  all_known : (f : Form90) → AreKnown (array_use (function_by ds) f) → HasGoodPhrases IsKnownPhrase IsKnownVariable f → HasKnownNames ds f
  all_known f a h =
      known_three (array_use (function_by ds) f) (flat_map (uses90_in (function_by ds)) (expressions_of f)) _ a (flat_known (expressions_of f) h.expressions) (flat_variables (stored_variables_of f) h.variables)

  each_known : EachPhrase ds IsKnownPhrase IsKnownVariable
  each_known = record { value = λ e k h. known e k h; variable = λ x ss k h. variable_known x ss k h }

pub known_forms : (ds : List Declaration) → EachForm ds (HasKnownNames ds)
known_forms ds =
    let each = phrase_forms (IsKnownPhrase ds) (IsKnownVariable ds) ds (each_known ds) in
    record {
      titles = λ x. tt;
      implicit = tt;
      declares = λ d h. tt;
      assigns = λ left right w h. all_known ds _ tt (each.assigns left right w h);
      masks = λ mask left right w g h. all_known ds _ tt (each.masks mask left right w g h);
      tests = λ e h. all_known ds _ tt (each.tests e h);
      other_tests = λ e h. all_known ds _ tt (each.other_tests e h);
      others = tt;
      ends_if = tt;
      loops = λ x a b c g h k. all_known ds _ tt (each.loops x a b c g h k);
      ends_do = tt;
      labels = λ n h. tt;
      goes = λ n. tt;
      stops = tt;
      reads_nothing = tt;
      reads = λ i is around h l. all_known ds _ tt (each.reads i is around h l);
      prints_nothing = tt;
      prints = λ i is around h l. all_known ds _ tt (each.prints i is around h l);
      allocates = λ x es h. all_known ds (forms.Allocate x (phrases_of es)) (name_known ds x (declared ds x) _ h.0, tt) (each.allocates x es h);
      deallocates = λ x h. (name_known ds x (declared ds x) _ h, tt);
      ends = tt;
    }
