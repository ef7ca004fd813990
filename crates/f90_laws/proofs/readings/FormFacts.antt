-- A form whose calls, kinds and ranks suit, and that is well and not too deep, is good in the tree of its block.
use Rattle.std.proofs.Common.{◌≡◌, ◌⊎◌, inl, inr, ℕ, zero, ◌+◌, ◌<◌, ◌≤◌, max, nat_le, Bool, true, false, ◌||◌, IsTrue, IsSomeAnd, Option, None, Some, List, [], ◌∷◌, ◌++◌, length, refl, sym, ap, subst, ◌∙◌, arith, codes, Contains}
use Rattle.std.specs.Prelude.{nat_lt}
use Rattle.std.specs.List.{AllByRecursion, list_any}
use Rattle.std.proofs.lemmas.Bool.Decides.{leb_tells}
use Rattle.tree.specs.Limits as limits
use Rattle.tree.specs.Plain as tree
use Rattle.tree.specs.Plain.{Expression, Reference, Expressions, Subscript, Declaration, Item, Items, Later}
use Rattle.tree.specs.declared.ops.Kind.TheVariants.{Integer, Logical}
use Rattle.tree.specs.declared.functions.Intrinsic.{Intrinsic}
use Rattle.tree.specs.declared.functions.Intrinsic.TheVariants.{Elemental, Reduction, Spread, Transpose, Reshape}
use Rattle.meaning.specs.Labels.{IsLabel}
use Rattle.meaning.specs.Depths.{depth_of, depth_of_each, depth_of_item, depth_of_items, depth_of_subscripts}
use Rattle.meaning.specs.Typed.{declared, number_of_arguments, has_item}
use Rattle.meaning.specs.Typed90.{rank_of, rank_of_subscripts, HasKind, IsScalar, AreScalars, HasSomeKind}
use Rattle.meaning.specs.Value.{named}
use Rattle.meaning.specs.Extents.{IsAllocatable}
use Rattle.f90_grammar.specs.Phrases as phrases
use Rattle.f90_grammar.specs.Phrases.{Phrase90, Literal, Truth, Name, Listed, Paren, Signed, Joined, Values, Looped, ListParts, IsExpression90, AreParts, phrase_depth90, depth_of_parts, tree_of, trees_of_parts, called, value_of_digits, SuitsCalls, PartsSuitCalls, AreValues}
use Rattle.f90_grammar.specs.Items.{ItemPhrase90, Of, Text, Loop, ItemPhrases90, Sole, More, Direction, Input, Output, IsReference90, IsVariable, MayStand90, IsStep90, IsItem90, AreItems90, step_tree90, item_tree90, item_trees90, step_depth90, item_depth90, items_depth90}
use Rattle.f90_grammar.specs.Words as words
use Rattle.f90_grammar.specs.Forms as forms
use Rattle.f90_grammar.specs.Forms.{Form90, IsInner90, IsWritten90}
use Rattle.reading.specs.Characters.{IsList}
use Rattle.reading.specs.Signs.{reference_in}
use Rattle.f90_grammar.specs.Blocks.{trees_by}
use Rattle.f90_grammar.specs.Reading.{function_by}
use Rattle.f90_grammar.specs.Contents.{step_expressions, item_expressions, items_expressions, item_variables, items_variables, expressions_of, stored_variables_of, VariableSuitsCalls, SuitsCallsIn, is_deep, has_deep_list, has_deep_expression}
use Rattle.f90_grammar.specs.Suited.{SuitsAssignment, SuitsMask, AreNumbers, SuitsList, SuitsItem, SuitsItems, SuitsAllocation, Suits}
use Rattle.f90_laws.proofs.readings.Lists.{left_false, right_false, all_left, all_right}
use Rattle.f90_laws.proofs.readings.Decisions.{Decided, both, three, either, same_number, at_most, some_and, same_later}
use Rattle.f90_laws.proofs.readings.KindFacts.{has_kind, scalar, some_kind, are_scalars, kind_too, scalar_too, some_kind_too, scalars_too, rank_same, rank_subscripts_same, some}
use Rattle.f90_laws.proofs.readings.Depths.{shallow, shallow_variable, parts_fit}
use Rattle.f90_laws.proofs.readings.Sound.{IsFilled, AreFilled, IsWordless, AreWordless, IsSoundAssignment, IsSoundMask, IsSoundList, AreSoundNumbers, IsSoundTest, IsSoundAllocation}
use Rattle.f90_laws.proofs.readings.Bodies.{IsGoodForm}
use Rattle.f90_laws.proofs.readings.WordFacts.{HasTexts, HaveTexts, IsWell}

abbrev pub deepest : ℕ
deepest = limits.expression_depth90

-- ---- kinds and ranks of a statement can be decided

module _ (ds : List Declaration) where
  suits_assignment : (left : Reference) (right : Expression) → Decided (SuitsAssignment ds left right)
  suits_assignment left right =
      both (some_and (declared ds left.name) (λ d. HasKind ds (named left) d.kind × HasKind ds right d.kind) (λ d. both (has_kind ds (named left) d.kind) (has_kind ds right d.kind)))
      (either (same_number (rank_of ds right) 0) (same_number (rank_of ds right) (rank_of ds (named left))))

  suits_mask : (m : Expression) (left : Reference) → Decided (SuitsMask ds m left)
  suits_mask m left = three (has_kind ds m Logical) (at_most 1 (rank_of ds (named left))) (same_number (rank_of ds m) (rank_of ds (named left)))

  are_numbers : (a b c : Expression) → Decided (AreNumbers ds a b c)
  are_numbers a b c = three (scalar ds a Integer) (scalar ds b Integer) (scalar ds c Integer)

  suits_list : (d : Direction) (e : Expression) → Decided (SuitsList ds d e)
  suits_list Output e = some_kind ds e
  suits_list Input (tree.Named x ps) = both (some_kind ds (tree.Named x ps)) (same_number (rank_of_subscripts ds ps) 0)
  suits_list Input (tree.Number n) = inr (λ h. h)
  suits_list Input (tree.Logic b) = inr (λ h. h)
  suits_list Input (tree.Unary o a) = inr (λ h. h)
  suits_list Input (tree.Binary o a b) = inr (λ h. h)
  suits_list Input (tree.Apply f es) = inr (λ h. h)
  suits_list Input (tree.Constructor es ls) = inr (λ h. h)
  suits_list Input (tree.Spread a d n) = inr (λ h. h)
  suits_list Input (tree.Transpose a) = inr (λ h. h)
  suits_list Input (tree.Reshape a es) = inr (λ h. h)
  suits_list Input (tree.Reduce r a) = inr (λ h. h)

  mutual
    suits_item : (d : Direction) (i : Item) → Decided (SuitsItem ds d i)
    suits_item d (tree.Single e) = suits_list d e
    suits_item d (tree.Constant t) = inl tt
    suits_item d (tree.ImpliedDo is x a b c) = both (suits_items d is) (are_numbers a b c)

    suits_items : (d : Direction) (is : Items) → Decided (SuitsItems ds d is)
    suits_items d tree.no_items = inl tt
    suits_items d (tree.item i is) = both (suits_item d i) (suits_items d is)

  allocatable : (e : tree.Extent) → Decided (IsAllocatable e)
  allocatable (tree.Given bs) = inr (λ h. h)
  allocatable (tree.Later n) = inl tt

  pub suits : (f : Form90) → Decided (Suits ds f)
  suits (forms.Assign l r) = suits_assignment (reference_in (tree_of (function_by ds) l)) (tree_of (function_by ds) r)
  suits (forms.Where m l r) = both (suits_mask (tree_of (function_by ds) m) (reference_in (tree_of (function_by ds) l))) (suits_assignment (reference_in (tree_of (function_by ds) l)) (tree_of (function_by ds) r))
  suits (forms.Test p f) = both (scalar ds (tree_of (function_by ds) p) Logical) (suits f)
  suits (forms.If p) = scalar ds (tree_of (function_by ds) p) Logical
  suits (forms.ElseIf p) = scalar ds (tree_of (function_by ds) p) Logical
  suits (forms.Do x a b c) = are_numbers (tree_of (function_by ds) a) (tree_of (function_by ds) b) (step_tree90 (function_by ds) c)
  suits (forms.Read is) = suits_items Input (tree.items (item_trees90 (function_by ds) is))
  suits (forms.Print is) = suits_items Output (tree.items (item_trees90 (function_by ds) is))
  suits (forms.Allocate x es) =
      let as' = tree.expressions (trees_by (tree_of (function_by ds)) es) in
      both (some_and (declared ds x) (λ d. d.extent ≡ Later (number_of_arguments as')) (λ d. same_later d.extent (number_of_arguments as'))) (are_scalars ds as' Integer)
  suits (forms.Deallocate x) = some_and (declared ds x) (λ d. IsAllocatable d.extent) (λ d. allocatable d.extent)
  suits (forms.Program x) = inl tt
  suits forms.ImplicitNone = inl tt
  suits (forms.Declare k a es) = inl tt
  suits forms.Else = inl tt
  suits forms.EndIf = inl tt
  suits forms.EndDo = inl tt
  suits (forms.Continue digits) = inl tt
  suits (forms.Go digits) = inl tt
  suits forms.Stop = inl tt
  suits forms.ReadNothing = inl tt
  suits forms.PrintNothing = inl tt
  suits forms.End = inl tt
  suits (forms.EndProgram x) = inl tt

-- ---- depths

not_deep : (n : ℕ) → nat_lt deepest n ≡ false → n ≤ deepest
not_deep n h = by (leb_tells (deepest + 1) n)
  where
    by : ((nat_le (deepest + 1) n ≡ true) × (deepest + 1 ≤ n)) ⊎ ((nat_le (deepest + 1) n ≡ false) × (n < deepest + 1)) → n ≤ deepest
    by (inl t) = cc
    by (inr t) = let lt = t.1 in omega arith

pub each_shallow : (ps : List Phrase90) → list_any is_deep ps ≡ false → AllByRecursion (λ p. phrase_depth90 p ≤ deepest) ps
each_shallow [] h = tt
each_shallow (p ∷ ps) h = (not_deep (phrase_depth90 p) (left_false (is_deep p) (list_any is_deep ps) h), each_shallow ps (right_false (is_deep p) (list_any is_deep ps) h))

items_append : (is : List Item) (i : Item) → depth_of_items (tree.items (is ++ i ∷ [])) ≤ max (depth_of_items (tree.items is)) (depth_of_item i)
items_append [] i = omega arith
items_append (j ∷ is) i = omega (arith, items_append is i)

module _ (ds : List Declaration) where
  abbrev function : List ℕ → Option Intrinsic
  function = function_by ds

  abbrev Calls : List Phrase90 → Type 0
  Calls ps = AllByRecursion (SuitsCalls function) ps

  abbrev Variables : List Phrase90 → Type 0
  Variables ps = AllByRecursion (VariableSuitsCalls function) ps

  step_shallow : (c : Option Phrase90) → IsStep90 c → Calls (step_expressions c) → depth_of (step_tree90 function c) ≤ step_depth90 c
  step_shallow None h c = omega arith
  step_shallow (Some p) h c = shallow function p h c.0

  -- what is read into is no call
  input_called : (f : Option Intrinsic) (x : List ℕ) (ss : List Subscript) (n : ℕ) → depth_of_subscripts (tree.subscripts ss) ≤ n → SuitsList ds Input (called f x ss) → depth_of (called f x ss) ≤ n
  input_called None x ss n h s = h
  input_called (Some (Elemental g)) x ss n h s = absurd s
  input_called (Some (Reduction g)) x [] n h s = h
  input_called (Some (Reduction g)) x (a ∷ []) n h s = absurd s
  input_called (Some (Reduction g)) x (a ∷ b ∷ ss) n h s = h
  input_called (Some Spread) x [] n h s = h
  input_called (Some Spread) x (a ∷ []) n h s = h
  input_called (Some Spread) x (a ∷ b ∷ []) n h s = h
  input_called (Some Spread) x (a ∷ b ∷ c ∷ []) n h s = absurd s
  input_called (Some Spread) x (a ∷ b ∷ c ∷ d ∷ ss) n h s = h
  input_called (Some Transpose) x [] n h s = h
  input_called (Some Transpose) x (a ∷ []) n h s = absurd s
  input_called (Some Transpose) x (a ∷ b ∷ ss) n h s = h
  input_called (Some Reshape) x [] n h s = h
  input_called (Some Reshape) x (a ∷ []) n h s = h
  input_called (Some Reshape) x (a ∷ b ∷ []) n h s = absurd s
  input_called (Some Reshape) x (a ∷ b ∷ c ∷ ss) n h s = h

  input_shallow : (p : Phrase90) → IsVariable p → IsExpression90 p → VariableSuitsCalls function p → SuitsList ds Input (tree_of function p) → depth_of (tree_of function p) ≤ phrase_depth90 p
  input_shallow (Name x) v h c s = omega arith
  input_shallow (Listed x ps) v h c s = input_called (function x) x (trees_of_parts function ps) (depth_of_parts ps + 1) (parts_fit function ps h c) s
  input_shallow (Literal t) v h c s = absurd v
  input_shallow (Truth b) v h c s = absurd v
  input_shallow (Paren p) v h c s = absurd v
  input_shallow (Signed o p) v h c s = absurd v
  input_shallow (Joined o a b) v h c s = absurd v
  input_shallow (Values ps) v h c s = absurd v
  input_shallow (Looped t) v h c s = absurd v

  items_suit : (d : Direction) (is : List Item) (i : Item) → SuitsItems ds d (tree.items (is ++ i ∷ [])) → SuitsItems ds d (tree.items is) × SuitsItem ds d i
  items_suit d [] i h = (tt, h.0)
  items_suit d (j ∷ is) i h = let more = items_suit d is i h.1 in ((h.0, more.0), more.1)

  mutual
    output_shallow : (i : ItemPhrase90) → IsItem90 Output i → Calls (item_expressions Output i) → depth_of_item (item_tree90 function i) ≤ item_depth90 i
    output_shallow (Of p) h c = shallow function p h.0 c.0
    output_shallow (Text t) h c = omega arith
    output_shallow (Loop is x a b s) h c =
        let behind = all_right (SuitsCalls function) (items_expressions Output is) (a ∷ (b ∷ step_expressions s)) c in
        omega (
          arith,
          outputs_shallow is h.0 (all_left (SuitsCalls function) (items_expressions Output is) (a ∷ (b ∷ step_expressions s)) c),
          shallow function a h.1 behind.0,
          shallow function b h.2 behind.1.0,
          step_shallow s h.3 behind.1.1,
        )

    outputs_shallow : (is : ItemPhrases90) → AreItems90 Output is → Calls (items_expressions Output is) → depth_of_items (tree.items (item_trees90 function is)) ≤ items_depth90 is
    outputs_shallow (Sole i) h c = omega (arith, output_shallow i h c)
    outputs_shallow (More is i) h c =
        omega (
          arith,
          items_append (item_trees90 function is) (item_tree90 function i),
          outputs_shallow is h.0 (all_left (SuitsCalls function) (items_expressions Output is) (item_expressions Output i) c),
          output_shallow i h.1 (all_right (SuitsCalls function) (items_expressions Output is) (item_expressions Output i) c),
        )

  mutual
    input_item_shallow : (i : ItemPhrase90) → IsItem90 Input i → Calls (item_expressions Input i) → Variables (item_variables i) → SuitsItem ds Input (item_tree90 function i) → depth_of_item (item_tree90 function i) ≤ item_depth90 i
    input_item_shallow (Of p) h c v s = input_shallow p h.1 h.0 v.0 s
    input_item_shallow (Text t) h c v s = absurd h
    input_item_shallow (Loop is x a b t) h c v s =
        let behind = all_right (SuitsCalls function) (items_expressions Input is) (a ∷ (b ∷ step_expressions t)) c in
        omega (
          arith,
          inputs_shallow is h.0 (all_left (SuitsCalls function) (items_expressions Input is) (a ∷ (b ∷ step_expressions t)) c) v s.0,
          shallow function a h.1 behind.0,
          shallow function b h.2 behind.1.0,
          step_shallow t h.3 behind.1.1,
        )

    inputs_shallow : (is : ItemPhrases90) → AreItems90 Input is → Calls (items_expressions Input is) → Variables (items_variables is) → SuitsItems ds Input (tree.items (item_trees90 function is))
        → depth_of_items (tree.items (item_trees90 function is)) ≤ items_depth90 is
    inputs_shallow (Sole i) h c v s = omega (arith, input_item_shallow i h c v s.0)
    inputs_shallow (More is i) h c v s =
        let parts = items_suit Input (item_trees90 function is) (item_tree90 function i) s in
        omega (
          arith,
          items_append (item_trees90 function is) (item_tree90 function i),
          inputs_shallow is h.0 (all_left (SuitsCalls function) (items_expressions Input is) (item_expressions Input i) c) (all_left (VariableSuitsCalls function) (items_variables is) (item_variables i) v) parts.0,
          input_item_shallow i h.1 (all_right (SuitsCalls function) (items_expressions Input is) (item_expressions Input i) c) (all_right (VariableSuitsCalls function) (items_variables is) (item_variables i) v) parts.1,
        )

  -- ---- texts

  filled_append : (is : List Item) (i : Item) → AreFilled (tree.items is) → IsFilled i → AreFilled (tree.items (is ++ i ∷ []))
  filled_append [] i h g = (g, tt)
  filled_append (j ∷ is) i h g = (h.0, filled_append is i h.1 g)

  wordless_append : (is : List Item) (i : Item) → AreWordless (tree.items is) → IsWordless i → AreWordless (tree.items (is ++ i ∷ []))
  wordless_append [] i h g = (g, tt)
  wordless_append (j ∷ is) i h g = (h.0, wordless_append is i h.1 g)

  some_item : (is : ItemPhrases90) → IsTrue (has_item (tree.items (item_trees90 function is)))
  some_item (Sole i) = refl
  some_item (More is i) = appended (item_trees90 function is)
    where
      appended : (js : List Item) → IsTrue (has_item (tree.items (js ++ item_tree90 function i ∷ [])))
      appended [] = refl
      appended (j ∷ js) = refl

  mutual
    item_filled : (i : ItemPhrase90) → HasTexts i → IsFilled (item_tree90 function i)
    item_filled (Of p) h = tt
    item_filled (Text t) h = h
    item_filled (Loop is x a b c) h = (some_item is, items_filled is h)

    items_filled : (is : ItemPhrases90) → HaveTexts is → AreFilled (tree.items (item_trees90 function is))
    items_filled (Sole i) h = (item_filled i h, tt)
    items_filled (More is i) h = filled_append (item_trees90 function is) (item_tree90 function i) (items_filled is h.0) (item_filled i h.1)

  mutual
    item_textless : (i : ItemPhrase90) → IsItem90 Input i → IsFilled (item_tree90 function i) × IsWordless (item_tree90 function i)
    item_textless (Of p) h = (tt, tt)
    item_textless (Text t) h = absurd h
    item_textless (Loop is x a b c) h = let more = items_textless is h.0 in ((some_item is, more.0), more.1)

    items_textless : (is : ItemPhrases90) → AreItems90 Input is → AreFilled (tree.items (item_trees90 function is)) × AreWordless (tree.items (item_trees90 function is))
    items_textless (Sole i) h = let one = item_textless i h in ((one.0, tt), (one.1, tt))
    items_textless (More is i) h =
        let front = items_textless is h.0 in let one = item_textless i h.1 in
        (filled_append (item_trees90 function is) (item_tree90 function i) front.0 one.0, wordless_append (item_trees90 function is) (item_tree90 function i) front.1 one.1)

  -- ---- lists of expressions

  each_depth : (es : List Phrase90) → AllByRecursion IsExpression90 es → Calls es → AllByRecursion (λ p. phrase_depth90 p ≤ deepest) es → depth_of_each (tree.expressions (trees_by (tree_of function) es)) ≤ deepest
  each_depth [] h c d = omega arith
  each_depth (e ∷ es) h c d = let l : phrase_depth90 e ≤ deepest = d.0 in omega (arith, shallow function e h.0 c.0, each_depth es h.1 c.1 d.1)

  listed_expressions : (es : List Phrase90) → IsList IsExpression90 es → AllByRecursion IsExpression90 es
  listed_expressions [] h = tt
  listed_expressions (e ∷ es) h = h

  -- ---- by a table `qs` that declares each name alike

  module _ (qs : List Declaration) (alike : (x : List ℕ) → declared ds x ≡ declared qs x) (is_target : ℕ → Bool) where
    assignment_too : (left : Reference) (right : Expression) → SuitsAssignment ds left right → SuitsAssignment qs left right
    assignment_too left right h =
        (kinds (declared ds left.name) (some ds qs alike (λ d. HasKind ds (named left) d.kind × HasKind ds right d.kind) left.name h.0), ranks h.1)
      where
        kinds : (o : Option Declaration) → IsSomeAnd (declared qs left.name) (λ d. HasKind ds (named left) d.kind × HasKind ds right d.kind) → IsSomeAnd (declared qs left.name) (λ d. HasKind qs (named left) d.kind × HasKind qs right d.kind)
        kinds o k = weaker (declared qs left.name) k
          where
            weaker : (o : Option Declaration) → IsSomeAnd o (λ d. HasKind ds (named left) d.kind × HasKind ds right d.kind) → IsSomeAnd o (λ d. HasKind qs (named left) d.kind × HasKind qs right d.kind)
            weaker None k = k
            weaker (Some d) k = (kind_too ds qs alike (named left) d.kind k.0, kind_too ds qs alike right d.kind k.1)

        ranks : (rank_of ds right ≡ 0) ⊎ (rank_of ds right ≡ rank_of ds (named left)) → (rank_of qs right ≡ 0) ⊎ (rank_of qs right ≡ rank_of qs (named left))
        ranks (inl e) = inl (sym (rank_same ds qs alike right) ∙ e)
        ranks (inr e) = inr (sym (rank_same ds qs alike right) ∙ (e ∙ rank_same ds qs alike (named left)))

    mask_too : (m : Expression) (left : Reference) → SuitsMask ds m left → SuitsMask qs m left
    mask_too m left h =
        (kind_too ds qs alike m Logical h.0, subst (λ n. 1 ≤ n) (rank_same ds qs alike (named left)) h.1, sym (rank_same ds qs alike m) ∙ (h.2 ∙ rank_same ds qs alike (named left)))

    numbers_too : (a b c : Expression) → AreNumbers ds a b c → AreNumbers qs a b c
    numbers_too a b c h = (scalar_too ds qs alike a Integer h.0, scalar_too ds qs alike b Integer h.1, scalar_too ds qs alike c Integer h.2)

    list_too : (d : Direction) (e : Expression) → SuitsList ds d e → SuitsList qs d e
    list_too Output e h = some_kind_too ds qs alike e h
    list_too Input (tree.Named x ps) h = (some_kind_too ds qs alike (tree.Named x ps) h.0, sym (rank_subscripts_same ds qs alike ps) ∙ h.1)
    list_too Input (tree.Number n) h = h
    list_too Input (tree.Logic b) h = h
    list_too Input (tree.Unary o a) h = h
    list_too Input (tree.Binary o a b) h = h
    list_too Input (tree.Apply f es) h = h
    list_too Input (tree.Constructor es ls) h = h
    list_too Input (tree.Spread a d n) h = h
    list_too Input (tree.Transpose a) h = h
    list_too Input (tree.Reshape a es) h = h
    list_too Input (tree.Reduce r a) h = h

    mutual
      item_too : (d : Direction) (i : Item) → SuitsItem ds d i → SuitsItem qs d i
      item_too d (tree.Single e) h = list_too d e h
      item_too d (tree.Constant t) h = tt
      item_too d (tree.ImpliedDo is x a b c) h = (items_too d is h.0, numbers_too a b c h.1)

      items_too : (d : Direction) (is : Items) → SuitsItems ds d is → SuitsItems qs d is
      items_too d tree.no_items h = tt
      items_too d (tree.item i is) h = (item_too d i h.0, items_too d is h.1)

    pub record IsFit (f : Form90) : Type 0 where
      pub calls : SuitsCallsIn function f
      pub kinds : Suits ds f
      pub lists : has_deep_list f ≡ false
      pub expressions : AllByRecursion (λ p. phrase_depth90 p ≤ deepest) (expressions_of f)
      pub variables : AllByRecursion (λ p. phrase_depth90 p ≤ deepest) (stored_variables_of f)
      pub well : IsWell f

    le : (m n : ℕ) → m ≤ n → n ≤ deepest → m ≤ deepest
    le m n h g = omega arith

    sound_assignment : (l r : Phrase90) → IsReference90 l → IsExpression90 l → IsExpression90 r → VariableSuitsCalls function l → SuitsCalls function r → phrase_depth90 l ≤ deepest → phrase_depth90 r ≤ deepest
        → SuitsAssignment ds (reference_in (tree_of function l)) (tree_of function r) → IsSoundAssignment qs (reference_in (tree_of function l)) (tree_of function r)
    sound_assignment l r f a b v c d e s =
        record {
          suits = assignment_too (reference_in (tree_of function l)) (tree_of function r) s;
          left_depth = le _ _ (shallow_variable function l f a v) d;
          right_depth = le _ _ (shallow function r b c) e;
        }

    -- but for labels, whose values have no part in this
    pub good_form : (f : Form90) (ws : List words.Word90) → IsWritten90 f ws → IsFit f → ((n : ℕ) → is_target n ≡ true → 0 < n) → IsGoodForm function is_target qs f
    good_form (forms.Assign l r) ws w h z = sound_assignment l r w.1 w.2 w.3 h.calls.1.0 h.calls.0.0 h.variables.0 h.expressions.0 h.kinds
    good_form (forms.Where m l r) ws w h z = (
      record { suits = mask_too (tree_of function m) (reference_in (tree_of function l)) h.kinds.0; depth = le _ _ (shallow function m w.1 h.calls.0.0) h.expressions.0 },
      sound_assignment l r w.2 w.3 w.4 h.calls.1.0 h.calls.0.1.0 h.variables.0 h.expressions.1.0 h.kinds.1,
    )
    good_form (forms.Test p f) ws w h z = (
      record { suits = scalar_too ds qs alike (tree_of function p) Logical h.kinds.0; depth = le _ _ (shallow function p w.2 h.calls.0.0) h.expressions.0 },
      good_form f w.0 w.3 (record { calls = (h.calls.0.1, h.calls.1); kinds = h.kinds.1; lists = h.lists; expressions = h.expressions.1; variables = h.variables; well = h.well }) z,
    )
    good_form (forms.If p) ws w h z = record { suits = scalar_too ds qs alike (tree_of function p) Logical h.kinds; depth = le _ _ (shallow function p w.1 h.calls.0.0) h.expressions.0 }
    good_form (forms.ElseIf p) ws w h z = record { suits = scalar_too ds qs alike (tree_of function p) Logical h.kinds; depth = le _ _ (shallow function p w.1 h.calls.0.0) h.expressions.0 }
    good_form (forms.Do x a b c) ws w h z =
        record {
          suits = numbers_too (tree_of function a) (tree_of function b) (step_tree90 function c) h.kinds;
          first = le _ _ (shallow function a w.1 h.calls.0.0) h.expressions.0;
          second = le _ _ (shallow function b w.2 h.calls.0.1.0) h.expressions.1.0;
          third = step_within c w.3 h.calls.0.1.1 h.expressions.1.1;
        }
      where
        step_within : (c : Option Phrase90) → IsStep90 c → Calls (step_expressions c) → AllByRecursion (λ p. phrase_depth90 p ≤ deepest) (step_expressions c) → depth_of (step_tree90 function c) ≤ deepest
        step_within None s c d = omega arith
        step_within (Some p) s c d = let l : phrase_depth90 p ≤ deepest = d.0 in omega (arith, shallow function p s c.0)
    good_form (forms.Read is) ws w h z =
        let t = items_textless is w.1 in (
          t.1,
          record {
            suits = items_too Input (tree.items (item_trees90 function is)) h.kinds;
            filled = t.0;
            depth = le _ _ (inputs_shallow is w.1 h.calls.0 h.calls.1 h.kinds) (not_deep (items_depth90 is) h.lists);
          },
        )
    good_form (forms.Print is) ws w h z =
        record {
          suits = items_too Output (tree.items (item_trees90 function is)) h.kinds;
          filled = items_filled is h.well;
          depth = le _ _ (outputs_shallow is w.1 h.calls.0) (not_deep (items_depth90 is) h.lists);
        }
    good_form (forms.Allocate x es) ws w h z =
        let as' = tree.expressions (trees_by (tree_of function) es) in
        record {
          suits = (some ds qs alike (λ d. d.extent ≡ Later (number_of_arguments as')) x h.kinds.0, scalars_too ds qs alike as' Integer h.kinds.1);
          depth = each_depth es (listed_expressions es w.1) h.calls.0 h.expressions;
        }
    good_form (forms.Deallocate x) ws w h z = some ds qs alike (λ d. IsAllocatable d.extent) x h.kinds
    good_form (forms.Continue []) ws w h z = λ t. let l : 0 < 0 = z 0 t in absurd (omega arith)
    good_form (forms.Continue (d ∷ digits)) ws w h z = λ t. (z (value_of_digits (d ∷ digits)) t, h.well)
    good_form (forms.Program x) ws w h z = tt
    good_form forms.ImplicitNone ws w h z = tt
    good_form (forms.Declare k a es) ws w h z = tt
    good_form forms.Else ws w h z = tt
    good_form forms.EndIf ws w h z = tt
    good_form forms.EndDo ws w h z = tt
    good_form (forms.Go digits) ws w h z = tt
    good_form forms.Stop ws w h z = tt
    good_form forms.ReadNothing ws w h z = tt
    good_form forms.PrintNothing ws w h z = tt
    good_form forms.End ws w h z = tt
    good_form (forms.EndProgram x) ws w h z = tt
