-- Where its kinds and ranks suit, or those of what is held of it, a statement is held as it is.
use Rattle.std.proofs.Common.{◌≡◌, ◌⊎◌, inl, inr, ◌↔◌, arith, refl, sym, ap, subst, ℕ, pos, Bool, true, false, ◌||◌}
use Rattle.std.proofs.Common.{List, [], ◌∷◌, ◌++◌, Option, None, Some}
use mathlib.Core.Path.{ap₂}
use Rattle.std.specs.Prelude.{min}
use Rattle.std.specs.Option.{IsSomeAnd}
use Rattle.std.specs.List.{AllByRecursion, list_any}
use Rattle.tree.specs.Limits.{greatest_literal}
use Rattle.tree.specs.Plain as tree
use Rattle.tree.specs.Plain.{Expression, Expressions, Reference, Item, Items, Statement, Declaration}
use Rattle.tree.specs.declared.ops.Kind.{Kind}
use Rattle.tree.specs.declared.ops.Kind.TheVariants.{Integer, Logical}
use Rattle.tree.specs.declared.functions.Intrinsic.{Intrinsic}
use Rattle.meaning.specs.Value.{named}
use Rattle.meaning.specs.Typed.{declared}
use Rattle.meaning.specs.Typed90.{HasKind, IsScalar, AreScalars, HasSomeKind}
use Rattle.meaning.proofs.CellFrame.{first_part, second_part}
use Rattle.meaning.proofs.Columns.{join}
use Rattle.f90_grammar.specs.Blocks.{Placed, IsSimple, trees_by}
use Rattle.reading.specs.Signs.{reference_in}
use Rattle.f90_grammar.specs.Blocks.IsSimple.{assigns, masks, goes, stops, reads, reads_nothing, prints}
use Rattle.f90_grammar.specs.Blocks.IsSimple.{prints_nothing, allocates, deallocates}
use Rattle.f90_grammar.specs.Contents.{expressions_of, stored_variables_of, step_expressions, item_expressions}
use Rattle.f90_grammar.specs.Contents.{items_expressions, item_variables, items_variables, has_wide_literal90}
use Rattle.f90_grammar.specs.Contents.{has_wide_literal_in}
use Rattle.f90_grammar.specs.Contents.{is_declared_wide}
use Rattle.f90_grammar.specs.Forms as forms
use Rattle.f90_grammar.specs.Forms.{Form90}
use Rattle.f90_grammar.specs.Items as itemised
use Rattle.f90_grammar.specs.Items.{Direction, Input, Output, ItemPhrase90, ItemPhrases90, item_tree90, item_trees90}
use Rattle.f90_grammar.specs.Items.{step_tree90}
use Rattle.f90_grammar.specs.Phrases.{Phrase90, tree_of}
use Rattle.f90_grammar.specs.Reading.{function_by}
use Rattle.f90_grammar.specs.Suited.{SuitsAssignment, SuitsMask, AreNumbers, SuitsList, SuitsItem, SuitsItems, Suits}
use Rattle.f90_trees.specs.Building.{held, held_all}
use Rattle.f90_blocks.specs.statement_trees.Held.{held_reference, held_item, held_items, held_statement, IsHeldForm}
use Rattle.f90_blocks.specs.statement_trees.Uncut.{IsNarrow, AreNarrow}
use Rattle.f90_blocks.proofs.StatementTrees.NarrowLaws.{literals_stay}
use Rattle.f90_blocks.proofs.StatementTrees.FitLaws.{kinds_stay}
use Rattle.f90_read.specs.f90_suits.Suited.{SuitsStatement}

-- ---- no literal is too great

one_small : min 1 greatest_literal ≡ 1
one_small = first_of (omega arith, cc)

left : (a b : Bool) → (a || b) ≡ false → a ≡ false
left true b h = h
left false b h = refl

right : (a b : Bool) → (a || b) ≡ false → b ≡ false
right false b h = h
right true b h = absurd cc

abbrev mutual
  pub IsNarrowItem : Item → Type 0
  IsNarrowItem (tree.Single e) = IsNarrow e
  IsNarrowItem (tree.Constant t) = Unit {0}
  IsNarrowItem (tree.ImpliedDo is x a b c) = AreNarrowItems is × IsNarrow a × IsNarrow b × IsNarrow c

  pub AreNarrowItems : Items → Type 0
  AreNarrowItems tree.no_items = Unit {0}
  AreNarrowItems (tree.item i is) = IsNarrowItem i × AreNarrowItems is

-- a statement without others in it
abbrev pub IsNarrowStatement : Statement → Type 0
IsNarrowStatement (tree.Assignment line m r e) = IsNarrow (named r) × IsNarrow e
IsNarrowStatement (tree.Where line m p r e) = IsNarrow p × IsNarrow (named r) × IsNarrow e
IsNarrowStatement (tree.Read line is) = AreNarrowItems is
IsNarrowStatement (tree.Print line is) = AreNarrowItems is
IsNarrowStatement (tree.Allocate line x es) = AreNarrow es
IsNarrowStatement s = Unit {0}

module _ (function : List ℕ → Option Intrinsic) where
  abbrev AreNarrowTrees : List Phrase90 → Type 0
  AreNarrowTrees ps = AllByRecursion (λ (p : Phrase90). IsNarrow (tree_of function p)) ps

  -- the trees of its expressions have no literal that is too great
  pub record IsNarrowForm (f : Form90) : Type 0 where
    pub expressions : AreNarrowTrees (expressions_of f)
    pub variables : AreNarrowTrees (stored_variables_of f)

  none_wide : (ps : List Phrase90) → list_any has_wide_literal90 ps ≡ false → AreNarrowTrees ps
  none_wide [] h = tt
  none_wide (p ∷ ps) h = (literals_stay function p (left _ _ h), none_wide ps (right _ _ h))

  pub narrow_form : (f : Form90) → has_wide_literal_in f ≡ false → IsNarrowForm f
  narrow_form f h =
      let n = none_wide (expressions_of f ++ stored_variables_of f) (right (is_declared_wide f) _ h) in
      record {
        expressions = first_part (λ (p : Phrase90). IsNarrow (tree_of function p)) (expressions_of f)
            (stored_variables_of f) n;
        variables = second_part (λ (p : Phrase90). IsNarrow (tree_of function p)) (expressions_of f) (stored_variables_of f) n;
      }

  narrow_reference : (e : Expression) → IsNarrow e → IsNarrow (named (reference_in e))
  narrow_reference (tree.Named x ss) h = h
  narrow_reference e h = tt

  narrow_list : (ps : List Phrase90) → AreNarrowTrees ps → AreNarrow (tree.expressions (trees_by (tree_of function) ps))
  narrow_list [] h = tt
  narrow_list (p ∷ ps) h = (h.0, narrow_list ps h.1)

  narrow_items_of : (is : List Item) → AllByRecursion IsNarrowItem is → AreNarrowItems (tree.items is)
  narrow_items_of [] h = tt
  narrow_items_of (i ∷ is) h = (h.0, narrow_items_of is h.1)

  abbrev NarrowVariables : Direction → List Phrase90 → Type 0
  NarrowVariables Output ps = Unit {0}
  NarrowVariables Input ps = AreNarrowTrees ps

  narrow_single : (d : Direction) (p : Phrase90) → AreNarrowTrees (item_expressions d (itemised.Of p))
      → NarrowVariables d (p ∷ []) → IsNarrow (tree_of function p)
  narrow_single Output p h v = h.0
  narrow_single Input p h v = v.0

  front_variables : (d : Direction) (ps qs : List Phrase90) → NarrowVariables d (ps ++ qs) → NarrowVariables d ps
  front_variables Output ps qs h = tt
  front_variables Input ps qs h = first_part (λ (p : Phrase90). IsNarrow (tree_of function p)) ps qs h

  last_variables : (d : Direction) (ps qs : List Phrase90) → NarrowVariables d (ps ++ qs) → NarrowVariables d qs
  last_variables Output ps qs h = tt
  last_variables Input ps qs h = second_part (λ (p : Phrase90). IsNarrow (tree_of function p)) ps qs h

  pub narrow_step : (s : Option Phrase90) → AreNarrowTrees (step_expressions s) → IsNarrow (step_tree90 function s)
  narrow_step None h = ap pos one_small
  narrow_step (Some p) h = h.0

  mutual
    narrow_item : (d : Direction) (i : ItemPhrase90) → AreNarrowTrees (item_expressions d i) → NarrowVariables d
        (item_variables i) → IsNarrowItem (item_tree90 function i)
    narrow_item d (itemised.Of p) h v = narrow_single d p h v
    narrow_item d (itemised.Text t) h v = tt
    narrow_item d (itemised.Loop is x a b c) h v =
        let k = second_part (λ (p : Phrase90). IsNarrow (tree_of function p)) (items_expressions d is)
        (a ∷ (b ∷ step_expressions c)) h in (
          narrow_items_of (item_trees90 function is)
              (narrow_items d is (first_part (λ (p : Phrase90). IsNarrow (tree_of function p)) (items_expressions d is)
              (a ∷ (b ∷ step_expressions c)) h) v),
          k.0,
          k.1.0,
          narrow_step c k.1.1,
        )

    narrow_items : (d : Direction) (is : ItemPhrases90) → AreNarrowTrees (items_expressions d is) → NarrowVariables d
        (items_variables is)
        → AllByRecursion IsNarrowItem (item_trees90 function is)
    narrow_items d (itemised.Sole i) h v = (narrow_item d i h v, tt)
    narrow_items d (itemised.More is i) h v =
        join IsNarrowItem (item_trees90 function is) (item_tree90 function i ∷ [])
        (narrow_items d is (first_part (λ (p : Phrase90). IsNarrow (tree_of function p)) (items_expressions d is)
        (item_expressions d i) h)
        (front_variables d (items_variables is) (item_variables i) v)) (
          narrow_item d i (second_part (λ (p : Phrase90). IsNarrow (tree_of function p)) (items_expressions d is)
              (item_expressions d i) h)
              (last_variables d (items_variables is) (item_variables i) v),
          tt,
        )

  pub narrow_simple : (p : Placed) (s : Statement) → IsSimple function (λ n. false) p s → IsNarrowForm p.form
      → IsNarrowStatement s
  narrow_simple _ _ (assigns line m l r) n = (narrow_reference (tree_of function l) n.variables.0, n.expressions.0)
  narrow_simple _ _ (masks line m p l r) n =
      (n.expressions.0, narrow_reference (tree_of function l) n.variables.0, n.expressions.1.0)
  narrow_simple _ _ (goes line label) n = tt
  narrow_simple _ _ (stops line) n = tt
  narrow_simple _ _ (reads line is) n = narrow_items_of (item_trees90 function is)
      (narrow_items Input is n.expressions n.variables)
  narrow_simple _ _ (reads_nothing line) n = tt
  narrow_simple _ _ (prints line is) n = narrow_items_of (item_trees90 function is)
      (narrow_items Output is n.expressions tt)
  narrow_simple _ _ (prints_nothing line) n = tt
  narrow_simple _ _ (allocates line x es) n = narrow_list es n.expressions
  narrow_simple _ _ (deallocates line x) n = tt

-- ---- what suits stays

both : {A B C D : Type 0} → (A × B) ⊎ (C × D) → (A ⊎ C) × (B ⊎ D)
both (inl h) = (inl h.0, inl h.1)
both (inr h) = (inr h.0, inr h.1)

three : {A B C D E F : Type 0} → (A × B × C) ⊎ (D × E × F) → (A ⊎ D) × (B ⊎ E) × (C ⊎ F)
three (inl h) = (inl h.0, inl h.1, inl h.2)
three (inr h) = (inr h.0, inr h.1, inr h.2)

neither : {A : Type 0} → ⊥ ⊎ ⊥ → A
neither (inl h) = absurd h
neither (inr h) = absurd h

module _ (ds : List Declaration) where
  kind_of_sides : (o : Option Declaration) (a b c d : Kind → Type 0) → IsSomeAnd o
      (λ (x : Declaration). a x.kind × b x.kind) ⊎ IsSomeAnd o (λ (x : Declaration). c x.kind × d x.kind)
      → (k : Kind) × (a k ⊎ c k) × (b k ⊎ d k)
  kind_of_sides None a b c d h = neither h
  kind_of_sides (Some x) a b c d h = let k = both h in (x.kind, k.0, k.1)

  pub assignment_stays : (r : Reference) (e : Expression) → IsNarrow (named r) → IsNarrow e
      → SuitsAssignment ds r e ⊎ SuitsAssignment ds (held_reference r) (held e)
      → (held_reference r ≡ r) × (held e ≡ e)
  assignment_stays r e n m h =
      let k =
      kind_of_sides (declared ds r.name) (λ j. HasKind ds (named r) j) (λ j. HasKind ds e j)
      (λ j. HasKind ds (held (named r)) j) (λ j. HasKind ds (held e) j)
      (both h).0 in
      (ap reference_in (kinds_stay ds (named r) k.0 n k.1), kinds_stay ds e k.0 m k.2)

  pub scalar_stays : (e : Expression) (k : Kind) → IsNarrow e → IsScalar ds e k ⊎ IsScalar ds (held e) k → held e ≡ e
  scalar_stays e k n h = kinds_stay ds e k n (both h).0

  pub mask_stays : (e : Expression) (r s : Reference) → IsNarrow e → SuitsMask ds e r ⊎ SuitsMask ds (held e) s
      → held e ≡ e
  mask_stays e r s n h = kinds_stay ds e Logical n (three h).0

  scalars_stay : (es : Expressions) (k : Kind) → AreNarrow es → AreScalars ds es k ⊎ AreScalars ds (held_all es) k
      → held_all es ≡ es
  scalars_stay tree.no_expressions k n h = refl
  scalars_stay (tree.expression e es) k n h =
      let j = both h in ap₂ tree.expression (scalar_stays e k n.0 j.0) (scalars_stay es k n.1 j.1)

  some_stays : (e : Expression) → IsNarrow e → HasSomeKind ds e ⊎ HasSomeKind ds (held e) → held e ≡ e
  some_stays e n (inl (inl h)) = kinds_stay ds e Integer n (inl h)
  some_stays e n (inl (inr h)) = kinds_stay ds e Logical n (inl h)
  some_stays e n (inr (inl h)) = kinds_stay ds e Integer n (inr h)
  some_stays e n (inr (inr h)) = kinds_stay ds e Logical n (inr h)

  input_stays : (e : Expression) → IsNarrow e → SuitsList ds Input e ⊎ SuitsList ds Input (held e) → held e ≡ e
  input_stays (tree.Named x ss) n h = some_stays (tree.Named x ss) n (both h).0
  input_stays e n h = neither h

  single_stays : (d : Direction) (e : Expression) → IsNarrow e → SuitsList ds d e ⊎ SuitsList ds d (held e)
      → held e ≡ e
  single_stays Output e n h = some_stays e n h
  single_stays Input e n h = input_stays e n h

  pub numbers_stay : (a b c : Expression) → IsNarrow a → IsNarrow b → IsNarrow c → AreNumbers ds a b c ⊎ AreNumbers ds
      (held a) (held b) (held c)
      → (held a ≡ a) × (held b ≡ b) × (held c ≡ c)
  numbers_stay a b c l m n h =
      let k = three h in (scalar_stays a Integer l k.0, scalar_stays b Integer m k.1, scalar_stays c Integer n k.2)

  loop_stays : (is js : Items) (x : List ℕ) (a b c u v w : Expression) → is ≡ js → a ≡ u → b ≡ v → c ≡ w
      → tree.ImpliedDo is x a b c ≡ tree.ImpliedDo js x u v w
  loop_stays is js x a b c u v w e f g h = cc

  mutual
    item_stays : (d : Direction) (i : Item) → IsNarrowItem i → SuitsItem ds d i ⊎ SuitsItem ds d (held_item i)
        → held_item i ≡ i
    item_stays d (tree.Single e) n h = ap tree.Single (single_stays d e n h)
    item_stays d (tree.Constant t) n h = refl
    item_stays d (tree.ImpliedDo is x a b c) n h =
        let k = both h in
        let j = numbers_stay a b c n.1 n.2 n.3 k.1 in
        loop_stays _ _ x _ _ _ _ _ _ (items_stay d is n.0 k.0) j.0 j.1 j.2

    pub items_stay : (d : Direction) (is : Items) → AreNarrowItems is → SuitsItems ds d is ⊎ SuitsItems ds d
        (held_items is) → held_items is ≡ is
    items_stay d tree.no_items n h = refl
    items_stay d (tree.item i is) n h = let k = both h in ap₂ tree.item (item_stays d i n.0 k.0)
        (items_stay d is n.1 k.1)

  where_stays : (line : ℕ) (m : _) (p q : Expression) (l k : Reference) (r s : Expression) → p ≡ q → l ≡ k → r ≡ s
      → tree.Where line m p l r ≡ tree.Where line m q k s
  where_stays line m p q l k r s e f g = cc

  pub statement_stays : (s : Statement) → IsNarrowStatement s → SuitsStatement ds s ⊎ SuitsStatement ds
      (held_statement s) → held_statement s ≡ s
  statement_stays (tree.Assignment line m r e) n h =
      let k = assignment_stays r e n.0 n.1 h in ap₂ (tree.Assignment line m) k.0 k.1
  statement_stays (tree.Where line m p r e) n h =
      let j = both h in
      let k = assignment_stays r e n.1 n.2 j.1 in
      where_stays line m _ _ _ _ _ _ (mask_stays p r (held_reference r) n.0 j.0) k.0 k.1
  statement_stays (tree.Read line is) n h = ap (tree.Read line) (items_stay Input is n h)
  statement_stays (tree.Print line is) n h = ap (tree.Print line) (items_stay Output is n h)
  statement_stays (tree.Allocate line x es) n h = ap (tree.Allocate line x) (scalars_stay es Integer n (both h).1)
  statement_stays s n h = refl

  -- ---- what suits is held as it is

  pub held_form : (f : Form90) → IsNarrowForm (function_by ds) f → Suits ds f → IsHeldForm (function_by ds) f
  held_form (forms.Assign l r) n h =
      assignment_stays (reference_in (tree_of (function_by ds) l)) (tree_of (function_by ds) r)
      (narrow_reference (function_by ds) (tree_of (function_by ds) l) n.variables.0)
      n.expressions.0 (inl h)
  held_form (forms.Where m l r) n h =
      let k =
      assignment_stays (reference_in (tree_of (function_by ds) l)) (tree_of (function_by ds) r)
      (narrow_reference (function_by ds) (tree_of (function_by ds) l) n.variables.0)
      n.expressions.1.0 (inl h.1) in
      let r = reference_in (tree_of (function_by ds) l) in
      (mask_stays (tree_of (function_by ds) m) r r n.expressions.0 (inl h.0), k.0, k.1)
  held_form (forms.Test p f) n h =
      let k : IsNarrowForm (function_by ds) f = record { expressions = n.expressions.1; variables = n.variables } in
      (scalar_stays (tree_of (function_by ds) p) Logical n.expressions.0 (inl h.0), held_form f k h.1)
  held_form (forms.If p) n h = scalar_stays (tree_of (function_by ds) p) Logical n.expressions.0 (inl h)
  held_form (forms.ElseIf p) n h = scalar_stays (tree_of (function_by ds) p) Logical n.expressions.0 (inl h)
  held_form (forms.Do x a b c) n h =
      numbers_stay (tree_of (function_by ds) a) (tree_of (function_by ds) b)
      (step_tree90 (function_by ds) c) n.expressions.0 n.expressions.1.0
      (narrow_step (function_by ds) c n.expressions.1.1) (inl h)
  held_form (forms.Read is) n h =
      items_stay Input (tree.items (item_trees90 (function_by ds) is))
      (narrow_items_of (function_by ds) (item_trees90 (function_by ds) is)
      (narrow_items (function_by ds) Input is n.expressions n.variables)) (inl h)
  held_form (forms.Print is) n h =
      items_stay Output (tree.items (item_trees90 (function_by ds) is))
      (narrow_items_of (function_by ds) (item_trees90 (function_by ds) is)
      (narrow_items (function_by ds) Output is n.expressions tt)) (inl h)
  held_form (forms.Allocate x es) n h =
      scalars_stay (tree.expressions (trees_by (tree_of (function_by ds)) es)) Integer
      (narrow_list (function_by ds) es n.expressions) (inl h.1)
  held_form f n h = tt
