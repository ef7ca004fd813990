-- No expression of a printed program is too deep.
use Rattle.std.specs.Prelude.{nat_lt}
use Rattle.std.proofs.Common.{◌≡◌, refl, ℕ, ◌≤◌, arith, false, Option, None, Some, IsSomeAnd, List, [], ◌∷◌, ◌++◌}
use Rattle.std.specs.List.{AllByRecursion, list_any}
use Rattle.std.proofs.lemmas.Bool.{le-ltb}
use Rattle.tree.specs.declared.ops.Kind.{Kind}
use Rattle.tree.specs.declared.ops.Kind.TheVariants.{Integer, Logical}
use Rattle.tree.specs.Limits.{expression_depth90}
use Rattle.tree.specs.Plain as tree
use Rattle.tree.specs.Plain.{Expression, Expressions, Item, Items, Reference, Declaration}
use Rattle.meaning.specs.Depths.{depth_of, depth_of_each}
use Rattle.meaning.specs.Value.{named}
use Rattle.meaning.specs.Typed90.{HasKind, AreScalars}
use Rattle.meaning.specs.Profile90.{IsWhole}
use Rattle.f90_grammar.specs.Phrases.{Phrase90, phrase_depth90}
use Rattle.f90_grammar.specs.Items as items
use Rattle.f90_grammar.specs.Items.{ItemPhrase90, Of, Text, Loop, ItemPhrases90, Direction, Input, Output, item_depth90, items_depth90, step_depth90}
use Rattle.f90_grammar.specs.Printing.{phrase_of}
use Rattle.f90_grammar.specs.PrintedForms.{reference_phrase, phrases_of, step_phrase, item_phrases}
use Rattle.f90_grammar.specs.Forms.{Form90}
use Rattle.f90_grammar.specs.Contents.{is_deep, has_deep_expression, step_expressions, item_expressions, items_expressions, item_variables, items_variables}
use Rattle.f90_laws.proofs.printed.ItemTrees.{typed_depth, typed_step_depth, printed_outputs_depth, printed_inputs_depth}
use Rattle.f90_laws.proofs.readings.Lists.{both_false, all_both}
use Rattle.f90_laws.proofs.unrefused.PrintedForms.{EachForm}

abbrev IsWithin : ℕ → Phrase90 → Type 0
IsWithin n p = phrase_depth90 p ≤ n

abbrev AreWithin : ℕ → List Phrase90 → Type 0
AreWithin n ps = AllByRecursion (IsWithin n) ps

none_deep : (ps : List Phrase90) → AreWithin 1000 ps → list_any is_deep ps ≡ false
none_deep [] h = refl
none_deep (p ∷ ps) h = both_false (is_deep p) (list_any is_deep ps) (le-ltb 1000 (phrase_depth90 p) h.0) (none_deep ps h.1)

-- ---- items

step_within : (n : ℕ) (c : Option Phrase90) → step_depth90 c ≤ n → AreWithin n (step_expressions c)
step_within n None h = tt
step_within n (Some p) h = (h, tt)

mutual
  item_expressions_within : (n : ℕ) (d : Direction) (i : ItemPhrase90) → item_depth90 i ≤ n → AreWithin n (item_expressions d i)
  item_expressions_within n Output (Of p) h = (h, tt)
  item_expressions_within n Input (Of p) h = tt
  item_expressions_within n d (Text t) h = tt
  item_expressions_within n d (Loop is x a b c) h =
      all_both (IsWithin n) (items_expressions d is) (a ∷ b ∷ step_expressions c) (items_expressions_within n d is (omega arith)) (omega arith, (omega arith, step_within n c (omega arith)))

  items_expressions_within : (n : ℕ) (d : Direction) (is : ItemPhrases90) → items_depth90 is ≤ n → AreWithin n (items_expressions d is)
  items_expressions_within n d (items.Sole i) h = item_expressions_within n d i h
  items_expressions_within n d (items.More is i) h =
      all_both (IsWithin n) (items_expressions d is) (item_expressions d i) (items_expressions_within n d is (omega arith)) (item_expressions_within n d i (omega arith))

mutual
  item_variables_within : (n : ℕ) (i : ItemPhrase90) → item_depth90 i ≤ n → AreWithin n (item_variables i)
  item_variables_within n (Of p) h = (h, tt)
  item_variables_within n (Text t) h = tt
  item_variables_within n (Loop is x a b c) h = items_variables_within n is (omega arith)

  items_variables_within : (n : ℕ) (is : ItemPhrases90) → items_depth90 is ≤ n → AreWithin n (items_variables is)
  items_variables_within n (items.Sole i) h = item_variables_within n i h
  items_variables_within n (items.More is i) h =
      all_both (IsWithin n) (items_variables is) (item_variables i) (items_variables_within n is (omega arith)) (item_variables_within n i (omega arith))

-- ---- parts of statements

module _ (ds : List Declaration) where
  within : (e : Expression) (k : Kind) → HasKind ds e k → depth_of e ≤ 1000 → phrase_depth90 (phrase_of e) ≤ 1000
  within e k h l = let d = typed_depth ds e k h in omega arith

  step_is_within : (e : Expression) (k : Kind) → HasKind ds e k → depth_of e ≤ 1000 → AreWithin 1000 (step_expressions (step_phrase e))
  step_is_within e k h l = let d = typed_step_depth ds e k h in step_within 1000 (step_phrase e) (omega arith)

  scalars_within : (es : Expressions) (k : Kind) → AreScalars ds es k → depth_of_each es ≤ 1000 → AreWithin 1000 (phrases_of es)
  scalars_within tree.no_expressions k h l = tt
  scalars_within (tree.expression e es) k h l = (within e k h.0.0 (omega arith), scalars_within es k h.1 (omega arith))

  assigned : (left : Reference) (right : Expression) (o : Option Declaration) → IsSomeAnd o (λ (d : Declaration). IsWhole ds (named left) d.kind × IsWhole ds right d.kind)
      → IsWithin 1000 (reference_phrase left) × IsWithin 1000 (phrase_of right)
  assigned left right None h = absurd h
  assigned left right (Some d) h = (within (named left) d.kind h.0.suits h.0.depth, within right d.kind h.1.suits h.1.depth)

-- a list of items that isn't too deep
list_shallow : (d : Direction) (is : ItemPhrases90) → items_depth90 is ≤ 1000 → nat_lt expression_depth90 (items_depth90 is) ≡ false
list_shallow d is l = le-ltb 1000 (items_depth90 is) l

-- no expression is too deep
abbrev pub IsShallow : Form90 → Type 0
IsShallow f = has_deep_expression f ≡ false

pub shallow_forms : (ds : List Declaration) → EachForm ds IsShallow
shallow_forms ds = record {
  titles = λ x. refl;
  implicit = refl;
  declares = λ d h. refl;
  assigns = λ left right w h. let k = assigned ds left right _ h.0 in none_deep (phrase_of right ∷ reference_phrase left ∷ []) (k.1, (k.0, tt));
  masks = λ mask left right w g h.
      let k = assigned ds left right _ h.0 in
      none_deep (phrase_of mask ∷ phrase_of right ∷ reference_phrase left ∷ []) (within ds mask Logical g.0.suits g.0.depth, (k.1, (k.0, tt)));
  tests = λ e h. none_deep (phrase_of e ∷ []) (within ds e Logical h.suits.0 h.depth, tt);
  other_tests = λ e h. none_deep (phrase_of e ∷ []) (within ds e Logical h.suits.0 h.depth, tt);
  others = refl;
  ends_if = refl;
  loops = λ x a b c g h k.
      none_deep (phrase_of a ∷ phrase_of b ∷ (step_expressions (step_phrase c) ++ []))
      (within ds a Integer g.suits.0 g.depth, (within ds b Integer h.suits.0 h.depth, all_both (IsWithin 1000) (step_expressions (step_phrase c)) [] (step_is_within ds c Integer k.suits.0 k.depth) tt));
  ends_do = refl;
  labels = λ n h. refl;
  goes = λ n. refl;
  stops = refl;
  reads_nothing = refl;
  reads = λ i is around h l.
      let ps = item_phrases (tree.item i is) in
      let e = printed_inputs_depth ds (tree.item i is) around h in
      let k : items_depth90 ps ≤ 1000 = omega arith in
      both_false _ _ (list_shallow Input ps k)
      (none_deep _ (all_both (IsWithin 1000) (items_expressions Input ps) (items_variables ps) (items_expressions_within 1000 Input ps k) (items_variables_within 1000 ps k)));
  prints_nothing = refl;
  prints = λ i is around h l.
      let ps = item_phrases (tree.item i is) in
      let e = printed_outputs_depth ds (tree.item i is) around h in
      let k : items_depth90 ps ≤ 1000 = omega arith in
      both_false _ _ (list_shallow Output ps k) (none_deep _ (all_both (IsWithin 1000) (items_expressions Output ps) [] (items_expressions_within 1000 Output ps k) tt));
  allocates = λ x es h. none_deep _ (all_both (IsWithin 1000) (phrases_of es) [] (scalars_within ds es Integer h.1 h.2) tt);
  deallocates = λ x h. refl;
  ends = refl;
}
