-- Kinds and ranks suit in each statement of a printed program.
use Rattle.std.proofs.Common.{◌≡◌, sym, subst, ℕ, Option, None, Some, IsSomeAnd, List, ◌∷◌}
use Rattle.tree.specs.declared.ops.Kind.{Kind}
use Rattle.tree.specs.declared.ops.Kind.TheVariants.{Integer, Logical}
use Rattle.tree.specs.Plain as tree
use Rattle.tree.specs.Plain.{Expression, Expressions, Item, Items, Reference, Declaration, Later}
use Rattle.meaning.specs.Value.{named}
use Rattle.meaning.specs.Typed90.{HasKind, IsScalar}
use Rattle.meaning.specs.Items90.{IsInput, IsOutputItem, AreOutputItems, IsInputItem, AreInputItems}
use Rattle.meaning.specs.Profile90.{IsWhole, IsAssignment, IsMasked}
use Rattle.meaning.specs.Blocks.{Surroundings}
use Rattle.f90_grammar.specs.Phrases.{tree_of}
use Rattle.f90_grammar.specs.Items.{Input, Output, step_tree90}
use Rattle.f90_grammar.specs.Printing.{phrase_of}
use Rattle.f90_grammar.specs.PrintedForms.{reference_phrase, step_phrase}
use Rattle.reading.specs.Signs.{reference_in}
use Rattle.f90_grammar.specs.Reading.{function_by}
use Rattle.f90_grammar.specs.Suited.{SuitsAssignment, SuitsMask, SuitsList, SuitsItem, SuitsItems, SuitsAllocation, Suits}
use Rattle.f90_laws.proofs.printed.PrintedTrees.{typed_reads_back}
use Rattle.f90_laws.proofs.printed.PrintedBlocksItems.{EachReadsBack, reference_back, scalars_back, step_back, output_back, input_back}
use Rattle.f90_laws.proofs.unrefused.PrintedForms.{EachForm}

module _ (ds : List Declaration) where
  abbrev back : EachReadsBack ds
  back = typed_reads_back ds

  -- ---- assignments

  kinds : (left : Reference) (right : Expression) (o : Option Declaration) → IsSomeAnd o (λ (d : Declaration). IsWhole ds (named left) d.kind × IsWhole ds right d.kind)
      → IsSomeAnd o (λ (d : Declaration). HasKind ds (named left) d.kind × HasKind ds right d.kind)
  kinds left right None h = absurd h
  kinds left right (Some d) h = (h.0.suits, h.1.suits)

  same_sides : (left : Reference) (right : Expression) (o : Option Declaration) → IsSomeAnd o (λ (d : Declaration). IsWhole ds (named left) d.kind × IsWhole ds right d.kind)
      → (reference_in (tree_of (function_by ds) (reference_phrase left)) ≡ left) × (tree_of (function_by ds) (phrase_of right) ≡ right)
  same_sides left right None h = absurd h
  same_sides left right (Some d) h = (reference_back ds back left d.kind h.0.suits, back right d.kind h.1.suits)

  assignment_suits : (left : Reference) (right : Expression) (w : Surroundings) → IsAssignment ds left right w
      → SuitsAssignment ds (reference_in (tree_of (function_by ds) (reference_phrase left))) (tree_of (function_by ds) (phrase_of right))
  assignment_suits left right w h =
      let e = same_sides left right _ h.0 in
      subst (λ (l : Reference). SuitsAssignment ds l (tree_of (function_by ds) (phrase_of right))) (sym e.0)
      (subst (λ (r : Expression). SuitsAssignment ds left r) (sym e.1) (kinds left right _ h.0, h.1))

  mask_suits : (mask : Expression) (left : Reference) (right : Expression) (w : Surroundings) → IsMasked ds mask left → IsAssignment ds left right w
      → SuitsMask ds (tree_of (function_by ds) (phrase_of mask)) (reference_in (tree_of (function_by ds) (reference_phrase left)))
  mask_suits mask left right w g h =
      subst (λ (m : Expression). SuitsMask ds m (reference_in (tree_of (function_by ds) (reference_phrase left)))) (sym (back mask Logical g.0.suits))
      (subst (λ (l : Reference). SuitsMask ds mask l) (sym (same_sides left right _ h.0).0) (g.0.suits, g.1, g.2))

  scalar_suits : (e : Expression) (k : Kind) → IsScalar ds e k → IsScalar ds (tree_of (function_by ds) (phrase_of e)) k
  scalar_suits e k h = subst (λ (t : Expression). IsScalar ds t k) (sym (back e k h.0)) h

  step_suits : (e : Expression) (k : Kind) → IsScalar ds e k → IsScalar ds (step_tree90 (function_by ds) (step_phrase e)) k
  step_suits e k h = subst (λ (t : Expression). IsScalar ds t k) (sym (step_back ds back e k h.0)) h

  -- ---- items

  mutual
    output_suits : (i : Item) (around : List (List ℕ)) → IsOutputItem ds i around → SuitsItem ds Output i
    output_suits (tree.Single e) around h = h
    output_suits (tree.Constant t) around h = tt
    output_suits (tree.ImpliedDo is x a b c) around h = (outputs_suit is (x ∷ around) h.5, (h.2, h.3, h.4))

    outputs_suit : (is : Items) (around : List (List ℕ)) → AreOutputItems ds is around → SuitsItems ds Output is
    outputs_suit tree.no_items around h = tt
    outputs_suit (tree.item i is) around h = (output_suits i around h.0, outputs_suit is around h.1)

  input : (e : Expression) (around : List (List ℕ)) → IsInput ds e around → SuitsList ds Input e
  input (tree.Named x ps) around h = (h.0, h.1)
  input (tree.Number n) around h = absurd h
  input e around h = absurd h

  mutual
    input_suits : (i : Item) (around : List (List ℕ)) → IsInputItem ds i around → SuitsItem ds Input i
    input_suits (tree.Single e) around h = input e around h
    input_suits (tree.Constant t) around h = absurd h
    input_suits (tree.ImpliedDo is x a b c) around h = (inputs_suit is (x ∷ around) h.5, (h.2, h.3, h.4))

    inputs_suit : (is : Items) (around : List (List ℕ)) → AreInputItems ds is around → SuitsItems ds Input is
    inputs_suit tree.no_items around h = tt
    inputs_suit (tree.item i is) around h = (input_suits i around h.0, inputs_suit is around h.1)

pub suited_forms : (ds : List Declaration) → EachForm ds (Suits ds)
suited_forms ds = record {
  titles = λ x. tt;
  implicit = tt;
  declares = λ d h. tt;
  assigns = λ left right w h. assignment_suits ds left right w h;
  masks = λ mask left right w g h. (mask_suits ds mask left right w g h, assignment_suits ds left right w h);
  tests = λ e h. scalar_suits ds e Logical h.suits;
  other_tests = λ e h. scalar_suits ds e Logical h.suits;
  others = tt;
  ends_if = tt;
  loops = λ x a b c g h k. (scalar_suits ds a Integer g.suits, scalar_suits ds b Integer h.suits, step_suits ds c Integer k.suits);
  ends_do = tt;
  labels = λ n h. tt;
  goes = λ n. tt;
  stops = tt;
  reads_nothing = tt;
  reads = λ i is around h l. subst (λ (js : Items). SuitsItems ds Input js) (sym (input_back ds (back ds) i is around h)) (inputs_suit ds (tree.item i is) around h);
  prints_nothing = tt;
  prints = λ i is around h l. subst (λ (js : Items). SuitsItems ds Output js) (sym (output_back ds (back ds) i is around h)) (outputs_suit ds (tree.item i is) around h);
  allocates = λ x es h. subst (λ (fs : Expressions). SuitsAllocation ds x fs) (sym (scalars_back ds (back ds) es Integer h.1)) (h.0, h.1);
  deallocates = λ x h. h;
  ends = tt;
}
