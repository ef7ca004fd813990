-- What is printed for an item of PRINT or READ is as deep as it, and suits its calls.
use Rattle.std.proofs.Common.{◌≡◌, inl, inr, refl, sym, arith, ℕ, max, Some, None, List, ◌∷◌}
use Rattle.std.proofs.lemmas.Bool.{cond_both}
use Rattle.tree.specs.declared.ops.Kind.{Kind}
use Rattle.tree.specs.declared.ops.Kind.TheVariants.{Integer, Logical}
use Rattle.tree.specs.Plain as tree
use Rattle.tree.specs.Plain.{Expression, Item, Items, Declaration}
use Rattle.meaning.specs.Depths.{depth_of, depth_of_item, depth_of_items}
use Rattle.meaning.specs.Typed90.{HasKind, HasSomeKind}
use Rattle.meaning.specs.Items90.{IsOutputItem, AreOutputItems, IsInputItem, AreInputItems}
use Rattle.f90_grammar.specs.Phrases.{phrase_depth90, SuitsCalls}
use Rattle.f90_grammar.specs.Items.{ItemPhrases90, Sole, More, item_depth90, items_depth90, step_depth90}
use Rattle.f90_grammar.specs.ItemCalls.{ItemSuitsCalls, ItemsSuitCalls, StepSuitsCalls}
use Rattle.f90_grammar.specs.Printing.{phrase_of, is_one}
use Rattle.f90_grammar.specs.PrintedForms.{step_phrase, item_phrase, item_phrases, more_items}
use Rattle.f90_grammar.specs.Reading.{function_by}
use Rattle.f90_laws.proofs.printed.PrintedTrees.{source, printed_depth, printed_suits, one_depth}

module _ (ds : List Declaration) where
  pub typed_depth : (e : Expression) (k : Kind) → HasKind ds e k → phrase_depth90 (phrase_of e) ≡ depth_of e
  typed_depth e k h = printed_depth (function_by ds) e (source ds e k h)

  some_depth : (e : Expression) → HasSomeKind ds e → phrase_depth90 (phrase_of e) ≡ depth_of e
  some_depth e (inl h) = typed_depth e Integer h
  some_depth e (inr h) = typed_depth e Logical h

  pub typed_step_depth : (e : Expression) (k : Kind) → HasKind ds e k → step_depth90 (step_phrase e) ≡ depth_of e
  typed_step_depth e k h = cond_both (is_one e) None (Some (phrase_of e)) (λ c. step_depth90 c ≡ depth_of e) (λ one. sym (one_depth e one)) (λ other. typed_depth e k h)

  some_suits : (e : Expression) → HasSomeKind ds e → SuitsCalls (function_by ds) (phrase_of e)
  some_suits e (inl h) = printed_suits ds e Integer h
  some_suits e (inr h) = printed_suits ds e Logical h

  pub step_suits : (e : Expression) (k : Kind) → HasKind ds e k → StepSuitsCalls (function_by ds) (step_phrase e)
  step_suits e k h = cond_both (is_one e) None (Some (phrase_of e)) (StepSuitsCalls (function_by ds)) (λ one. tt) (λ other. printed_suits ds e k h)

  mutual
    output_depth : (i : Item) (around : List (List ℕ)) → IsOutputItem ds i around → item_depth90 (item_phrase i) ≡ depth_of_item i
    output_depth (tree.Single e) w h = some_depth e h
    output_depth (tree.Constant t) w h = refl
    output_depth (tree.ImpliedDo is x a b c) w h =
        let l = printed_outputs_depth is (x ∷ w) h.5 in
        let p = typed_depth a Integer h.2.0 in
        let q = typed_depth b Integer h.3.0 in
        let r = typed_step_depth c Integer h.4.0 in
        omega arith

    pub printed_outputs_depth : (is : Items) (around : List (List ℕ)) → AreOutputItems ds is around → items_depth90 (item_phrases is) ≡ depth_of_items is
    printed_outputs_depth tree.no_items w h = refl
    printed_outputs_depth (tree.item i is) w h =
        let p = output_depth i w h.0 in
        let q = more_outputs_depth (Sole (item_phrase i)) is w h.1 in
        omega arith

    more_outputs_depth : (ps : ItemPhrases90) (is : Items) (around : List (List ℕ)) → AreOutputItems ds is around → items_depth90 (more_items ps is) ≡ max (items_depth90 ps) (depth_of_items is)
    more_outputs_depth ps tree.no_items w h = omega arith
    more_outputs_depth ps (tree.item i is) w h =
        let p = output_depth i w h.0 in
        let q = more_outputs_depth (More ps (item_phrase i)) is w h.1 in
        omega arith

  mutual
    input_depth : (i : Item) (around : List (List ℕ)) → IsInputItem ds i around → item_depth90 (item_phrase i) ≡ depth_of_item i
    input_depth (tree.Single (tree.Named x ss)) w h = some_depth (tree.Named x ss) h.0
    input_depth (tree.Single (tree.Number n)) w h = absurd h
    input_depth (tree.Single e) w h = absurd h
    input_depth (tree.Constant t) w h = absurd h
    input_depth (tree.ImpliedDo is x a b c) w h =
        let l = printed_inputs_depth is (x ∷ w) h.5 in
        let p = typed_depth a Integer h.2.0 in
        let q = typed_depth b Integer h.3.0 in
        let r = typed_step_depth c Integer h.4.0 in
        omega arith

    pub printed_inputs_depth : (is : Items) (around : List (List ℕ)) → AreInputItems ds is around → items_depth90 (item_phrases is) ≡ depth_of_items is
    printed_inputs_depth tree.no_items w h = refl
    printed_inputs_depth (tree.item i is) w h =
        let p = input_depth i w h.0 in
        let q = more_inputs_depth (Sole (item_phrase i)) is w h.1 in
        omega arith

    more_inputs_depth : (ps : ItemPhrases90) (is : Items) (around : List (List ℕ)) → AreInputItems ds is around → items_depth90 (more_items ps is) ≡ max (items_depth90 ps) (depth_of_items is)
    more_inputs_depth ps tree.no_items w h = omega arith
    more_inputs_depth ps (tree.item i is) w h =
        let p = input_depth i w h.0 in
        let q = more_inputs_depth (More ps (item_phrase i)) is w h.1 in
        omega arith

  mutual
    output_suits : (i : Item) (around : List (List ℕ)) → IsOutputItem ds i around → ItemSuitsCalls (function_by ds) (item_phrase i)
    output_suits (tree.Single e) w h = some_suits e h
    output_suits (tree.Constant t) w h = tt
    output_suits (tree.ImpliedDo is x a b c) w h =
        (printed_outputs_suit is (x ∷ w) h.5, printed_suits ds a Integer h.2.0, printed_suits ds b Integer h.3.0, step_suits c Integer h.4.0)

    pub printed_outputs_suit : (is : Items) (around : List (List ℕ)) → AreOutputItems ds is around → ItemsSuitCalls (function_by ds) (item_phrases is)
    printed_outputs_suit tree.no_items w h = tt
    printed_outputs_suit (tree.item i is) w h = more_outputs_suit (Sole (item_phrase i)) is w (output_suits i w h.0) h.1

    more_outputs_suit : (ps : ItemPhrases90) (is : Items) (around : List (List ℕ)) → ItemsSuitCalls (function_by ds) ps → AreOutputItems ds is around → ItemsSuitCalls (function_by ds) (more_items ps is)
    more_outputs_suit ps tree.no_items w g h = g
    more_outputs_suit ps (tree.item i is) w g h = more_outputs_suit (More ps (item_phrase i)) is w (g, output_suits i w h.0) h.1

  mutual
    input_suits : (i : Item) (around : List (List ℕ)) → IsInputItem ds i around → ItemSuitsCalls (function_by ds) (item_phrase i)
    input_suits (tree.Single (tree.Named x ss)) w h = some_suits (tree.Named x ss) h.0
    input_suits (tree.Single (tree.Number n)) w h = absurd h
    input_suits (tree.Single e) w h = absurd h
    input_suits (tree.Constant t) w h = absurd h
    input_suits (tree.ImpliedDo is x a b c) w h =
        (printed_inputs_suit is (x ∷ w) h.5, printed_suits ds a Integer h.2.0, printed_suits ds b Integer h.3.0, step_suits c Integer h.4.0)

    pub printed_inputs_suit : (is : Items) (around : List (List ℕ)) → AreInputItems ds is around → ItemsSuitCalls (function_by ds) (item_phrases is)
    printed_inputs_suit tree.no_items w h = tt
    printed_inputs_suit (tree.item i is) w h = more_inputs_suit (Sole (item_phrase i)) is w (input_suits i w h.0) h.1

    more_inputs_suit : (ps : ItemPhrases90) (is : Items) (around : List (List ℕ)) → ItemsSuitCalls (function_by ds) ps → AreInputItems ds is around → ItemsSuitCalls (function_by ds) (more_items ps is)
    more_inputs_suit ps tree.no_items w g h = g
    more_inputs_suit ps (tree.item i is) w g h = more_inputs_suit (More ps (item_phrase i)) is w (g, input_suits i w h.0) h.1
