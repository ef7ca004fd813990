-- What holds of the phrase of each expression whose kinds suit holds of all expressions in a printed statement, and so it
-- is with the variables that a statement stores into.
use Rattle.std.proofs.Common.{⊎_elim, ℕ, Option, None, Some, IsSomeAnd, List, ◌∷◌}
use Rattle.std.specs.List.{AllByRecursion}
use Rattle.std.proofs.lemmas.Bool.{cond_both}
use Rattle.tree.specs.declared.ops.Kind.{Kind}
use Rattle.tree.specs.declared.ops.Kind.TheVariants.{Integer, Logical}
use Rattle.tree.specs.Plain as tree
use Rattle.tree.specs.Plain.{Expression, Expressions, Subscripts, Reference, Item, Items, Declaration}
use Rattle.meaning.specs.Value.{named}
use Rattle.meaning.specs.Typed90.{HasKind, AreScalars}
use Rattle.meaning.specs.Items90.{IsOutputItem, AreOutputItems, IsInputItem, AreInputItems}
use Rattle.meaning.specs.Profile90.{IsWhole}
use Rattle.f90_grammar.specs.Phrases.{Phrase90}
use Rattle.f90_grammar.specs.Items.{ItemPhrase90, Of, Text, Loop, ItemPhrases90, Sole, More, Direction, Input, Output}
use Rattle.f90_grammar.specs.Printing.{phrase_of, is_one}
use Rattle.f90_grammar.specs.PrintedForms.{reference_phrase, phrases_of, step_phrase, item_phrase, item_phrases, more_items}
use Rattle.f90_grammar.specs.Forms.{Form90}
use Rattle.f90_grammar.specs.Contents.{expressions_of, stored_variables_of, step_expressions, item_expressions, items_expressions, item_variables, items_variables}
use Rattle.f90_laws.proofs.readings.Lists.{all_both}
use Rattle.f90_laws.proofs.unrefused.PrintedForms.{EachForm}

-- of expressions, and of variables that are stored into
pub record EachPhrase (ds : List Declaration) (Good GoodVariable : Phrase90 → Type 0) : Type 0 where
  pub value : (e : Expression) (k : Kind) → HasKind ds e k → Good (phrase_of e)
  pub variable : (x : List ℕ) (ss : Subscripts) (k : Kind) → HasKind ds (tree.Named x ss) k → GoodVariable (phrase_of (tree.Named x ss))

module _ (Good GoodVariable : Phrase90 → Type 0) where
  abbrev AreGood : List Phrase90 → Type 0
  AreGood ps = AllByRecursion Good ps

  abbrev AreGoodVariables : List Phrase90 → Type 0
  AreGoodVariables ps = AllByRecursion GoodVariable ps

  pub record HasGoodPhrases (f : Form90) : Type 0 where
    pub expressions : AllByRecursion Good (expressions_of f)
    pub variables : AllByRecursion GoodVariable (stored_variables_of f)

  -- ---- items

  abbrev MayStand : Direction → Phrase90 → Type 0
  MayStand Output p = Good p
  MayStand Input p = GoodVariable p

  abbrev mutual
    ItemIsGood : Direction → ItemPhrase90 → Type 0
    ItemIsGood d (Of p) = MayStand d p
    ItemIsGood d (Text t) = Unit {0}
    ItemIsGood d (Loop is x a b c) = ItemsAreGood d is × Good a × Good b × AreGood (step_expressions c)

    ItemsAreGood : Direction → ItemPhrases90 → Type 0
    ItemsAreGood d (Sole i) = ItemIsGood d i
    ItemsAreGood d (More is i) = ItemsAreGood d is × ItemIsGood d i

  mutual
    item_expressions_good : (d : Direction) (i : ItemPhrase90) → ItemIsGood d i → AreGood (item_expressions d i)
    item_expressions_good Output (Of p) h = (h, tt)
    item_expressions_good Input (Of p) h = tt
    item_expressions_good d (Text t) h = tt
    item_expressions_good d (Loop is x a b c) h = all_both Good (items_expressions d is) (a ∷ b ∷ step_expressions c) (items_expressions_good d is h.0) (h.1, (h.2, h.3))

    items_expressions_good : (d : Direction) (is : ItemPhrases90) → ItemsAreGood d is → AreGood (items_expressions d is)
    items_expressions_good d (Sole i) h = item_expressions_good d i h
    items_expressions_good d (More is i) h = all_both Good (items_expressions d is) (item_expressions d i) (items_expressions_good d is h.0) (item_expressions_good d i h.1)

  mutual
    item_variables_good : (i : ItemPhrase90) → ItemIsGood Input i → AreGoodVariables (item_variables i)
    item_variables_good (Of p) h = (h, tt)
    item_variables_good (Text t) h = tt
    item_variables_good (Loop is x a b c) h = items_variables_good is h.0

    items_variables_good : (is : ItemPhrases90) → ItemsAreGood Input is → AreGoodVariables (items_variables is)
    items_variables_good (Sole i) h = item_variables_good i h
    items_variables_good (More is i) h = all_both GoodVariable (items_variables is) (item_variables i) (items_variables_good is h.0) (item_variables_good i h.1)

  module _ (ds : List Declaration) (each : EachPhrase ds Good GoodVariable) where
    step_good : (e : Expression) (k : Kind) → HasKind ds e k → AreGood (step_expressions (step_phrase e))
    step_good e k h = cond_both (is_one e) None (Some (phrase_of e)) (λ p. AreGood (step_expressions p)) (λ q. tt) (λ q. (each.value e k h, tt))

    mutual
      output_good : (i : Item) (around : List (List ℕ)) → IsOutputItem ds i around → ItemIsGood Output (item_phrase i)
      output_good (tree.Single e) w h = ⊎_elim (each.value e Integer) (each.value e Logical) h
      output_good (tree.Constant t) w h = tt
      output_good (tree.ImpliedDo is x a b c) w h = (outputs_good is (x ∷ w) h.5, each.value a Integer h.2.0, each.value b Integer h.3.0, step_good c Integer h.4.0)

      outputs_good : (is : Items) (around : List (List ℕ)) → AreOutputItems ds is around → ItemsAreGood Output (item_phrases is)
      outputs_good tree.no_items w h = tt
      outputs_good (tree.item i is) w h = more_outputs_good (Sole (item_phrase i)) is w (output_good i w h.0) h.1

      more_outputs_good : (ps : ItemPhrases90) (is : Items) (around : List (List ℕ)) → ItemsAreGood Output ps → AreOutputItems ds is around → ItemsAreGood Output (more_items ps is)
      more_outputs_good ps tree.no_items w g h = g
      more_outputs_good ps (tree.item i is) w g h = more_outputs_good (More ps (item_phrase i)) is w (g, output_good i w h.0) h.1

    mutual
      input_good : (i : Item) (around : List (List ℕ)) → IsInputItem ds i around → ItemIsGood Input (item_phrase i)
      input_good (tree.Single (tree.Named x ss)) w h = ⊎_elim (each.variable x ss Integer) (each.variable x ss Logical) h.0
      input_good (tree.Single (tree.Number n)) w h = absurd h
      input_good (tree.Single e) w h = absurd h
      input_good (tree.Constant t) w h = absurd h
      input_good (tree.ImpliedDo is x a b c) w h = (inputs_good is (x ∷ w) h.5, each.value a Integer h.2.0, each.value b Integer h.3.0, step_good c Integer h.4.0)

      inputs_good : (is : Items) (around : List (List ℕ)) → AreInputItems ds is around → ItemsAreGood Input (item_phrases is)
      inputs_good tree.no_items w h = tt
      inputs_good (tree.item i is) w h = more_inputs_good (Sole (item_phrase i)) is w (input_good i w h.0) h.1

      more_inputs_good : (ps : ItemPhrases90) (is : Items) (around : List (List ℕ)) → ItemsAreGood Input ps → AreInputItems ds is around → ItemsAreGood Input (more_items ps is)
      more_inputs_good ps tree.no_items w g h = g
      more_inputs_good ps (tree.item i is) w g h = more_inputs_good (More ps (item_phrase i)) is w (g, input_good i w h.0) h.1

    scalars_good : (es : Expressions) (k : Kind) → AreScalars ds es k → AreGood (phrases_of es)
    scalars_good tree.no_expressions k h = tt
    scalars_good (tree.expression e es) k h = (each.value e k h.0.0, scalars_good es k h.1)

    assigned : (left : Reference) (right : Expression) (o : Option Declaration) → IsSomeAnd o (λ (d : Declaration). IsWhole ds (named left) d.kind × IsWhole ds right d.kind)
        → GoodVariable (reference_phrase left) × Good (phrase_of right)
    assigned left right None h = absurd h
    assigned left right (Some d) h = (each.variable left.name left.subscripts d.kind h.0.suits, each.value right d.kind h.1.suits)

    -- ---- statements

    pub phrase_forms : EachForm ds HasGoodPhrases
    phrase_forms = record {
      titles = λ x. record { expressions = tt; variables = tt };
      implicit = record { expressions = tt; variables = tt };
      declares = λ d h. record { expressions = tt; variables = tt };
      assigns = λ left right w h. let k = assigned left right _ h.0 in record { expressions = (k.1, tt); variables = (k.0, tt) };
      masks = λ mask left right w g h.
          let k = assigned left right _ h.0 in record { expressions = (each.value mask Logical g.0.suits, (k.1, tt)); variables = (k.0, tt) };
      tests = λ e h. record { expressions = (each.value e Logical h.suits.0, tt); variables = tt };
      other_tests = λ e h. record { expressions = (each.value e Logical h.suits.0, tt); variables = tt };
      others = record { expressions = tt; variables = tt };
      ends_if = record { expressions = tt; variables = tt };
      loops = λ x a b c g h k.
          record { expressions = (each.value a Integer g.suits.0, (each.value b Integer h.suits.0, step_good c Integer k.suits.0)); variables = tt };
      ends_do = record { expressions = tt; variables = tt };
      labels = λ n h. record { expressions = tt; variables = tt };
      goes = λ n. record { expressions = tt; variables = tt };
      stops = record { expressions = tt; variables = tt };
      reads_nothing = record { expressions = tt; variables = tt };
      reads = λ i is around h l.
          let k = inputs_good (tree.item i is) around h in
          record { expressions = items_expressions_good Input (item_phrases (tree.item i is)) k; variables = items_variables_good (item_phrases (tree.item i is)) k };
      prints_nothing = record { expressions = tt; variables = tt };
      prints = λ i is around h l.
          record { expressions = items_expressions_good Output (item_phrases (tree.item i is)) (outputs_good (tree.item i is) around h); variables = tt };
      allocates = λ x es h. record { expressions = scalars_good es Integer h.1; variables = tt };
      deallocates = λ x h. record { expressions = tt; variables = tt };
      ends = record { expressions = tt; variables = tt };
    }
