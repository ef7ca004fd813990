-- The expressions, steps and items of a printed statement stand for those of the tree.
use Rattle.std.proofs.Common.{◌≡◌, ⊎_elim, refl, sym, ap, ap₂, ◌∙◌, ℕ, pos, true, IsTrue, Some, None, List, [], ◌∷◌, ◌++◌, append_assoc, append-nil}
use Rattle.std.proofs.lemmas.Bool.{cond_both}
use Rattle.std.proofs.lemmas.Bool.Decides.{Decides-int_eq}
use Rattle.tree.specs.Plain as tree
use Rattle.tree.specs.Plain.{Expression, Expressions, Reference, Item, Items, Declaration}
use Rattle.tree.specs.declared.ops.Kind.{Kind}
use Rattle.tree.specs.declared.ops.Kind.TheVariants.{Integer, Logical}
use Rattle.meaning.specs.Typed.{has_item}
use Rattle.meaning.specs.Typed90.{HasKind, AreScalars, HasSomeKind}
use Rattle.meaning.specs.Items90.{IsInput, IsOutputItem, AreOutputItems, IsInputItem, AreInputItems}
use Rattle.meaning.specs.Value.{named}
use Rattle.f90_grammar.specs.Phrases.{tree_of}
use Rattle.f90_grammar.specs.Items.{ItemPhrases90, Sole, More, item_tree90, item_trees90, step_tree90}
use Rattle.f90_grammar.specs.Printing.{phrase_of, is_one}
use Rattle.f90_grammar.specs.PrintedForms.{reference_phrase, phrases_of, step_phrase, item_phrase, item_phrases, more_items}
use Rattle.f90_grammar.specs.Blocks.{trees_by}
use Rattle.reading.specs.Signs.{reference_in}
use Rattle.f90_grammar.specs.Reading.{function_by}

-- an expression whose kind suits is read back
abbrev pub EachReadsBack : List Declaration → Type 0
EachReadsBack ds = (e : Expression) (k : Kind) → HasKind ds e k → tree_of (function_by ds) (phrase_of e) ≡ e

one-is : (e : Expression) → is_one e ≡ true → tree.Number (pos 1) ≡ e
one-is (tree.Number n) e = ap tree.Number (sym ((Decides-int_eq n (pos 1)).0 e))
one-is (tree.Logic b) e = cc
one-is (tree.Named x ss) e = cc
one-is (tree.Unary o a) e = cc
one-is (tree.Binary o a b) e = cc
one-is (tree.Apply f es) e = cc
one-is (tree.Constructor es ls) e = cc
one-is (tree.Spread a d n) e = cc
one-is (tree.Transpose a) e = cc
one-is (tree.Reshape a es) e = cc
one-is (tree.Reduce r a) e = cc

abbrev item_list : Items → List Item
item_list tree.no_items = []
item_list (tree.item i is) = i ∷ item_list is

items-list : (is : Items) → tree.items (item_list is) ≡ is
items-list tree.no_items = refl
items-list (tree.item i is) = ap (tree.item i) (items-list is)

module _ (ds : List Declaration) (back : EachReadsBack ds) where
  pub reference_back : (r : Reference) (k : Kind) → HasKind ds (named r) k → reference_in (tree_of (function_by ds) (reference_phrase r)) ≡ r
  reference_back r k h = ap reference_in (back (tree.Named r.name r.subscripts) k h)

  pub scalars_back : (es : Expressions) (k : Kind) → AreScalars ds es k → tree.expressions (trees_by (tree_of (function_by ds)) (phrases_of es)) ≡ es
  scalars_back tree.no_expressions k h = refl
  scalars_back (tree.expression e es) k h = ap₂ tree.expression (back e k h.0.0) (scalars_back es k h.1)

  pub step_back : (e : Expression) (k : Kind) → HasKind ds e k → step_tree90 (function_by ds) (step_phrase e) ≡ e
  step_back e k h = cond_both (is_one e) None (Some (phrase_of e)) (λ p. step_tree90 (function_by ds) p ≡ e) (one-is e) (λ q. back e k h)

  -- ---- items

  -- each expression in it is read back
  abbrev mutual
    IsBack : Item → Type 0
    IsBack (tree.Single e) = tree_of (function_by ds) (phrase_of e) ≡ e
    IsBack (tree.Constant t) = Unit {0}
    IsBack (tree.ImpliedDo is x a b c) =
        IsTrue (has_item is) × (tree_of (function_by ds) (phrase_of a) ≡ a) × (tree_of (function_by ds) (phrase_of b) ≡ b)
        × (step_tree90 (function_by ds) (step_phrase c) ≡ c) × AreBack is

    AreBack : Items → Type 0
    AreBack tree.no_items = Unit {0}
    AreBack (tree.item i is) = IsBack i × AreBack is

  some_kind : (e : Expression) → HasSomeKind ds e → tree_of (function_by ds) (phrase_of e) ≡ e
  some_kind e h = ⊎_elim (back e Integer) (back e Logical) h

  mutual
    output_item : (i : Item) (around : List (List ℕ)) → IsOutputItem ds i around → IsBack i
    output_item (tree.Single e) around h = some_kind e h
    output_item (tree.Constant t) around h = tt
    output_item (tree.ImpliedDo is x a b c) around h =
        (h.0, back a Integer h.2.0, back b Integer h.3.0, step_back c Integer h.4.0, output_items is (x ∷ around) h.5)

    output_items : (is : Items) (around : List (List ℕ)) → AreOutputItems ds is around → AreBack is
    output_items tree.no_items around h = tt
    output_items (tree.item i is) around h = (output_item i around h.0, output_items is around h.1)

  input : (e : Expression) (around : List (List ℕ)) → IsInput ds e around → tree_of (function_by ds) (phrase_of e) ≡ e
  input (tree.Named x ps) around h = some_kind (tree.Named x ps) h.0
  input e around h = absurd h

  mutual
    input_item : (i : Item) (around : List (List ℕ)) → IsInputItem ds i around → IsBack i
    input_item (tree.Single e) around h = input e around h
    input_item (tree.Constant t) around h = tt
    input_item (tree.ImpliedDo is x a b c) around h =
        (h.0, back a Integer h.2.0, back b Integer h.3.0, step_back c Integer h.4.0, input_items is (x ∷ around) h.5)

    input_items : (is : Items) (around : List (List ℕ)) → AreInputItems ds is around → AreBack is
    input_items tree.no_items around h = tt
    input_items (tree.item i is) around h = (input_item i around h.0, input_items is around h.1)

  mutual
    item_back : (i : Item) → IsBack i → item_tree90 (function_by ds) (item_phrase i) ≡ i
    item_back (tree.Single e) h = ap tree.Single h
    item_back (tree.Constant t) h = refl
    item_back (tree.ImpliedDo tree.no_items x a b c) h = cc
    item_back (tree.ImpliedDo (tree.item i is) x a b c) h =
        ap (λ (js : List Item). tree.ImpliedDo (tree.items js) x (tree_of (function_by ds) (phrase_of a)) (tree_of (function_by ds) (phrase_of b)) (step_tree90 (function_by ds) (step_phrase c)))
        (more_back (Sole (item_phrase i)) is h.4.1 ∙ ap (λ j. j ∷ item_list is) (item_back i h.4.0))
        ∙ (ap (λ (js : Items). tree.ImpliedDo (tree.item i js) x (tree_of (function_by ds) (phrase_of a)) (tree_of (function_by ds) (phrase_of b)) (step_tree90 (function_by ds) (step_phrase c))) (items-list is)
        ∙ (ap₂ (λ p q. tree.ImpliedDo (tree.item i is) x p q (step_tree90 (function_by ds) (step_phrase c))) h.1 h.2
        ∙ ap (tree.ImpliedDo (tree.item i is) x a b) h.3))

    more_back : (ps : ItemPhrases90) (is : Items) → AreBack is → item_trees90 (function_by ds) (more_items ps is) ≡ item_trees90 (function_by ds) ps ++ item_list is
    more_back ps tree.no_items h = sym (append-nil (item_trees90 (function_by ds) ps))
    more_back ps (tree.item i is) h =
        more_back (More ps (item_phrase i)) is h.1
        ∙ (append_assoc (item_trees90 (function_by ds) ps) _ (item_list is) ∙ ap (λ j. item_trees90 (function_by ds) ps ++ j ∷ item_list is) (item_back i h.0))

  list_back : (i : Item) (is : Items) → AreBack (tree.item i is) → tree.items (item_trees90 (function_by ds) (item_phrases (tree.item i is))) ≡ tree.item i is
  list_back i is h =
      ap tree.items (more_back (Sole (item_phrase i)) is h.1 ∙ ap (λ j. j ∷ item_list is) (item_back i h.0)) ∙ ap (tree.item i) (items-list is)

  pub output_back : (i : Item) (is : Items) (around : List (List ℕ)) → AreOutputItems ds (tree.item i is) around
      → tree.items (item_trees90 (function_by ds) (item_phrases (tree.item i is))) ≡ tree.item i is
  output_back i is around h = list_back i is (output_items (tree.item i is) around h)

  pub input_back : (i : Item) (is : Items) (around : List (List ℕ)) → AreInputItems ds (tree.item i is) around
      → tree.items (item_trees90 (function_by ds) (item_phrases (tree.item i is))) ≡ tree.item i is
  input_back i is around h = list_back i is (input_items (tree.item i is) around h)
