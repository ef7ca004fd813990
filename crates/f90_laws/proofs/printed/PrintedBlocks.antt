-- The printed statements of a block, on any lines, are that block with other numbers of lines.
use Rattle.std.proofs.Common.{◌≡◌, refl, ap, ap₂, ◌∙◌, sym, ℕ, ◌<◌, Bool, true, false, Option, Some, None, List, [], ◌∷◌, ◌++◌, arith, decimal, IsSomeAnd}
use Rattle.std.specs.List.{AllByRecursion}
use Rattle.std.proofs.lemmas.Fmt.{decimal_is_IsNumeral_wide}
use Rattle.std.proofs.lemmas.List.Elements.{All-contains, All-from_recursion}
use Rattle.tree.specs.Plain as tree
use Rattle.tree.specs.Plain.{Expression, Reference, Statement, Arms, Block, Declaration}
use Rattle.tree.specs.declared.ops.Kind.TheVariants.{Integer, Logical}
use Rattle.meaning.specs.Value.{named}
use Rattle.meaning.specs.Blocks.{labels_of, Surroundings, before_labels, within_loop}
use Rattle.meaning.specs.Labels.{all_labels_of, all_labels_in_arms, all_labels_in, IsLabel}
use Rattle.meaning.specs.Profile90.{IsStatement, AreArms, IsBlock, IsWhole}
use Rattle.f90_grammar.specs.Phrases.{Phrase90, tree_of, value_of_digits}
use Rattle.f90_grammar.specs.Items.{item_trees90}
use Rattle.f90_grammar.specs.Forms as forms
use Rattle.f90_grammar.specs.Printing.{phrase_of}
use Rattle.f90_grammar.specs.PrintedForms.{unmarked, reference_phrase, phrases_of, item_phrases, printed_statement, printed_block, printed_arms, printed_else}
use Rattle.f90_grammar.specs.Blocks.{Placed, trees_by}
use Rattle.reading.specs.Signs.{reference_in}
use Rattle.f90_grammar.specs.Blocks.IsSimple.{assigns, masks, goes, stops, reads, reads_nothing, prints, prints_nothing, allocates, deallocates}
use Rattle.f90_grammar.specs.Blocks.AreBlock90.{nothing, label}
use Rattle.f90_grammar.specs.Reading.{function_by}
use Rattle.f90_laws.proofs.printed.PrintedBlocksItems.{EachReadsBack, reference_back, scalars_back, step_back, output_back, input_back}
use Rattle.f90_laws.proofs.printed.PrintedBlocksPlaced.{ArePlaced, divide, ReadBlock, ReadStatement, ReadArms, simple_back, if_back, arm_back, else_back, do_back, behind}
use Rattle.f90_laws.proofs.printed.PrintedBlocksPlaced.ArePlaced.{none, next}
use Rattle.f90_laws.proofs.printed.Spelling.{all_append}

-- ---- labels

all_left : (P : ℕ → Type 0) (xs ys : List ℕ) → AllByRecursion P (xs ++ ys) → AllByRecursion P xs
all_left P [] ys h = tt
all_left P (x ∷ xs) ys h = (h.0, all_left P xs ys h.1)

all_right : (P : ℕ → Type 0) (xs ys : List ℕ) → AllByRecursion P (xs ++ ys) → AllByRecursion P ys
all_right P [] ys h = h
all_right P (x ∷ xs) ys h = all_right P xs ys h.1

labels_good : (ds : List Declaration) (b : Block) (w : Surroundings) → IsBlock ds b w → AllByRecursion IsLabel (labels_of b)
labels_good ds tree.no_statements w h = tt
labels_good ds (tree.statement (tree.Label n) cs) w h = (h.0, labels_good ds cs w h.1)
labels_good ds (tree.statement c cs) w h = labels_good ds cs w h.1

-- a label is read back
label_value : (n : ℕ) → IsLabel n → value_of_digits (decimal n) ≡ n
label_value n h = let l : n < 100000 = h.1 in (decimal_is_IsNumeral_wide n (omega arith)).1

module _ (ds : List Declaration) (back : EachReadsBack ds) (is_target : ℕ → Bool) where
  abbrev IsTarget : ℕ → Type 0
  IsTarget n = is_target n ≡ true

  abbrev tree_in : Phrase90 → Expression
  tree_in p = tree_of (function_by ds) p

  assigned : (left : Reference) (right : Expression) (o : Option Declaration) → IsSomeAnd o (λ d. IsWhole ds (named left) d.kind × IsWhole ds right d.kind)
      → (reference_in (tree_in (reference_phrase left)) ≡ left) × (tree_in (phrase_of right) ≡ right)
  assigned left right None h = absurd h
  assigned left right (Some d) h = (reference_back ds back left d.kind h.0.suits, back right d.kind h.1.suits)

  label_back : (n : ℕ) → IsLabel n → is_target n ≡ true → {ps : List Placed} → ArePlaced (printed_statement (tree.Label n)) ps
      → ReadStatement (function_by ds) is_target (tree.Label n) ps
  label_back n l t (next line s none) = record {
    statement = tree.Label (value_of_digits (decimal n));
    are = λ rest b h. label line (decimal n) rest b (ap is_target (label_value n l) ∙ t) h;
    same = ap tree.Label (sym (label_value n l));
  }

  mutual
    statement_back : (c : Statement) (w : Surroundings) → IsStatement ds c w → AllByRecursion IsLabel w.ahead → AllByRecursion IsTarget (all_labels_of c)
        → (ps : List Placed) → ArePlaced (printed_statement c) ps → ReadStatement (function_by ds) is_target c ps
    statement_back (tree.Assignment line mark left right) w h a t ps p =
        let e = assigned left right _ h.1.0 in
        simple_back (function_by ds) is_target (tree.Assignment line mark left right) _ p (λ n. record {
          statement = tree.Assignment n mark (reference_in (tree_in (reference_phrase left))) (tree_in (phrase_of right));
          is_simple = assigns n mark (reference_phrase left) (phrase_of right);
          same = ap₂ (λ l r. tree.Assignment 0 mark l r) (sym e.0) (sym e.1);
        })
    statement_back (tree.Where line mark mask left right) w h a t ps p =
        let e = assigned left right _ h.2.0 in
        simple_back (function_by ds) is_target (tree.Where line mark mask left right) _ p (λ n. record {
          statement = tree.Where n mark (tree_in (phrase_of mask)) (reference_in (tree_in (reference_phrase left))) (tree_in (phrase_of right));
          is_simple = masks n mark (phrase_of mask) (reference_phrase left) (phrase_of right);
          same = ap₂ (λ l r. tree.Where 0 mark mask l r) (sym e.0) (sym e.1)
              ∙ ap (λ m. tree.Where 0 mark m (reference_in (tree_in (reference_phrase left))) (tree_in (phrase_of right))) (sym (back mask Logical h.1.0.suits));
        })
    statement_back (tree.If line tree.no_arms other) w h a t ps p = let q : false ≡ true = h.1 in absurd cc
    statement_back (tree.If line (tree.arm test body more) other) w h a t ps p =
        let labels = all_left IsTarget (all_labels_in_arms (tree.arm test body more)) (all_labels_in other) t in
        let others = all_right IsTarget (all_labels_in_arms (tree.arm test body more)) (all_labels_in other) t in
        if_back (function_by ds) is_target line test body more other (back test Logical h.2.0.suits.0)
        (λ qs q. block_back body w h.2.1 a (all_left IsTarget (all_labels_in body) (all_labels_in_arms more) labels) qs q)
        (λ qs q. arms_back more other w h.2.2 a (all_right IsTarget (all_labels_in body) (all_labels_in_arms more) labels)
        (else_back (function_by ds) is_target other (λ rs r. block_back other w h.3 a others rs r)) qs q) p
    statement_back (tree.Do line x i j k body) w h a t ps p =
        do_back (function_by ds) is_target line x i j k body (back i Integer h.2.suits.0) (back j Integer h.3.suits.0) (step_back ds back k Integer h.4.suits.0)
        (λ qs q. block_back body (within_loop x w) h.5 a t qs q) p
    statement_back (tree.Label n) w h a t ps p = label_back n h t.0 p
    statement_back (tree.GoTo line m) w h a t ps p =
        simple_back (function_by ds) is_target (tree.GoTo line m) _ p (λ n. record {
          statement = tree.GoTo n (value_of_digits (decimal m));
          is_simple = goes n (decimal m);
          same = ap (tree.GoTo 0) (sym (label_value m (All-contains IsLabel w.ahead m (All-from_recursion IsLabel w.ahead a) h.1)));
        })
    statement_back (tree.Stop line) w h a t ps p =
        simple_back (function_by ds) is_target (tree.Stop line) _ p (λ n. record { statement = tree.Stop n; is_simple = stops n; same = refl })
    statement_back (tree.Read line tree.no_items) w h a t ps p =
        simple_back (function_by ds) is_target (tree.Read line tree.no_items) _ p (λ n. record { statement = tree.Read n tree.no_items; is_simple = reads_nothing n; same = refl })
    statement_back (tree.Read line (tree.item i is)) w h a t ps p =
        simple_back (function_by ds) is_target (tree.Read line (tree.item i is)) _ p (λ n. record {
          statement = tree.Read n (tree.items (item_trees90 (function_by ds) (item_phrases (tree.item i is))));
          is_simple = reads n (item_phrases (tree.item i is));
          same = ap (tree.Read 0) (sym (input_back ds back i is w.variables h.1));
        })
    statement_back (tree.Print line tree.no_items) w h a t ps p =
        simple_back (function_by ds) is_target (tree.Print line tree.no_items) _ p (λ n. record { statement = tree.Print n tree.no_items; is_simple = prints_nothing n; same = refl })
    statement_back (tree.Print line (tree.item i is)) w h a t ps p =
        simple_back (function_by ds) is_target (tree.Print line (tree.item i is)) _ p (λ n. record {
          statement = tree.Print n (tree.items (item_trees90 (function_by ds) (item_phrases (tree.item i is))));
          is_simple = prints n (item_phrases (tree.item i is));
          same = ap (tree.Print 0) (sym (output_back ds back i is w.variables h.1));
        })
    statement_back (tree.Allocate line x es) w h a t ps p =
        simple_back (function_by ds) is_target (tree.Allocate line x es) _ p (λ n. record {
          statement = tree.Allocate n x (tree.expressions (trees_by tree_in (phrases_of es)));
          is_simple = allocates n x (phrases_of es);
          same = ap (tree.Allocate 0 x) (sym (scalars_back ds back es Integer h.1.1));
        })
    statement_back (tree.Deallocate line x) w h a t ps p =
        simple_back (function_by ds) is_target (tree.Deallocate line x) _ p (λ n. record { statement = tree.Deallocate n x; is_simple = deallocates n x; same = refl })

    arms_back : (m : Arms) (o : Block) (w : Surroundings) → AreArms ds m w → AllByRecursion IsLabel w.ahead → AllByRecursion IsTarget (all_labels_in_arms m)
        → ((ps : List Placed) → ArePlaced (printed_else o ++ unmarked forms.EndIf ∷ []) ps → ReadArms (function_by ds) is_target tree.no_arms o ps)
        → (ps : List Placed) → ArePlaced (printed_arms m ++ (printed_else o ++ unmarked forms.EndIf ∷ [])) ps → ReadArms (function_by ds) is_target m o ps
    arms_back tree.no_arms o w h a t others ps p = others ps p
    arms_back (tree.arm test body more) o w h a t others ps p =
        arm_back (function_by ds) is_target test body more o (back test Logical h.0.suits.0)
        (λ qs q. block_back body w h.1 a (all_left IsTarget (all_labels_in body) (all_labels_in_arms more) t) qs q)
        (λ qs q. arms_back more o w h.2 a (all_right IsTarget (all_labels_in body) (all_labels_in_arms more) t) others qs q) ps p

    pub block_back : (b : Block) (w : Surroundings) → IsBlock ds b w → AllByRecursion IsLabel w.ahead → AllByRecursion IsTarget (all_labels_in b)
        → (ps : List Placed) → ArePlaced (printed_block b) ps → ReadBlock (function_by ds) is_target b ps
    block_back tree.no_statements w h a t _ none = record { block = tree.no_statements; are = nothing; same = refl }
    block_back (tree.statement c cs) w h a t ps p =
        behind (function_by ds) is_target c cs
        (λ qs q. statement_back c (before_labels (labels_of cs) w) h.0 (all_append IsLabel (labels_of cs) w.ahead (labels_good ds cs w h.1) a)
        (all_left IsTarget (all_labels_of c) (all_labels_in cs) t) qs q)
        (λ qs q. block_back cs w h.1 a (all_right IsTarget (all_labels_of c) (all_labels_in cs) t) qs q)
        (divide (printed_statement c) (printed_block cs) p)
