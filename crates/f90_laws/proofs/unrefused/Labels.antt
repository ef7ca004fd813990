-- The labels of a printed program are those of the tree, so none is 0 or stands twice.
use Rattle.std.proofs.Common.{◌≡◌, refl, sym, ap, ap₂, subst, ◌∙◌, ℕ, ◌<◌, ◌==◌, arith, decimal, Bool, true, false, ◌||◌, List, [], ◌∷◌, ◌++◌, map, append_assoc, append-nil, Contains, ne_eqb}
use Rattle.std.specs.Prelude.{flat_map}
use Rattle.std.specs.List.{AllByRecursion, list_any}
use Rattle.std.proofs.lemmas.Fmt.{decimal_is_IsNumeral_wide}
use Rattle.std.proofs.lemmas.Grind.{flat_map-append}
use Rattle.std.proofs.lemmas.List.Folds.{list_any-append}
use Rattle.std.proofs.lemmas.List.Elements.{Contains-append_right}
use Rattle.tree.specs.Plain as tree
use Rattle.tree.specs.Plain.{Statement, Arms, Block, Declaration, Program}
use Rattle.meaning.specs.Blocks.{Surroundings, outermost, within_loop, before_labels, labels_of}
use Rattle.meaning.specs.Labels.{all_labels_of, all_labels_in_arms, all_labels_in, IsWithoutRepeats, IsLabel}
use Rattle.meaning.specs.Profile90.{IsStatement, AreArms, IsBlock, IsProgram90}
use Rattle.reading.specs.Characters.{IsDigits}
use Rattle.f90_grammar.specs.Phrases.{value_of_digits}
use Rattle.f90_grammar.specs.Forms as forms
use Rattle.f90_grammar.specs.Forms.{Form90}
use Rattle.f90_grammar.specs.PrintedForms.{Printed, unmarked, printed_statement, printed_arms, printed_else, printed_block, printed_declaration, printed_program}
use Rattle.f90_grammar.specs.Blocks.{Placed}
use Rattle.f90_grammar.specs.Order.{Place90, IsPlaceIn}
use Rattle.f90_grammar.specs.Surroundings.{label_digits_in, bears_label, is_wrong_label90}
use Rattle.f90_laws.proofs.printed.PhraseLevels.{decimal_digits}
use Rattle.f90_laws.proofs.printed.PrintedBlocksPlaced.{ArePlaced}
use Rattle.f90_laws.proofs.printed.PrintedBlocksPlaced.ArePlaced.{none, next}
use Rattle.f90_laws.proofs.readings.Counts.{label_values, flat_labels}
use Rattle.f90_laws.proofs.readings.Lists.{here, both_false}
use Rattle.f90_laws.proofs.unrefused.PrintedForms.{EachForm, at_each}

-- ---- labels that are printed

abbrev printed_labels : List Printed → List ℕ
printed_labels ss = flat_map (λ (s : Printed). label_values s.form) ss

labels_both : (xs ys : List Printed) → printed_labels (xs ++ ys) ≡ printed_labels xs ++ printed_labels ys
labels_both xs ys = flat_map-append (λ (s : Printed). label_values s.form) xs ys

placed_labels : (ss : List Printed) (ps : List Placed) → ArePlaced ss ps → flat_labels ps ≡ printed_labels ss
placed_labels ss ps none = refl
placed_labels ss ps (next line s h) = ap (λ ns. label_values s.form ++ ns) (placed_labels _ _ h)

label_value : (n : ℕ) → IsLabel n → label_values (forms.Continue (decimal n)) ≡ n ∷ []
label_value n h =
    let l : n < 100000 = h.1 in
    by (decimal n) (decimal_digits n (omega arith)) (decimal_is_IsNumeral_wide n (omega arith)).1
  where
    by : (digits : List ℕ) → IsDigits digits → value_of_digits digits ≡ n → label_values (forms.Continue digits) ≡ n ∷ []
    by [] g e = absurd g
    by (d ∷ digits) g e = ap (λ m. m ∷ []) e

else_labels : (o : Block) → printed_labels (printed_block o) ≡ all_labels_in o → printed_labels (printed_else o) ≡ all_labels_in o
else_labels tree.no_statements e = refl
else_labels (tree.statement c cs) e = e

module _ (ds : List Declaration) where
  mutual
    statement_labels : (c : Statement) (w : Surroundings) → IsStatement ds c w → printed_labels (printed_statement c) ≡ all_labels_of c
    statement_labels (tree.Assignment line mark left right) w h = refl
    statement_labels (tree.Where line mark mask left right) w h = refl
    statement_labels (tree.If line tree.no_arms other) w h = let q : false ≡ true = h.1 in absurd cc
    statement_labels (tree.If line (tree.arm test body more) other) w h =
        labels_both (printed_block body) (printed_arms more ++ (printed_else other ++ unmarked forms.EndIf ∷ []))
        ∙ (ap₂ (λ xs ys. xs ++ ys) (block_labels body w h.2.1)
        (labels_both (printed_arms more) (printed_else other ++ unmarked forms.EndIf ∷ [])
        ∙ ap₂ (λ xs ys. xs ++ ys) (arms_labels more w h.2.2)
        (labels_both (printed_else other) (unmarked forms.EndIf ∷ []) ∙ (append-nil (printed_labels (printed_else other)) ∙ else_labels other (block_labels other w h.3))))
        ∙ sym (append_assoc (all_labels_in body) (all_labels_in_arms more) (all_labels_in other)))
    statement_labels (tree.Do line x a b c body) w h =
        labels_both (printed_block body) (unmarked forms.EndDo ∷ []) ∙ (append-nil (printed_labels (printed_block body)) ∙ block_labels body (within_loop x w) h.5)
    statement_labels (tree.Label n) w h = ap (λ ns. ns ++ []) (label_value n h)
    statement_labels (tree.GoTo line n) w h = refl
    statement_labels (tree.Stop line) w h = refl
    statement_labels (tree.Read line tree.no_items) w h = refl
    statement_labels (tree.Read line (tree.item i is)) w h = refl
    statement_labels (tree.Print line tree.no_items) w h = refl
    statement_labels (tree.Print line (tree.item i is)) w h = refl
    statement_labels (tree.Allocate line x es) w h = refl
    statement_labels (tree.Deallocate line x) w h = refl

    arms_labels : (m : Arms) (w : Surroundings) → AreArms ds m w → printed_labels (printed_arms m) ≡ all_labels_in_arms m
    arms_labels tree.no_arms w h = refl
    arms_labels (tree.arm test body more) w h =
        labels_both (printed_block body) (printed_arms more) ∙ ap₂ (λ xs ys. xs ++ ys) (block_labels body w h.1) (arms_labels more w h.2)

    block_labels : (b : Block) (w : Surroundings) → IsBlock ds b w → printed_labels (printed_block b) ≡ all_labels_in b
    block_labels tree.no_statements w h = refl
    block_labels (tree.statement c cs) w h =
        labels_both (printed_statement c) (printed_block cs) ∙ ap₂ (λ xs ys. xs ++ ys) (statement_labels c (before_labels (labels_of cs) w) h.0) (block_labels cs w h.1)

declared_labels : (ds : List Declaration) → printed_labels (map printed_declaration ds) ≡ []
declared_labels [] = refl
declared_labels (d ∷ ds) = declared_labels ds

program_labels : (p : Program) → IsProgram90 p → printed_labels (printed_program p) ≡ all_labels_in p.body
program_labels p h =
    labels_both (map printed_declaration p.declarations) (printed_block p.body ++ unmarked forms.End ∷ [])
    ∙ (ap₂ (λ xs ys. xs ++ ys) (declared_labels p.declarations) (labels_both (printed_block p.body) (unmarked forms.End ∷ []) ∙ append-nil (printed_labels (printed_block p.body)))
    ∙ block_labels p.declarations p.body outermost h.statements)

-- ---- none is 0

abbrev HasPositiveLabel : Form90 → Type 0
HasPositiveLabel f = AllByRecursion (λ n. 0 < n) (label_values f)

positive_forms : (ds : List Declaration) → EachForm ds HasPositiveLabel
positive_forms ds = record {
  titles = λ x. tt;
  implicit = tt;
  declares = λ d h. tt;
  assigns = λ left right w h. tt;
  masks = λ mask left right w g h. tt;
  tests = λ e h. tt;
  other_tests = λ e h. tt;
  others = tt;
  ends_if = tt;
  loops = λ x a b c g h k. tt;
  ends_do = tt;
  labels = λ n h. subst (λ (ns : List ℕ). AllByRecursion (λ m. 0 < m) ns) (sym (label_value n h)) (h.0, tt);
  goes = λ n. tt;
  stops = tt;
  reads_nothing = tt;
  reads = λ i is around h l. tt;
  prints_nothing = tt;
  prints = λ i is around h l. tt;
  allocates = λ x es h. tt;
  deallocates = λ x h. tt;
  ends = tt;
}

-- ---- none stands twice

bears : (n : ℕ) (f : Form90) → bears_label n (label_digits_in f) ≡ list_any (λ m. n == m) (label_values f)
bears n (forms.Continue []) = refl
bears n (forms.Continue (d ∷ digits)) = by (n == value_of_digits (d ∷ digits))
  where
    by : (b : Bool) → b ≡ (b || false)
    by true = refl
    by false = refl
bears n f = refl

all_bear : (n : ℕ) (ps : List Placed) → list_any (λ (p : Placed). bears_label n (label_digits_in p.form)) ps ≡ list_any (λ m. n == m) (flat_labels ps)
all_bear n [] = refl
all_bear n (p ∷ ps) =
    ap₂ (λ a b. a || b) (bears n p.form) (all_bear n ps) ∙ sym (list_any-append (λ m. n == m) (label_values p.form) (flat_labels ps))

apart : (n : ℕ) (xs ys : List ℕ) → IsWithoutRepeats (xs ++ n ∷ ys) → list_any (λ m. n == m) xs ≡ false
apart n [] ys h = refl
apart n (x ∷ xs) ys h =
    both_false (n == x) (list_any (λ m. n == m) xs)
    (ne_eqb n x (λ e. h.0 (subst (λ (m : ℕ). Contains (xs ++ n ∷ ys) m) e (Contains-append_right xs (n ∷ ys) n (here n ys))))) (apart n xs ys h.1)

right_label : (before : List Placed) (digits : List ℕ) (more : List ℕ) → IsWithoutRepeats (flat_labels before ++ (label_values (forms.Continue digits) ++ more))
    → AllByRecursion (λ n. 0 < n) (label_values (forms.Continue digits)) → is_wrong_label90 before digits ≡ false
right_label before [] more h g = refl
right_label before (d ∷ digits) more h g =
    let n = value_of_digits (d ∷ digits) in
    let positive : 0 < n = g.0 in
    both_false (n == 0) _ (ne_eqb n 0 (λ e. omega arith)) (all_bear n before ∙ apart n (flat_labels before) more h)

wrong_label : (before : List Placed) (f : Form90) (more : List ℕ) → IsWithoutRepeats (flat_labels before ++ (label_values f ++ more))
    → HasPositiveLabel f → is_wrong_label90 before (label_digits_in f) ≡ false
wrong_label before (forms.Continue digits) more h g = right_label before digits more h g
wrong_label before f more h g = refl

pub labels_right : (p : Program) → IsProgram90 p → (ps : List Placed) → ArePlaced (printed_program p) ps → (place : Place90) → IsPlaceIn ps place
    → is_wrong_label90 place.before (label_digits_in place.here.form) ≡ false
labels_right p h ps q place e =
    let same : flat_labels ps ≡ all_labels_in p.body = placed_labels (printed_program p) ps q ∙ program_labels p h in
    let parts : flat_labels ps ≡ flat_labels place.before ++ (label_values place.here.form ++ flat_labels place.after) =
    ap flat_labels e ∙ flat_map-append (λ (s : Placed). label_values s.form) place.before (place.here ∷ place.after) in
    wrong_label place.before place.here.form (flat_labels place.after) (subst IsWithoutRepeats (sym same ∙ parts) h.labels)
    (at_each HasPositiveLabel p h ps q (positive_forms p.declarations) place e)
