-- Labels that have been passed, and what is asked of a label.
use Rattle.std.proofs.Common.{◌≡◌, ℕ, ◌+◌, ◌<◌, ◌≤◌, ◌==◌, Bool, true, false, not, ◌||◌, Option, Some, None, List, [], ◌∷◌, reverse, length, get_or, refl, sym, ap, ◌∙◌}
use Rattle.std.specs.List.{list_any}
use Rattle.std.proofs.lemmas.List.Folds.{list_any-append}
use Rattle.std.proofs.lemmas.Grind.{reverse_onto}
use Rattle.f77_grammar.specs.Statement77.{Labelled}
use Rattle.f77_grammar.specs.program.Text.{label_stands_in, is_label, bears, action}
use Rattle.f77_grammar.specs.program.Labels.{is_wrong_label77, is_unknown, has_wrong_label}
use Rattle.f77_structure.specs.declared.labels.Labels.{Labels}
use Rattle.f77_grammar.specs.declared.syntax.statements.Labelled.{Labelled as Labelled'}
use Rattle.f77_structure.specs.Forms.{form_of, label_in}
use Rattle.f77_structure.specs.Labels.{has, is_refused, same_truth}
use Rattle.f77_grammar.specs.syntax.Views.{labelled_of, text_of, statement_of}
use Rattle.f77_grammar.specs.syntax.Walk.{passed, place_at}
use Rattle.f77_grammar.proofs.syntax.Walks.{text_passed, all_passed}
use Rattle.f77_structure.proofs.ByForm.{label_named-form}

or_false : (b : Bool) → (b || false) ≡ b
or_false true = refl
or_false false = refl

or_swap : (a b : Bool) → (a || b) ≡ (b || a)
or_swap true true = refl
or_swap true false = refl
or_swap false true = refl
or_swap false false = refl

pub any_reversed : (test : Labelled → Bool) (xs : List Labelled) → list_any test (reverse xs) ≡ list_any test xs
any_reversed test [] = refl
any_reversed test (x ∷ xs) =
    ap (list_any test) (reverse_onto xs x [])
    ∙ list_any-append test (reverse xs) (x ∷ [])
    ∙ ap (λ b. list_any test (reverse xs) || b) (or_false (test x))
    ∙ or_swap (list_any test (reverse xs)) (test x)
    ∙ ap (λ b. test x || b) (any_reversed test xs)

-- the labels of the statements passed, with one more
pub labels_more : (has' has'' : ℕ → Bool) (xs : List Labelled') (i : ℕ) (x : Labelled') → i < length xs → x ≡ get_or xs i x
    → ((n : ℕ) → has' n ≡ label_stands_in (passed (text_of xs) i) n) → ((n : ℕ) → has'' n ≡ (is_label n x.label || has' n))
    → (n : ℕ) → has'' n ≡ label_stands_in (passed (text_of xs) (i + 1)) n
labels_more has' has'' xs i x h e old new n =
    new n ∙ ap (λ b. is_label n x.label || b) (old n) ∙ sym (ap (λ before. label_stands_in before n) (text_passed xs i x h e))

pub labels_all : (has' : ℕ → Bool) (xs : List Labelled') (i : ℕ) → length xs ≤ i
    → ((n : ℕ) → has' n ≡ label_stands_in (passed (text_of xs) i) n) → (n : ℕ) → has' n ≡ label_stands_in (text_of xs) n
labels_all has' xs i h old n = old n ∙ ap (λ before. label_stands_in before n) (all_passed xs i h) ∙ any_reversed (bears n) (text_of xs)

same_true : (b : Bool) → same_truth b true ≡ b
same_true true = refl
same_true false = refl

same_false : (b : Bool) → same_truth b false ≡ not b
same_false true = refl
same_false false = refl

wrong_in : (labels : Labels) (before : List Labelled) → ((n : ℕ) → has labels n ≡ label_stands_in before n) → (label : Option ℕ) → is_refused labels true label ≡ is_wrong_label77 before label
wrong_in labels before e None = refl
wrong_in labels before e (Some n) = ap (λ b. n == 0 || b) (same_true (has labels n) ∙ e n)

unknown_in : (labels : Labels) (text : List Labelled) → ((n : ℕ) → has labels n ≡ label_stands_in text n) → (label : Option ℕ) → is_refused labels false label ≡ is_unknown text label
unknown_in labels text e None = refl
unknown_in labels text e (Some n) = ap (λ b. n == 0 || b) (same_false (has labels n) ∙ ap not (e n))

-- what the two sets say of a statement is what its place says
pub wrong_at : (all earlier : Labels) (xs : List Labelled') (i : ℕ) (x : Labelled')
    → ((n : ℕ) → has all n ≡ label_stands_in (text_of xs) n) → ((n : ℕ) → has earlier n ≡ label_stands_in (passed (text_of xs) i) n)
    → (is_refused earlier true x.label || is_refused all false (label_in (form_of (action (statement_of x.statement)))))
    ≡ has_wrong_label (text_of xs) (place_at (text_of xs) i (labelled_of x))
wrong_at all earlier xs i x e f =
    ap (λ b. b || is_refused all false (label_in (form_of (action (statement_of x.statement))))) (wrong_in earlier (passed (text_of xs) i) f x.label)
    ∙ ap (λ b. is_wrong_label77 (passed (text_of xs) i) x.label || b)
    (unknown_in all (text_of xs) e (label_in (form_of (action (statement_of x.statement))))
    ∙ sym (ap (is_unknown (text_of xs)) (label_named-form (action (statement_of x.statement)))))
