-- Block IFs without an END IF, looked for from the last statement back.
use Rattle.std.proofs.Common.{◌≡◌, ℕ, zero, suc, pred, ◌+◌, ◌<◌, ◌≤◌, ◌==◌, nat_lt, Bool, true, false, not, cond, Option, Some, None, List, [], ◌∷◌, length, get_or, drop, refl, sym, ap, ◌∙◌, add-one, arith}
use Rattle.std.proofs.lemmas.List.{drop_all}
use Rattle.std.proofs.lemmas.Bool.Decides.{nat_tests}
use Rattle.f77_grammar.specs.Statement77.{Labelled, Statement77, If, EndIf}
use Rattle.f77_grammar.specs.program.Text.{Place77, places_from}
use Rattle.f77_grammar.specs.program.Nesting.{ends_here, has_end_if77, stays_open77, is_left_open}
use Rattle.f77_structure.specs.declared.forms.Form.{Form}
use Rattle.f77_structure.specs.declared.forms.Form.TheVariants as forms
use Rattle.f77_grammar.specs.declared.syntax.statements.Labelled.{Labelled as Labelled'}
use Rattle.f77_grammar.specs.syntax.First.{index_from}
use Rattle.f77_structure.specs.Forms.{form_of, pending_with, pending, lacks_end_if}
use Rattle.f77_grammar.specs.syntax.Views.{labelled_of, text_of, statement_of}
use Rattle.f77_grammar.specs.syntax.Walk.{passed, place_at}
use Rattle.f77_grammar.proofs.syntax.Walks.{text_passed, text_left, text_through}

-- ---- a block IF has its END IF among statements exactly where one is left for it

abbrev HasAsCounted : List Labelled → ℕ → Type 0
HasAsCounted xs n = has_end_if77 xs n ≡ nat_lt n (pending xs)

one_less : (n k : ℕ) → nat_lt (suc n) k ≡ nat_lt n (pred k)
one_less n zero = grind (arith, nat_tests)
one_less n (suc k) = grind (arith, nat_tests)

has_step : (s : Statement77) (xs : List Labelled) (n : ℕ) → ((k : ℕ) → HasAsCounted xs k) → ends_here s (has_end_if77 xs) n ≡ nat_lt n (pending_with (form_of s) (pending xs))
has_step EndIf xs zero ih = some (pending xs)
  where
    some : (k : ℕ) → true ≡ nat_lt 0 (suc k)
    some k = grind (arith, nat_tests)
has_step EndIf xs (suc n) ih = ih n ∙ both n (pending xs)
  where
    both : (n k : ℕ) → nat_lt n k ≡ nat_lt (suc n) (suc k)
    both n k = grind (arith, nat_tests)
has_step (If c) xs n ih = ih (suc n) ∙ one_less n (pending xs)
has_step s xs n ih = ih n

has_as_counted : (xs : List Labelled) (n : ℕ) → HasAsCounted xs n
has_as_counted [] n = none n
  where
    none : (n : ℕ) → false ≡ nat_lt n 0
    none n = grind (arith, nat_tests)
has_as_counted (x ∷ xs) n = has_step x.statement xs n (has_as_counted xs)

nothing_left : (k : ℕ) → not (nat_lt 0 k) ≡ (k == 0)
nothing_left k = grind (arith, nat_tests)

open_as_counted : (s : Statement77) (p : Place77) → stays_open77 s p ≡ lacks_end_if (form_of s) (pending p.after)
open_as_counted (If c) p = ap not (has_as_counted p.after 0) ∙ nothing_left (pending p.after)
open_as_counted s p = refl

-- ---- one statement further back

pub found_back : (test : Place77 → Bool) (xs : List Labelled') (i : ℕ) (x : Labelled') (later : Option ℕ) → i < length xs → x ≡ get_or xs i x
    → later ≡ index_from test (i + 1) (places_from (passed (text_of xs) (i + 1)) (drop (i + 1) (text_of xs)))
    → cond (test (place_at (text_of xs) i (labelled_of x))) (Some i) later ≡ index_from test i (places_from (passed (text_of xs) i) (drop i (text_of xs)))
found_back test xs i x later h e g =
    ap (cond (test (place_at (text_of xs) i (labelled_of x))) (Some i))
    (g ∙ ap (λ before. index_from test (i + 1) (places_from before (drop (i + 1) (text_of xs)))) (text_passed xs i x h e)
    ∙ ap (λ j. index_from test j (places_from (labelled_of x ∷ passed (text_of xs) i) (drop (i + 1) (text_of xs)))) (add-one i))
    ∙ sym (ap (λ rest. index_from test i (places_from (passed (text_of xs) i) rest)) (text_left xs i x h e))

pub pending_back : (xs : List Labelled') (i : ℕ) (x : Labelled') (n : ℕ) → i < length xs → x ≡ get_or xs i x → n ≡ pending (drop (i + 1) (text_of xs))
    → pending_with (form_of (statement_of x.statement)) n ≡ pending (drop i (text_of xs))
pending_back xs i x n h e g = ap (pending_with (form_of (statement_of x.statement))) g ∙ sym (ap pending (text_left xs i x h e))

pub open_back : (xs : List Labelled') (i : ℕ) (x : Labelled') (n : ℕ) → n ≡ pending (drop (i + 1) (text_of xs))
    → lacks_end_if (form_of (statement_of x.statement)) n ≡ is_left_open (place_at (text_of xs) i (labelled_of x))
open_back xs i x n g =
    ap (lacks_end_if (form_of (statement_of x.statement))) g ∙ sym (open_as_counted (statement_of x.statement) (place_at (text_of xs) i (labelled_of x)))

pub pending_more : (f : Form) (n : ℕ) → pending_with f n ≤ n + 1
pending_more forms.EndIf n = omega arith
pending_more forms.If zero = omega arith
pending_more forms.If (suc n) = omega arith
pending_more f n = omega arith

pub none_begun : (test : Place77 → Bool) (xs : List Labelled') (i : ℕ) → length xs ≤ i → None ≡ index_from test i (places_from (passed (text_of xs) i) (drop i (text_of xs)))
none_begun test xs i h = sym (ap (λ rest. index_from test i (places_from (passed (text_of xs) i) rest)) (drop_all i (text_of xs) (text_through xs i h)))
