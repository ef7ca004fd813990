-- Walks through the statements of a program.
use Rattle.std.proofs.Common.{◌≡◌, ℕ, suc, ◌+◌, ◌-◌, ◌<◌, ◌≤◌, ◌==◌, Bool, true, false, cond, Some, None, List, [], ◌∷◌, ◌++◌, reverse, take, drop, take_all, length, get_or, refl, sym, ap, ◌∙◌, arith, add-one}
use Rattle.std.proofs.Math.ListN.{get_or-map}
use Rattle.std.proofs.Math.Seq.{take-suc, drop-cons}
use Rattle.std.proofs.lemmas.List.{reverse-append, drop_all, length-map, length-reverse, length-take-le, length-drop}
use Rattle.std.proofs.lemmas.Bool.Decides.{nat_tests}
use Rattle.f77_grammar.specs.Statement77.{Labelled}
use Rattle.f77_grammar.specs.program.Text.{Place77, places_from}
use Rattle.f77_grammar.specs.program.Order.{is_nothing77}
use Rattle.f77_grammar.specs.declared.syntax.statements.Labelled.{Labelled as Labelled'}
use Rattle.f77_grammar.specs.syntax.Views.{labelled_of, text_of}
use Rattle.f77_grammar.specs.syntax.First.{first_index, index_from}
use Rattle.f77_grammar.specs.syntax.Walk.{passed, place_at, IsSearched}

-- one statement more has been passed
pub passed_more : (text : List Labelled) (i : ℕ) (x : Labelled) → i < length text → get_or text i x ≡ x → passed text (i + 1) ≡ x ∷ passed text i
passed_more text i x h e =
    let more : take (i + 1) text ≡ take i text ++ x ∷ [] = rw (add-one, take-suc text i x h, e) refl in
    ap reverse more ∙ reverse-append (take i text) (x ∷ [])

pub left_at : (text : List Labelled) (i : ℕ) (x : Labelled) → i < length text → get_or text i x ≡ x → drop i text ≡ x ∷ drop (i + 1) text
left_at text i x h e = rw (add-one, drop-cons text i x h, e) refl

-- ---- statements of the code

pub text_within : (xs : List Labelled') (i : ℕ) → i < length xs → i < length (text_of xs)
text_within xs i h = rw (length-map xs labelled_of) h

pub text_at : (xs : List Labelled') (i : ℕ) (x : Labelled') → i < length xs → x ≡ get_or xs i x → get_or (text_of xs) i (labelled_of x) ≡ labelled_of x
text_at xs i x h e = get_or-map labelled_of xs i x ∙ ap labelled_of (sym e)

pub text_through : (xs : List Labelled') (i : ℕ) → length xs ≤ i → length (text_of xs) ≤ i
text_through xs i h = rw (length-map xs labelled_of) h

pub text_passed : (xs : List Labelled') (i : ℕ) (x : Labelled') → i < length xs → x ≡ get_or xs i x → passed (text_of xs) (i + 1) ≡ labelled_of x ∷ passed (text_of xs) i
text_passed xs i x h e = passed_more (text_of xs) i (labelled_of x) (text_within xs i h) (text_at xs i x h e)

pub text_left : (xs : List Labelled') (i : ℕ) (x : Labelled') → i < length xs → x ≡ get_or xs i x → drop i (text_of xs) ≡ labelled_of x ∷ drop (i + 1) (text_of xs)
text_left xs i x h e = left_at (text_of xs) i (labelled_of x) (text_within xs i h) (text_at xs i x h e)

pub all_passed : (xs : List Labelled') (i : ℕ) → length xs ≤ i → passed (text_of xs) i ≡ reverse (text_of xs)
all_passed xs i h = ap reverse (take_all i (text_of xs) (text_through xs i h))

-- ---- an index that is looked for

index_at : (test : Place77 → Bool) (xs : List Labelled') (i : ℕ) (x : Labelled') → i < length xs → x ≡ get_or xs i x
    → index_from test i (places_from (passed (text_of xs) i) (drop i (text_of xs)))
    ≡ index_from test i (place_at (text_of xs) i (labelled_of x) ∷ places_from (labelled_of x ∷ passed (text_of xs) i) (drop (i + 1) (text_of xs)))
index_at test xs i x h e = ap (λ rest. index_from test i (places_from (passed (text_of xs) i) rest)) (left_at (text_of xs) i (labelled_of x) (text_within xs i h) (text_at xs i x h e))

pub search_goes_on : (test : Place77 → Bool) (xs : List Labelled') (i : ℕ) (x : Labelled') → i < length xs → x ≡ get_or xs i x
    → test (place_at (text_of xs) i (labelled_of x)) ≡ false → IsSearched test (text_of xs) i → IsSearched test (text_of xs) (i + 1)
search_goes_on test xs i x h e wrong searched =
    searched ∙ index_at test xs i x h e
    ∙ ap (λ b. cond b (Some i) (index_from test (suc i) (places_from (labelled_of x ∷ passed (text_of xs) i) (drop (i + 1) (text_of xs))))) wrong
    ∙ ap (λ j. index_from test j (places_from (labelled_of x ∷ passed (text_of xs) i) (drop (i + 1) (text_of xs)))) (sym (add-one i))
    ∙ ap (λ before. index_from test (i + 1) (places_from before (drop (i + 1) (text_of xs)))) (sym (text_passed xs i x h e))

pub search_stops_at : (test : Place77 → Bool) (xs : List Labelled') (i : ℕ) (x : Labelled') → i < length xs → x ≡ get_or xs i x
    → test (place_at (text_of xs) i (labelled_of x)) ≡ true → IsSearched test (text_of xs) i → Some i ≡ first_index test (text_of xs)
search_stops_at test xs i x h e wrong searched =
    sym (searched ∙ index_at test xs i x h e
    ∙ ap (λ b. cond b (Some i) (index_from test (suc i) (places_from (labelled_of x ∷ passed (text_of xs) i) (drop (i + 1) (text_of xs))))) wrong)

pub search_ends : (test : Place77 → Bool) (xs : List Labelled') (i : ℕ) → length xs ≤ i → IsSearched test (text_of xs) i → None ≡ first_index test (text_of xs)
search_ends test xs i h searched =
    sym (searched ∙ ap (λ rest. index_from test i (places_from (passed (text_of xs) i) rest)) (drop_all i (text_of xs) (text_through xs i h)))

-- ---- the first and the last statement

nothing_is : (xs : List Labelled) → is_nothing77 xs ≡ (length xs == 0)
nothing_is [] = refl
nothing_is (x ∷ xs) = grind (arith, nat_tests)

pub passed_length : (xs : List Labelled') (i : ℕ) → i < length xs → length (passed (text_of xs) i) ≡ i
passed_length xs i h = length-reverse (take i (text_of xs)) ∙ length-take-le i (text_of xs) (omega (arith, text_within xs i h))

pub first_at : (xs : List Labelled') (i : ℕ) → i < length xs → (i == 0) ≡ is_nothing77 (passed (text_of xs) i)
first_at xs i h =
    sym (nothing_is (passed (text_of xs) i) ∙ ap (λ k. k == 0) (passed_length xs i h))

pub last_at : (xs : List Labelled') (i : ℕ) → i < length xs → (i + 1 == length xs) ≡ is_nothing77 (drop (i + 1) (text_of xs))
last_at xs i h =
    let left : length (drop (i + 1) (text_of xs)) ≡ length xs - (i + 1) = length-drop (i + 1) (text_of xs) ∙ ap (λ n. n - (i + 1)) (length-map xs labelled_of) in
    last_of (length xs) i h ∙ sym (nothing_is (drop (i + 1) (text_of xs)) ∙ ap (λ k. k == 0) left)
  where
    last_of : (n i : ℕ) → i < n → (i + 1 == n) ≡ (n - (i + 1) == 0)
    last_of n i h = grind (arith, nat_tests)
