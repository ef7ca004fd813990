-- The statement at an index that was found.
use Rattle.std.proofs.Common.{◌≡◌, ℕ, suc, ◌+◌, ◌<◌, ◌≤◌, Bool, true, false, cond, Option, None, Some, List, [], ◌∷◌, ◌++◌, reverse, length, get_or, refl, sym, ap, ◌∙◌, arith, append_assoc, length-append}
use Rattle.std.specs.Option.{option_map}
use Rattle.std.specs.List.{find}
use Rattle.std.proofs.Math.ListN.{get_or-map}
use Rattle.std.proofs.lemmas.List.{reverse-append, length-map, length-reverse, get_or_at}
use Rattle.f77_grammar.specs.Statement77.{Labelled}
use Rattle.f77_grammar.specs.program.Text.{Place77, places, places_from}
use Rattle.f77_grammar.specs.declared.syntax.statements.Labelled.{Labelled as Labelled'}
use Rattle.f77_grammar.specs.syntax.Views.{labelled_of, text_of}
use Rattle.f77_grammar.specs.syntax.First.{first_line, first_index, index_from}

abbrev pub index_of : Place77 → ℕ
index_of p = length p.before

abbrev pub line_of : Place77 → ℕ
line_of p = p.here.line

index_step : (b : Bool) (i : ℕ) (o : Option ℕ) (p : Place77) (f : Option Place77) → i ≡ index_of p → o ≡ option_map index_of f
    → cond b (Some i) o ≡ option_map index_of (cond b (Some p) f)
index_step true i o p f e g = ap (λ n. Some n) e
index_step false i o p f e g = g

-- the index of a place is the number of the statements before it
pub index_is : (test : Place77 → Bool) (before xs : List Labelled) → index_from test (length before) (places_from before xs) ≡ option_map index_of (find test (places_from before xs))
index_is test before [] = refl
index_is test before (x ∷ xs) =
    index_step (test (record { before = before; here = x; after = xs })) (length before) (index_from test (suc (length before)) (places_from (x ∷ before) xs))
    (record { before = before; here = x; after = xs }) (find test (places_from (x ∷ before) xs)) refl (index_is test (x ∷ before) xs)

pub first_index-place : (test : Place77 → Bool) (text : List Labelled) → first_index test text ≡ option_map index_of (find test (places text))
first_index-place test text = index_is test [] text

-- ---- where a place stands

abbrev pub whole : Place77 → List Labelled
whole p = reverse p.before ++ p.here ∷ p.after

abbrev pub placed : List Labelled → Labelled → List Labelled → Place77
placed before x xs = record { before = before; here = x; after = xs }

some_same : (p q : Place77) → Some p ≡ Some q → p ≡ q
some_same p q h = cc

whole_step : (b : Bool) (p q : Place77) (f : Option Place77) → cond b (Some p) f ≡ Some q → (f ≡ Some q → whole p ≡ whole q) → whole p ≡ whole q
whole_step true p q f h ih = ap whole (some_same p q h)
whole_step false p q f h ih = ih h

next_whole : (before : List Labelled) (x : Labelled) (xs : List Labelled) → reverse (x ∷ before) ++ xs ≡ whole (placed before x xs)
next_whole before x xs = ap (λ front. front ++ xs) (reverse-append (x ∷ []) before) ∙ append_assoc (reverse before) (x ∷ []) xs

pub found_at : (test : Place77 → Bool) (before xs : List Labelled) (q : Place77) → find test (places_from before xs) ≡ Some q → reverse before ++ xs ≡ whole q
found_at test before [] q h = absurd (let no : None ≡ Some q = h in cc)
found_at test before (x ∷ xs) q h =
    whole_step (test (placed before x xs)) (placed before x xs) q (find test (places_from (x ∷ before) xs)) h
    (λ e. sym (next_whole before x xs) ∙ found_at test (x ∷ before) xs q e)

-- ---- statements of the code

length_of_text : (xs : List Labelled') → length (text_of xs) ≡ length xs
length_of_text xs = length-map xs labelled_of

-- the index of a place that was found is within the text
pub index_within : (test : Place77 → Bool) (xs : List Labelled') (q : Place77) → find test (places (text_of xs)) ≡ Some q → index_of q < length xs
index_within test xs q h =
    let all : text_of xs ≡ whole q = found_at test [] (text_of xs) q h in
    let n : length (text_of xs) ≡ length (reverse q.before) + length (q.here ∷ q.after) = ap length all ∙ length-append (reverse q.before) (q.here ∷ q.after) in
    omega (arith, n, length_of_text xs, length-reverse q.before)

-- and its statement stands there
pub statement_at : (test : Place77 → Bool) (xs : List Labelled') (q : Place77) (x : Labelled') → find test (places (text_of xs)) ≡ Some q
    → x ≡ get_or xs (index_of q) x → labelled_of x ≡ q.here
statement_at test xs q x h e =
    let all : text_of xs ≡ whole q = found_at test [] (text_of xs) q h in
    ap labelled_of e ∙ sym (get_or-map labelled_of xs (index_of q) x) ∙ ap (λ ys. get_or ys (index_of q) (labelled_of x)) all
    ∙ get_or_at (reverse q.before) q.here q.after (labelled_of x) (index_of q) (length-reverse q.before)

-- ---- the line at an index

none_by : (o : Option Place77) → None ≡ option_map index_of o → None ≡ option_map line_of o
none_by None h = refl
none_by (Some p) h = absurd (let no : None ≡ Some (index_of p) = h in cc)

pub line_of_none : (test : Place77 → Bool) (xs : List Labelled') → None ≡ first_index test (text_of xs) → None ≡ first_line test (text_of xs)
line_of_none test xs h = none_by (find test (places (text_of xs))) (h ∙ first_index-place test (text_of xs))

some_by : (test : Place77 → Bool) (xs : List Labelled') (i : ℕ) (x : Labelled') (o : Option Place77) → find test (places (text_of xs)) ≡ o
    → Some i ≡ option_map index_of o → x ≡ get_or xs i x → Some x.line ≡ option_map line_of o
some_by test xs i x None f h e = absurd (let no : Some i ≡ None = h in cc)
some_by test xs i x (Some q) f h e =
    let same : i ≡ index_of q = cc in
    ap (λ (y : Labelled). Some y.line) (statement_at test xs q x f (e ∙ ap (λ k. get_or xs k x) same))

pub line_of_index : (test : Place77 → Bool) (xs : List Labelled') (i : ℕ) (x : Labelled') → x ≡ get_or xs i x → Some i ≡ first_index test (text_of xs) → Some x.line ≡ first_line test (text_of xs)
line_of_index test xs i x e h = some_by test xs i x (find test (places (text_of xs))) refl (h ∙ first_index-place test (text_of xs)) e

beyond_by : (test : Place77 → Bool) (xs : List Labelled') (i : ℕ) (o : Option Place77) → find test (places (text_of xs)) ≡ o
    → Some i ≡ option_map index_of o → length xs ≤ i → ⊥
beyond_by test xs i None f h e = let no : Some i ≡ None = h in cc
beyond_by test xs i (Some q) f h e = let same : i ≡ index_of q = cc in omega (arith, index_within test xs q f, same, e)

pub no_line_beyond : (test : Place77 → Bool) (xs : List Labelled') (i : ℕ) → length xs ≤ i → Some i ≡ first_index test (text_of xs) → None ≡ first_line test (text_of xs)
no_line_beyond test xs i e h = absurd (beyond_by test xs i (find test (places (text_of xs))) refl (h ∙ first_index-place test (text_of xs)) e)

pub ruleset line_laws = (line_of_none, line_of_index, no_line_beyond)
