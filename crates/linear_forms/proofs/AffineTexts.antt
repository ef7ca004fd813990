-- The text of an affine form is the canonical text of the form.
use Rattle.std.proofs.Common.{◌≡◌, refl, sym, ap, ◌∙◌, ℕ, zero, suc, ◌+◌, ◌-◌, ℤ, pos, Bool, true, false, cond, List, [], ◌∷◌, ◌++◌, take, drop, length, get_or, replicate, Ok, Option, Some, None, arith}
use Rattle.std.specs.Prelude.{slice_get}
use Rattle.std.specs.Ordering.{int_eq}
use Rattle.std.proofs.lemmas.Bool.Decides.{Decides-int_eq}
use mathlib.Core.Path.{ap₂}
use Rattle.tree.specs.Plain.{Expression}
use Rattle.tree.specs.Steps.{◌>>=◌}
use Rattle.meaning.specs.Dialect.{Dialect}
use Rattle.meaning.specs.Store.{Store, cell_in}
use Rattle.meaning.specs.Value.{value_of}
use Rattle.linear_forms.specs.Laws.{AreSized, EachHasValue, AffineHasText, AffineTextHasValue}
use Rattle.linear_forms.specs.Linear.{HaveValues}
use Rattle.linear_forms.specs.Expressed.{with_term, with_terms, with_constant, variable, variables}
use Rattle.linear_forms.specs.Places.{terms_from}
use Rattle.linear_forms.specs.Texts.{with_place, with_symbols, places_behind}
use Rattle.linear_forms.proofs.Expressed.{text_has_value}
use Rattle.linear_forms.proofs.TextLaws.{term_zero}

-- coefficients past the end are 0, and leave no term
pub places_alike : (o : Option Expression) (cs ds : List ℤ) (ts : List Expression) → ((k : ℕ) → get_or cs k (pos 0) ≡ get_or ds k (pos 0)) → with_terms o cs ts ≡ with_terms o ds ts
places_alike o [] [] ts h = refl
places_alike o [] (d ∷ ds) [] h = refl
places_alike o (c ∷ cs) [] [] h = refl
places_alike o (c ∷ cs) (d ∷ ds) [] h = refl
places_alike o [] (d ∷ ds) (t ∷ ts) h = places_alike o [] ds ts (λ k. h (suc k)) ∙ sym (ap (λ p. with_terms p ds ts) (term_zero o d t (sym (h zero))))
places_alike o (c ∷ cs) [] (t ∷ ts) h = ap (λ p. with_terms p cs ts) (term_zero o c t (h zero)) ∙ places_alike o cs [] ts (λ k. h (suc k))
places_alike o (c ∷ cs) (d ∷ ds) (t ∷ ts) h = ap (λ c. with_terms (with_term o c t) cs ts) (h zero) ∙ places_alike (with_term o d t) cs ds ts (λ k. h (suc k))

-- first the loops, then the symbols
loops_first : (o : Option Expression) (cs : List ℤ) (loops symbols : List (List ℕ)) (trips : List Expression)
    → with_terms o cs (variables (loops ++ symbols) ++ trips) ≡ with_terms (with_terms o (take (length loops) cs) (variables loops)) (drop (length loops) cs) (places_behind symbols trips)
loops_first o cs [] symbols trips = refl
loops_first o [] (x ∷ loops) symbols trips = refl
loops_first o (c ∷ cs) (x ∷ loops) symbols trips = loops_first (with_term o c (variable x)) cs loops symbols trips

-- ---- symbols

zero_placed : (o : Option Expression) (x : Option Expression) → with_place o (pos 0) x ≡ o
zero_placed o None = refl
zero_placed o (Some x) = refl

unused_left : (o : Option Expression) (n : ℕ) (terms : List Expression) → with_symbols o (replicate n (0, pos 0)) terms ≡ o
unused_left o zero terms = refl
unused_left o (suc n) terms = ap (λ p. with_symbols p (replicate n (0, pos 0)) terms) (zero_placed o (slice_get terms 0)) ∙ unused_left o n terms

first_symbol : (o : Option Expression) (k : ℕ) (d : ℤ) (ds : List ℤ) (rest : List (ℕ × ℤ)) (terms : List Expression)
    → with_symbols o (terms_from k (d ∷ ds) ++ rest) terms ≡ with_symbols (with_place o d (slice_get terms k)) (terms_from (suc k) ds ++ rest) terms
first_symbol o k d ds rest terms = by (int_eq d (pos 0)) refl
  where
    by : (b : Bool) → int_eq d (pos 0) ≡ b
        → with_symbols o (cond b (terms_from (suc k) ds) ((k, d) ∷ terms_from (suc k) ds) ++ rest) terms ≡ with_symbols (with_place o d (slice_get terms k)) (terms_from (suc k) ds ++ rest) terms
    by true e =
        let left : with_place o d (slice_get terms k) ≡ o = ap (λ c. with_place o c (slice_get terms k)) ((Decides-int_eq d (pos 0)).0 e) ∙ zero_placed o (slice_get terms k) in
        ap (λ p. with_symbols p (terms_from (suc k) ds ++ rest) terms) (sym left)
    by false e = refl

-- the terms from the place k on
symbols_are : (o : Option Expression) (k n : ℕ) (ds : List ℤ) (all terms : List Expression) → ((i : ℕ) → slice_get all (k + i) ≡ slice_get terms i)
    → with_symbols o (terms_from k ds ++ replicate n (0, pos 0)) all ≡ with_terms o ds terms
symbols_are o k n [] all terms h = unused_left o n all
symbols_are o k n (d ∷ ds) all [] h =
    let here : slice_get all k ≡ None = let same : k ≡ k + 0 = omega arith in ap (slice_get all) same ∙ h 0 in
    first_symbol o k d ds (replicate n (0, pos 0)) all
    ∙ (ap (λ x. with_symbols (with_place o d x) (terms_from (suc k) ds ++ replicate n (0, pos 0)) all) here
    ∙ (symbols_are o (suc k) n ds all [] (λ i. let same : suc k + i ≡ k + suc i = omega arith in ap (slice_get all) same ∙ h (suc i)) ∙ no_names ds))
  where
    no_names : (ds : List ℤ) → with_terms o ds [] ≡ o
    no_names [] = refl
    no_names (d ∷ ds) = refl
symbols_are o k n (d ∷ ds) all (x ∷ terms) h =
    let here : slice_get all k ≡ Some x = let same : k ≡ k + 0 = omega arith in ap (slice_get all) same ∙ h 0 in
    first_symbol o k d ds (replicate n (0, pos 0)) all
    ∙ (ap (λ x. with_symbols (with_place o d x) (terms_from (suc k) ds ++ replicate n (0, pos 0)) all) here
    ∙ symbols_are (with_place o d (Some x)) (suc k) n ds all terms (λ i. let same : suc k + i ≡ k + suc i = omega arith in ap (slice_get all) same ∙ h (suc i)))

-- ---- the text, and its value

pub affine_has_text : AffineHasText
affine_has_text loops symbols trips f a h =
    let n = length loops in
    let behind = places_behind symbols trips in
    let front : with_terms None a.loops (variables loops) ≡ with_terms None (take n f.coefficients) (variables loops) = places_alike None a.loops (take n f.coefficients) (variables loops) h.loops in
    let so_far : Option Expression = with_terms None (take n f.coefficients) (variables loops) in
    let rest : with_symbols so_far a.syms behind ≡ with_terms so_far (drop n f.coefficients) behind =
    ap (λ l. with_symbols so_far l behind) h.symbols
    ∙ symbols_are so_far 0 (8 - length (terms_from 0 (drop n f.coefficients))) (drop n f.coefficients) behind behind (λ i. let same : 0 + i ≡ i = omega arith in ap (slice_get behind) same) in
    ap₂ with_constant (ap (λ p. with_symbols p a.syms behind) front ∙ (rest ∙ sym (loops_first None f.coefficients loops symbols trips))) h.constant

pub names_have_values : (lang : Dialect) (names : List (List ℕ)) (s : Store) (xs : List ℤ) → HaveValues names s xs → EachHasValue lang (variables names) s xs
names_have_values lang [] s [] h = tt
names_have_values lang (y ∷ ys) s (x ∷ xs) h = (ap (λ b. do c ← cell_in b y []; Ok (s.held c)) h.0 ∙ ap Ok h.1, names_have_values lang ys s xs h.2)
names_have_values lang [] s (x ∷ xs) h = absurd h
names_have_values lang (y ∷ ys) s [] h = absurd h

both_have_values : (lang : Dialect) (ts us : List Expression) (s : Store) (xs ys : List ℤ) → EachHasValue lang ts s xs → EachHasValue lang us s ys → EachHasValue lang (ts ++ us) s (xs ++ ys)
both_have_values lang [] us s [] ys h k = k
both_have_values lang (t ∷ ts) us s (x ∷ xs) ys h k = (h.0, both_have_values lang ts us s xs ys h.1 k)
both_have_values lang [] us s (x ∷ xs) ys h k = absurd h
both_have_values lang (t ∷ ts) us s [] ys h k = absurd h

both_sized : (xs ys : List ℤ) → AreSized xs → AreSized ys → AreSized (xs ++ ys)
both_sized [] ys h k = k
both_sized (x ∷ xs) ys h k = (h.0, both_sized xs ys h.1 k)

pub affine_text_has_value : AffineTextHasValue
affine_text_has_value lang loops symbols trips f a s xs ys few limits h values trip_values sized trips_sized =
    ap (λ e. value_of lang e s) (affine_has_text loops symbols trips f a h)
    ∙ text_has_value lang (length loops) (variables (loops ++ symbols) ++ trips) f s (xs ++ ys) few limits
    (both_have_values lang (variables (loops ++ symbols)) trips s xs ys (names_have_values lang (loops ++ symbols) s xs values) trip_values)
    (both_sized xs ys sized trips_sized)
