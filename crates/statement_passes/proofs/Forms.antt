-- Forms by a list with one symbol more.
use Rattle.std.proofs.Common.{◌≡◌, ◌≢◌, ℕ, zero, suc, ◌+◌, ◌-◌, ◌≤◌, ◌<◌, ℤ, pos, ◌+ℤ◌, Bool, true, false, ◌&&◌, cond, Option, Some, None, List, [], ◌∷◌, ◌++◌, map, take, drop, insert, length, get_or, refl, sym, ap, ap₂, ◌∙◌, subst, arith, All, zero-add}
use Rattle.std.specs.Prelude.{nat_le, slice_get, replicate}
use Rattle.std.specs.List.Sorted.{IsStrictlyIncreasing}
use Rattle.std.specs.Ordering.{int_eq}
use Rattle.std.proofs.lemmas.Bool.Decides.{nat_tests, Decides-int_eq}
use Rattle.std.proofs.lemmas.List.{map-append, length-map, take-map, get_or-map}
use Rattle.std.proofs.lemmas.List.Elements.{All-head, All-tail, All-map}
use Rattle.tree.specs.Plain.{Expression}
use Rattle.subscripts.specs.Shapes.{AreSymbols, IsSmall}
use Rattle.linear_forms.specs.Expressed.{variable, variables, with_constant, with_terms}
use Rattle.linear_forms.specs.Linear.{all_small, is_small, not_zero}
use Rattle.linear_forms.specs.Places.{padded, terms_from}
use Rattle.linear_forms.specs.Texts.{places_behind, with_place, with_symbols}
use Rattle.last_values.specs.normal_forms.Texts.{quotient_text, trip_text}
use Rattle.statement_passes.specs.Laws.{ShiftedHasText, ShiftedTripHasText, ShiftedIsForm, ShiftedIsAffine, ShiftedHasNumber, with_zero}
use Rattle.statement_passes.specs.Symbols.{place_among, shifted_place, shifted_term}
use Rattle.statement_passes.proofs.Names.{place_of-within}
use Rattle.statement_passes.proofs.Placing.{found-inserted, weighted-inserted}

-- ---- texts

behind-inserted : (symbols : List (List ℕ)) (trips : List Expression) (at : ℕ) (x : List ℕ) → at ≤ length symbols
    → places_behind (insert symbols at x) trips ≡ insert (places_behind symbols trips) at (variable x)
behind-inserted symbols trips zero x h = refl
behind-inserted [] trips (suc at) x h = absurd (omega (arith, h))
behind-inserted (y ∷ ys) trips (suc at) x h = ap (λ ts. variable y ∷ ts) (behind-inserted ys trips at x (omega (arith, h)))

behind-length : (symbols : List (List ℕ)) (trips : List Expression) → length symbols ≤ length (places_behind symbols trips)
behind-length [] trips = omega arith
behind-length (y ∷ ys) trips = let h = behind-length ys trips in omega (arith, h)

zero_placed : (o x : Option Expression) → with_place o (pos 0) x ≡ o
zero_placed o None = refl
zero_placed o (Some t) = refl

module _ (terms : List Expression) (at : ℕ) (v : Expression) (within : at ≤ length terms) where
  term-shifted : (o : Option Expression) (t : ℕ × ℤ)
      → with_place o (shifted_term at t).1 (slice_get (insert terms at v) (shifted_term at t).0) ≡ with_place o t.1 (slice_get terms t.0)
  term-shifted o t = by (int_eq t.1 (pos 0)) refl
    where
      by : (b : Bool) → int_eq t.1 (pos 0) ≡ b
          → with_place o (cond b t (shifted_place at t.0, t.1)).1 (slice_get (insert terms at v) (cond b t (shifted_place at t.0, t.1)).0) ≡ with_place o t.1 (slice_get terms t.0)
      by true e =
          let none : t.1 ≡ pos 0 = (Decides-int_eq t.1 (pos 0)).0 e in
          ap (λ c. with_place o c (slice_get (insert terms at v) t.0)) none ∙ zero_placed o (slice_get (insert terms at v) t.0)
          ∙ sym (ap (λ c. with_place o c (slice_get terms t.0)) none ∙ zero_placed o (slice_get terms t.0))
      by false e = ap (with_place o t.1) (found-inserted terms at v t.0 within)

  symbols-shifted : (o : Option Expression) (ts : List (ℕ × ℤ)) → with_symbols o (map (shifted_term at) ts) (insert terms at v) ≡ with_symbols o ts terms
  symbols-shifted o [] = refl
  symbols-shifted o (t ∷ ts) =
      ap (λ p. with_symbols p (map (shifted_term at) ts) (insert terms at v)) (term-shifted o t)
      ∙ symbols-shifted (with_place o t.1 (slice_get terms t.0)) ts

pub shifted_has_text : ShiftedHasText
shifted_has_text loops symbols trips x a =
    let k = place_among symbols x in
    let h = place_of-within symbols x in
    let n = behind-length symbols trips in
    let few : k ≤ length (places_behind symbols trips) = omega (arith, h, n) in
    ap (λ o. with_constant o a.constant)
    (ap (λ ts. with_symbols (with_terms None a.loops (variables loops)) (map (shifted_term k) a.syms) ts) (behind-inserted symbols trips k x h)
    ∙ symbols-shifted (places_behind symbols trips) k (variable x) few (with_terms None a.loops (variables loops)) a.syms)

pub shifted_trip_has_text : ShiftedTripHasText
unfolding trip_text
shifted_trip_has_text loops symbols trips x t = ap (λ e. quotient_text e t.by) (shifted_has_text loops symbols trips x t.top)

pub shifted_has_number : ShiftedHasNumber
shifted_has_number k f xs v h = ap (λ s. s +ℤ f.constant) (weighted-inserted k f.coefficients xs v h)

-- ---- forms

shifted_used : (at : ℕ) (t : ℕ × ℤ) → t.1 ≢ pos 0 → shifted_term at t ≡ (shifted_place at t.0, t.1)
shifted_used at t h = by (int_eq t.1 (pos 0)) refl
  where
    by : (b : Bool) → int_eq t.1 (pos 0) ≡ b → cond b t (shifted_place at t.0, t.1) ≡ (shifted_place at t.0, t.1)
    by true e = absurd (h ((Decides-int_eq t.1 (pos 0)).0 e))
    by false e = refl

shifted_unused : (at : ℕ) (t : ℕ × ℤ) → t.1 ≡ pos 0 → shifted_term at t ≡ t
shifted_unused at t h = ap (λ b. cond b t (shifted_place at t.0, t.1)) ((Decides-int_eq t.1 (pos 0)).1 h)

same_times : (at : ℕ) (t : ℕ × ℤ) → (shifted_term at t).1 ≡ t.1
same_times at t = by (int_eq t.1 (pos 0))
  where
    by : (b : Bool) → (cond b t (shifted_place at t.0, t.1)).1 ≡ t.1
    by true = refl
    by false = refl

firsts : (at : ℕ) (ts : List (ℕ × ℤ)) → All (λ t. t.1 ≢ pos 0) ts → map (λ (t : ℕ × ℤ). t.0) (map (shifted_term at) ts) ≡ map (shifted_place at) (map (λ (t : ℕ × ℤ). t.0) ts)
firsts at [] h = refl
firsts at (t ∷ ts) h =
    ap₂ (λ (n : ℕ) (ns : List ℕ). n ∷ ns) (ap (λ (u : ℕ × ℤ). u.0) (shifted_used at t (All-head (λ t. t.1 ≢ pos 0) t ts h))) (firsts at ts (All-tail (λ t. t.1 ≢ pos 0) t ts h))

shifted-rises : (at j k : ℕ) → j < k → shifted_place at j < shifted_place at k
shifted-rises at j k h = grind (arith, nat_tests)

increasing : (at : ℕ) (ks : List ℕ) → IsStrictlyIncreasing ks → IsStrictlyIncreasing (map (shifted_place at) ks)
increasing at ks h k l =
    let n = length-map ks (shifted_place at) in
    let m : k + 1 < length ks = omega (arith, l, n) in
    let low : k < length ks = omega (arith, m) in
    subst (λ x. x < get_or (map (shifted_place at) ks) (k + 1) 0) (sym (get_or-map (shifted_place at) ks k 0 0 low))
    (subst (λ x. shifted_place at (get_or ks k 0) < x) (sym (get_or-map (shifted_place at) ks (k + 1) 0 0 m))
    (shifted-rises at (get_or ks k 0) (get_or ks (k + 1) 0) (h k m)))

each_term : (P Q : ℕ × ℤ → Type 0) (at : ℕ) (ts : List (ℕ × ℤ)) → ((t : ℕ × ℤ) → P t → Q (shifted_term at t)) → All P ts → All Q (map (shifted_term at) ts)
each_term P Q at ts f h = All-map Q (shifted_term at) ts (λ k d l. f (get_or ts k d) (h k d l))

drop-mapped : (at n : ℕ) (ts : List (ℕ × ℤ)) → drop n (map (shifted_term at) ts) ≡ map (shifted_term at) (drop n ts)
drop-mapped at zero ts = refl
drop-mapped at (suc n) [] = refl
drop-mapped at (suc n) (t ∷ ts) = drop-mapped at n ts

symbols_stay : (at used : ℕ) (ts : List (ℕ × ℤ)) → AreSymbols used ts → AreSymbols used (map (shifted_term at) ts)
symbols_stay at used ts s = record {
  rising = subst IsStrictlyIncreasing (sym (ap (map (λ (t : ℕ × ℤ). t.0)) (take-map (shifted_term at) used ts) ∙ firsts at (take used ts) s.nonzero)) (increasing at (map (λ (t : ℕ × ℤ). t.0) (take used ts)) s.rising);
  nonzero = subst (All (λ t. t.1 ≢ pos 0)) (sym (take-map (shifted_term at) used ts))
      (each_term (λ t. t.1 ≢ pos 0) (λ t. t.1 ≢ pos 0) at (take used ts) (λ t h. subst (λ z. z ≢ pos 0) (sym (same_times at t)) h) s.nonzero);
  unused = subst (All (λ t. (t.0 ≡ 0) × (t.1 ≡ pos 0))) (sym (drop-mapped at used ts))
      (each_term (λ t. (t.0 ≡ 0) × (t.1 ≡ pos 0)) (λ t. (t.0 ≡ 0) × (t.1 ≡ pos 0)) at (drop used ts)
      (λ t h. subst (λ (u : ℕ × ℤ). (u.0 ≡ 0) × (u.1 ≡ pos 0)) (sym (shifted_unused at t h.1)) h) s.unused);
}

pub shifted_is_form : ShiftedIsForm
shifted_is_form depth at a h = record {
  past_depth = h.past_depth;
  symbols = (h.symbols.0, symbols_stay at h.symbols.0 a.syms h.symbols.1);
  small_loops = h.small_loops;
  small_symbols = each_term (λ t. IsSmall t.1) (λ t. IsSmall t.1) at a.syms (λ t s. subst IsSmall (sym (same_times at t)) s) h.small_symbols;
  small_constant = h.small_constant;
}

-- ---- coefficients

take-zero : (n at : ℕ) (cs : List ℤ) → take n (with_zero (n + at) cs) ≡ take n cs
take-zero zero at cs = refl
take-zero (suc n) at [] = refl
take-zero (suc n) at (c ∷ cs) =
    let further : suc n + at ≡ suc (n + at) = omega arith in
    ap (λ m. take (suc n) (with_zero m (c ∷ cs))) further ∙ ap (λ ds. c ∷ ds) (take-zero n at cs)

drop-zero : (n at : ℕ) (cs : List ℤ) → drop n (with_zero (n + at) cs) ≡ with_zero at (drop n cs)
drop-zero zero at cs = ap (λ m. with_zero m cs) (zero-add at)
drop-zero (suc n) at [] = sym (none at)
  where
    none : (k : ℕ) → with_zero k [] ≡ []
    none zero = refl
    none (suc k) = refl
drop-zero (suc n) at (c ∷ cs) =
    let further : suc n + at ≡ suc (n + at) = omega arith in
    ap (λ m. drop (suc n) (with_zero m (c ∷ cs))) further ∙ drop-zero n at cs

at_or_behind : (at o : ℕ) → at ≤ o → shifted_place at o ≡ suc o
at_or_behind at o h = grind (arith, nat_tests)

before : (at o : ℕ) → o < at → shifted_place at o ≡ o
before at o h = grind (arith, nat_tests)

terms_further : (at o : ℕ) (cs : List ℤ) → at ≤ o → terms_from (suc o) cs ≡ map (shifted_term at) (terms_from o cs)
terms_further at o [] h = refl
terms_further at o (c ∷ cs) h = by (int_eq c (pos 0)) refl (terms_further at (suc o) cs (omega (arith, h)))
  where
    by : (b : Bool) → int_eq c (pos 0) ≡ b → terms_from (suc (suc o)) cs ≡ map (shifted_term at) (terms_from (suc o) cs)
        → cond b (terms_from (suc (suc o)) cs) ((suc o, c) ∷ terms_from (suc (suc o)) cs) ≡ map (shifted_term at) (cond b (terms_from (suc o) cs) ((o, c) ∷ terms_from (suc o) cs))
    by true e more = more
    by false e more =
        ap₂ (λ (t : ℕ × ℤ) (ts : List (ℕ × ℤ)). t ∷ ts)
        (sym (ap (λ b. cond b (o, c) (shifted_place at o, c)) e ∙ ap (λ n. (n, c)) (at_or_behind at o h))) more

terms-zero : (o at : ℕ) (cs : List ℤ) → terms_from o (with_zero at cs) ≡ map (shifted_term (o + at)) (terms_from o cs)
terms-zero o at [] = refl
terms-zero o zero (c ∷ cs) = terms_further (o + 0) o (c ∷ cs) (omega arith)
terms-zero o (suc at) (c ∷ cs) = by (int_eq c (pos 0)) refl (terms-zero (suc o) at cs ∙ ap (λ m. map (shifted_term m) (terms_from (suc o) cs)) same)
  where
    same : suc o + at ≡ o + suc at
    same = omega arith

    low : o < o + suc at
    low = omega arith

    by : (b : Bool) → int_eq c (pos 0) ≡ b → terms_from (suc o) (with_zero at cs) ≡ map (shifted_term (o + suc at)) (terms_from (suc o) cs)
        → cond b (terms_from (suc o) (with_zero at cs)) ((o, c) ∷ terms_from (suc o) (with_zero at cs)) ≡ map (shifted_term (o + suc at)) (cond b (terms_from (suc o) cs) ((o, c) ∷ terms_from (suc o) cs))
    by true e more = more
    by false e more =
        ap₂ (λ (t : ℕ × ℤ) (ts : List (ℕ × ℤ)). t ∷ ts)
        (sym (ap (λ b. cond b (o, c) (shifted_place (o + suc at) o, c)) e ∙ ap (λ n. (n, c)) (before (o + suc at) o low))) more

none_shifted : (at n : ℕ) → map (shifted_term at) (replicate n (0, pos 0)) ≡ replicate n (0, pos 0)
none_shifted at zero = refl
none_shifted at (suc n) = ap (λ ts. (0, pos 0) ∷ ts) (none_shifted at n)

padded-shifted : (at : ℕ) (ts : List (ℕ × ℤ)) → map (shifted_term at) (padded ts) ≡ padded (map (shifted_term at) ts)
padded-shifted at ts =
    map-append (shifted_term at) ts (replicate (8 - length ts) (0, pos 0))
    ∙ ap (λ us. map (shifted_term at) ts ++ us) (none_shifted at (8 - length ts))
    ∙ ap (λ n. map (shifted_term at) ts ++ replicate (8 - n) (0, pos 0)) (sym (length-map ts (shifted_term at)))

small-zero : (k : ℕ) (cs : List ℤ) → all_small (with_zero k cs) ≡ all_small cs
small-zero k [] = refl
small-zero zero (c ∷ cs) = refl
small-zero (suc k) (c ∷ cs) = ap (λ b. is_small c && b) (small-zero k cs)

not_zero-zero : (k : ℕ) (cs : List ℤ) → not_zero (with_zero k cs) ≡ not_zero cs
not_zero-zero k [] = refl
not_zero-zero zero (c ∷ cs) = refl
not_zero-zero (suc k) (c ∷ cs) = ap (λ m. cond (int_eq c (pos 0)) m (suc m)) (not_zero-zero k cs)

length-zero : (k : ℕ) (cs : List ℤ) → length (with_zero k cs) ≤ length cs + 1
length-zero k [] = omega arith
length-zero zero (c ∷ cs) = omega arith
length-zero (suc k) (c ∷ cs) = let h = length-zero k cs in omega (arith, h)

pub shifted_is_affine : ShiftedIsAffine
shifted_is_affine n at f a h = record {
  affine = record {
    loops = λ k. h.loops k ∙ ap (λ cs. get_or cs k (pos 0)) (sym (take-zero n at f.coefficients));
    symbols = ap (map (shifted_term at)) h.symbols ∙ padded-shifted at (terms_from 0 (drop n f.coefficients))
        ∙ ap padded (sym (ap (terms_from 0) (drop-zero n at f.coefficients) ∙ terms-zero 0 at (drop n f.coefficients)
        ∙ ap (λ m. map (shifted_term m) (terms_from 0 (drop n f.coefficients))) (zero-add at)));
    constant = h.constant;
  };
  limited = ap₂ (λ b m. b && (is_small f.constant && nat_le m 8)) (small-zero (n + at) f.coefficients)
      (ap not_zero (drop-zero n at f.coefficients) ∙ not_zero-zero at (drop n f.coefficients));
  few = length-zero (n + at) f.coefficients;
}
