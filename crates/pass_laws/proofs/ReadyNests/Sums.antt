-- A sum of multiples of forms is a form.
use mathlib.Core.Path.{ap₂}
use Rattle.std.proofs.Common.{◌≡◌, refl, sym, ap, ◌∙◌, subst, inl, inr, ◌⊎◌, ℕ, zero, suc, ◌+◌, ◌^◌, ◌≤◌, ◌<◌, ℤ, pos, ◌+ℤ◌, ◌*ℤ◌, Bool, true, false, cond, ◌&&◌, List, [], ◌∷◌, ◌++◌, take, drop, length, get_or, set, Option, Some, None, arith}
use Rattle.std.specs.Prelude.{nat_abs, nat_le, nat_lt, int_div}
use Rattle.std.specs.List.{list_all}
use Rattle.std.specs.Ordering.{int_eq}
use Rattle.std.proofs.Math.IntN.{*ℤ-zero}
use Rattle.std.proofs.Math.Numerals.{add-one}
use Rattle.std.proofs.lemmas.Bool.{cases_lt, le-leb, leb-true}
use Rattle.std.proofs.lemmas.List.{get_or_past}
use Rattle.subscripts.specs.Shapes.{IsForm}
use Rattle.subscripts.specs.declared.affine.Affine.{Affine}
use Rattle.linear_forms.specs.Linear.{Form, is_small, all_small, not_zero, is_limited}
use Rattle.linear_forms.specs.Merging.{all_pushed}
use Rattle.linear_forms.specs.Pushing.{small_or_none, pushed, then_pushed}
use Rattle.linear_forms.specs.Places.{padded, terms_from}
use Rattle.linear_forms.specs.declared.terms.Terms.{Terms}
use Rattle.linear_forms.proofs.Merges.{Outcome, pushes, then_same}
use Rattle.linear_forms.proofs.Sizes.{both}
use Rattle.find_nests.proofs.BoundLimits.LimitLaws.{abs-quotient}
use Rattle.dependence_graph.proofs.dep_graph.Shapes.{affine_is_form}
use Rattle.last_values.specs.declared.normal_forms.combinations.Multiple.{Multiple}
use Rattle.last_values.specs.declared.normal_forms.places.Place.TheVariants as place
use Rattle.last_values.specs.normal_forms.Combinations.{number_of_place, combined_at, with_number, all_within, seven, no_terms, with_symbol_terms, form_with, has_small_factor, combination, number_form}
use Rattle.last_values.specs.normal_forms.Numbers.{values_from}
use Rattle.last_values.proofs.NormalForms.Numbers.{places_of}
use Rattle.components.specs.Lists.{Each}

-- ---- what keeps the limits

small_is : (z v : ℤ) → small_or_none z ≡ Some v → (v ≡ z) × (is_small z ≡ true)
small_is z v h = by (is_small z) refl h
  where
    by : (b : Bool) → is_small z ≡ b → cond b (Some z) None ≡ Some v → (v ≡ z) × (is_small z ≡ true)
    by true e g = let same : v ≡ z = cc in (same, e)
    by false e g = let no : ⊥ = cc in absurd no

within_is : (zs ys : List ℤ) → all_within zs ≡ Some ys → (ys ≡ zs) × (all_small ys ≡ true)
within_is [] ys h = let same : ys ≡ [] = cc in (same, ap all_small same)
within_is (z ∷ zs) ys h = by (λ vs g. within_is zs vs g) (small_or_none z) refl (all_within zs) refl h
  where
    by : ((vs : List ℤ) → all_within zs ≡ Some vs → (vs ≡ zs) × (all_small vs ≡ true))
        → (o : Option ℤ) → small_or_none z ≡ o → (p : Option (List ℤ)) → all_within zs ≡ p → with_number o p ≡ Some ys → (ys ≡ z ∷ zs) × (all_small ys ≡ true)
    by more None e p g k = let no : ⊥ = cc in absurd no
    by more (Some v) e None g k = let no : ⊥ = cc in absurd no
    by more (Some v) e (Some vs) g k =
        let same : ys ≡ v ∷ vs = cc in
        let s = small_is z v e in
        let m = more vs g in
        (same ∙ ap₂ (λ a l. a ∷ l) s.0 m.0, ap all_small same ∙ (ap (λ b. b && all_small vs) (ap is_small s.0 ∙ s.1) ∙ m.1))

abbrev more_room : ℕ → ℤ → Terms → Option Terms
more_room j z t = cond (is_small z && nat_lt t.used 8) (Some (record { at = set t.at t.used (j, z); used = t.used + 1 })) None

pub symbols-pushed : (f : ℕ → ℤ) (n j : ℕ) (t : Terms) → with_symbol_terms f n j t ≡ all_pushed (terms_from j (values_from n j f)) t
symbols-pushed f zero j t = refl
symbols-pushed f (suc n) j t =
    by (λ u. symbols-pushed f n (j + 1) u ∙ ap (λ k. all_pushed (terms_from k (values_from n (j + 1) f)) u) (add-one j)) (int_eq (f j) (pos 0)) refl
  where
    by : ((u : Terms) → with_symbol_terms f n (j + 1) u ≡ all_pushed (terms_from (suc j) (values_from n (j + 1) f)) u) → (b : Bool) → int_eq (f j) (pos 0) ≡ b
        → then_pushed (pushed j (f j) t) (with_symbol_terms f n (j + 1)) ≡ all_pushed (cond b (terms_from (suc j) (values_from n (j + 1) f)) ((j, f j) ∷ terms_from (suc j) (values_from n (j + 1) f))) t
    by later true e = ap (λ c. then_pushed (cond c (Some t) (more_room j (f j) t)) (with_symbol_terms f n (j + 1))) e ∙ later t
    by later false e = then_same (pushed j (f j) t) (with_symbol_terms f n (j + 1)) (all_pushed (terms_from (suc j) (values_from n (j + 1) f))) later

symbols_of : (f : ℕ → ℤ) (n : ℕ) (t : Terms) → with_symbol_terms f n 0 no_terms ≡ Some t → Outcome 0 (values_from n 0 f) [] (Some t)
symbols_of f n t h =
    let es : List ℤ = values_from n 0 f in
    let all = pushes 0 es [] no_terms (record { at = refl; used = refl }) (omega arith) in
    let made : all_pushed (terms_from 0 es) no_terms ≡ Some t = sym (symbols-pushed f n 0 no_terms) ∙ h in
    subst (λ (o : Option Terms). Outcome 0 (values_from n 0 f) [] o) made all

-- a sum of these multiples, with the coefficients of its symbols, of which there are n
pub record IsSum (n : ℕ) (ts : List Multiple) (a : Affine) : Type 0 where
  pub loops : a.loops ≡ seven (λ k. combined_at ts (place.Loop k))
  pub small : all_small a.loops ≡ true
  pub symbols : List ℤ
  pub values : symbols ≡ values_from n 0 (λ j. combined_at ts (place.Symbol j))
  pub few : not_zero symbols ≤ 8
  pub small_symbols : all_small symbols ≡ true
  pub syms : a.syms ≡ padded (terms_from 0 symbols)
  pub constant : is_small a.constant ≡ true

module _ (n : ℕ) (ts : List Multiple) (a : Affine) where
  parted : (ls : Option (List ℤ)) → all_within (seven (λ k. combined_at ts (place.Loop k))) ≡ ls
      → (o : Option Terms) → with_symbol_terms (λ j. combined_at ts (place.Symbol j)) n 0 no_terms ≡ o
      → (z : Option ℤ) → small_or_none (combined_at ts place.Constant) ≡ z → form_with ls o z ≡ Some a → IsSum n ts a
  parted None e o f z g h = let no : ⊥ = cc in absurd no
  parted (Some ls) e None f z g h = let no : ⊥ = cc in absurd no
  parted (Some ls) e (Some t) f None g h = let no : ⊥ = cc in absurd no
  parted (Some ls) e (Some t) f (Some z) g h =
      let same : a ≡ record { loops = ls; syms = t.at; constant = z } = cc in
      let w = within_is (seven (λ k. combined_at ts (place.Loop k))) ls e in
      let p = symbols_of (λ j. combined_at ts (place.Symbol j)) n t f in
      let c = small_is (combined_at ts place.Constant) z g in
      let most = p.2 in
      record {
        loops = ap (λ (b : Affine). b.loops) same ∙ w.0;
        small = ap (λ (b : Affine). all_small b.loops) same ∙ w.1;
        symbols = values_from n 0 (λ j. combined_at ts (place.Symbol j));
        values = refl;
        few = omega (arith, most);
        small_symbols = p.1;
        syms = ap (λ (b : Affine). b.syms) same ∙ p.0.at;
        constant = ap (λ (b : Affine). is_small b.constant) same ∙ (ap is_small c.0 ∙ c.1);
      }

  pub sum_of : combination n ts ≡ Some a → IsSum n ts a
  unfolding combination
  sum_of h = by (list_all has_small_factor ts) h
    where
      by : (b : Bool) → cond b (form_with (all_within (seven (λ k. combined_at ts (place.Loop k)))) (with_symbol_terms (λ j. combined_at ts (place.Symbol j)) n 0 no_terms) (small_or_none (combined_at ts place.Constant))) None ≡ Some a → IsSum n ts a
      by true g = parted (all_within (seven (λ k. combined_at ts (place.Loop k)))) refl (with_symbol_terms (λ j. combined_at ts (place.Symbol j)) n 0 no_terms) refl (small_or_none (combined_at ts place.Constant)) refl g
      by false g = let no : ⊥ = cc in absurd no

-- ---- fronts of lists

front_of : (d : ℕ) (ls es : List ℤ) → d ≤ length ls → take d (take d ls ++ es) ≡ take d ls
front_of zero ls es h = refl
front_of (suc d) [] es h = absurd (omega (arith, h))
front_of (suc d) (l ∷ ls) es h = ap (λ ms. l ∷ ms) (front_of d ls es (omega (arith, h)))

rest_of : (d : ℕ) (ls es : List ℤ) → d ≤ length ls → drop d (take d ls ++ es) ≡ es
rest_of zero ls es h = refl
rest_of (suc d) [] es h = absurd (omega (arith, h))
rest_of (suc d) (l ∷ ls) es h = rest_of d ls es (omega (arith, h))

small_front : (d : ℕ) (ls : List ℤ) → all_small ls ≡ true → all_small (take d ls) ≡ true
small_front zero ls h = refl
small_front (suc d) [] h = refl
small_front (suc d) (l ∷ ls) h = let p = both (is_small l) (all_small ls) h in ap (λ b. b && all_small (take d ls)) p.0 ∙ small_front d ls p.1

small_joined : (ls es : List ℤ) → all_small ls ≡ true → all_small es ≡ true → all_small (ls ++ es) ≡ true
small_joined [] es h k = k
small_joined (l ∷ ls) es h k = let p = both (is_small l) (all_small ls) h in ap (λ b. b && all_small (ls ++ es)) p.0 ∙ small_joined ls es p.1 k

-- past the front all are 0
front_at : (d : ℕ) (ls : List ℤ) → ((k : ℕ) → d ≤ k → get_or ls k (pos 0) ≡ pos 0) → (k : ℕ) → get_or ls k (pos 0) ≡ get_or (take d ls) k (pos 0)
front_at zero ls h k = h k (omega arith)
front_at (suc d) [] h k = refl
front_at (suc d) (l ∷ ls) h zero = refl
front_at (suc d) (l ∷ ls) h (suc k) = front_at d ls (λ j m. h (suc j) (omega (arith, m))) k

-- ---- forms under so many loops

-- no loop from this place on has a coefficient
abbrev pub Zero : ℕ → Affine → Type 0
Zero d a = (k : ℕ) → d ≤ k → k < 7 → number_of_place a (place.Loop k) ≡ pos 0

limits_from : (d : ℕ) (f : Form) → all_small f.coefficients ≡ true → is_small f.constant ≡ true → not_zero (drop d f.coefficients) ≤ 8 → is_limited d f ≡ true
limits_from d f a b c =
    ap (λ t. t && (is_small f.constant && nat_le (not_zero (drop d f.coefficients)) 8)) a
    ∙ (ap (λ t. t && nat_le (not_zero (drop d f.coefficients)) 8) b ∙ le-leb (not_zero (drop d f.coefficients)) 8 c)

past_seven : (a : Affine) (d : ℕ) → length a.loops ≡ 7 → Zero d a → (k : ℕ) → d ≤ k → get_or a.loops k (pos 0) ≡ pos 0
past_seven a d len none k l = by (cases_lt k 7)
  where
    by : (k < 7) ⊎ (7 ≤ k) → get_or a.loops k (pos 0) ≡ pos 0
    by (inl h) = none k l h
    by (inr h) = get_or_past a.loops k (pos 0) (omega (arith, h, len))

form_of_sum : (n d : ℕ) (ts : List Multiple) (a : Affine) → d ≤ 7 → IsSum n ts a → Zero d a → IsForm d a
form_of_sum n d ts a few s none =
    let len : length a.loops ≡ 7 = ap (λ (ls : List ℤ). length ls) s.loops in
    let within : d ≤ length a.loops = omega (arith, few, len) in
    let rest = rest_of d a.loops s.symbols within in
    let most = s.few in
    let f : Form = record { coefficients = take d a.loops ++ s.symbols; constant = a.constant } in
    affine_is_form d f a
    (limits_from d f (small_joined (take d a.loops) s.symbols (small_front d a.loops s.small) s.small_symbols) s.constant
    (subst (λ (es : List ℤ). not_zero es ≤ 8) (sym rest) most))
    (record {
      loops = λ k. front_at d a.loops (past_seven a d len none) k ∙ ap (λ (ls : List ℤ). get_or ls k (pos 0)) (sym (front_of d a.loops s.symbols within));
      symbols = s.syms ∙ ap (λ (es : List ℤ). padded (terms_from 0 es)) (sym rest);
      constant = refl;
    })

pub sum_is_form : (n d : ℕ) (ts : List Multiple) (a : Affine) → combination n ts ≡ Some a → d ≤ 7 → Zero d a → IsForm d a
sum_is_form n d ts a h few none = form_of_sum n d ts a few (sum_of n ts a h) none

pub sum_small : (n : ℕ) (ts : List Multiple) (a : Affine) → combination n ts ≡ Some a → is_small a.constant ≡ true
sum_small n ts a h = (sum_of n ts a h).constant

none_at : (k : ℕ) → number_of_place (number_form (pos 0)) (place.Loop k) ≡ pos 0
none_at zero = refl
none_at (suc zero) = refl
none_at (suc (suc zero)) = refl
none_at (suc (suc (suc zero))) = refl
none_at (suc (suc (suc (suc zero)))) = refl
none_at (suc (suc (suc (suc (suc zero))))) = refl
none_at (suc (suc (suc (suc (suc (suc zero)))))) = refl
none_at (suc (suc (suc (suc (suc (suc (suc k))))))) = refl

no_front : (d k : ℕ) → get_or (take d []) k (pos 0) ≡ pos 0
no_front zero k = refl
no_front (suc d) k = refl

no_rest : (d : ℕ) → ◌≡◌ {A = List ℤ} (drop d []) []
no_rest zero = refl
no_rest (suc d) = refl

pub number_is_form : (d : ℕ) (z : ℤ) → is_small z ≡ true → IsForm d (number_form z)
number_is_form d z h =
    let f : Form = record { coefficients = []; constant = z } in
    affine_is_form d f (number_form z)
    (limits_from d f refl h (subst (λ (es : List ℤ). not_zero es ≤ 8) (sym (no_rest d)) (omega arith)))
    (record {
      loops = λ k. none_at k ∙ sym (no_front d k);
      symbols = ap (λ (es : List ℤ). padded (terms_from 0 es)) (sym (no_rest d));
      constant = refl;
    })

pub small_quotient : (z : ℤ) (n : ℕ) → is_small z ≡ true → is_small (int_div z (pos n)) ≡ true
small_quotient z n h =
    let most : nat_abs z ≤ 2 ^ 40 = leb-true (nat_abs z) (2 ^ 40) h in
    let less = abs-quotient z n in
    le-leb (nat_abs (int_div z (pos n))) (2 ^ 40) (omega (arith, most, less))

-- ---- which loops have a coefficient in a sum

sum_zero : (ts : List Multiple) (k : ℕ) → Each (λ (t : Multiple). number_of_place t.form (place.Loop k) ≡ pos 0) ts → combined_at ts (place.Loop k) ≡ pos 0
sum_zero [] k h = refl
sum_zero (t ∷ ts) k h = ap₂ (λ x y. t.times *ℤ x +ℤ y) h.0 (sum_zero ts k h.1) ∙ ap (λ z. z +ℤ pos 0) (*ℤ-zero t.times)

zeros_at : (d k : ℕ) (ts : List Multiple) → d ≤ k → k < 7 → Each (λ (t : Multiple). Zero d t.form) ts → Each (λ (t : Multiple). number_of_place t.form (place.Loop k) ≡ pos 0) ts
zeros_at d k [] l m h = tt
zeros_at d k (t ∷ ts) l m h = (h.0 k l m, zeros_at d k ts l m h.1)

pub sum_has_zeros : (n d : ℕ) (ts : List Multiple) (a : Affine) → combination n ts ≡ Some a → Each (λ (t : Multiple). Zero d t.form) ts → Zero d a
sum_has_zeros n d ts a h e k l m = (places_of n ts a h).loops k m ∙ sum_zero ts k (zeros_at d k ts l m e)
