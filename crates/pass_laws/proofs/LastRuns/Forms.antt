-- Forms within the limits, as texts over symbols and divided trips, and their numbers.
use mathlib.Core.Path.{ap₂}
use Rattle.std.proofs.Common.{◌≡◌, refl, sym, ap, ◌∙◌, subst, ℕ, zero, suc, ◌+◌, ◌-◌, ◌*◌, ◌/◌, ◌^◌, ◌≤◌, ◌<◌, ℤ, pos}
use Rattle.std.proofs.Common.{negsuc, ◌+ℤ◌, ◌*ℤ◌, neg_ℤ, Bool, true, false, cond, ◌&&◌, List, [], ◌∷◌, ◌++◌, drop}
use Rattle.std.proofs.Common.{get_or, length, set, Ok, Err, Option, Some, None, arith}
use Rattle.std.specs.Prelude.{int_div, nat_abs, nat_lt}
use Rattle.std.specs.List.{list_all}
use Rattle.std.specs.Ordering.{int_eq}
use Rattle.std.proofs.lemmas.Bool.{le-leb, leb-true}
use Rattle.std.proofs.lemmas.Bool.Decides.{Decides-int_eq}
use Rattle.std.proofs.lemmas.Int.{ints}
use Rattle.std.proofs.Math.IntN.{*ℤ-zero, zero-*ℤ}
use Rattle.std.proofs.Math.Nat.{div-le_self, div-one, mul-le-mul_right}
use Rattle.std.proofs.Math.Numerals.{add-one}
use Rattle.tree.specs.Operators.{apply, fits, ranged}
use Rattle.tree.specs.Plain.{Expression, Number, Binary}
use Rattle.tree.specs.declared.ops.Fault.TheVariants.{Overflow, ZeroDivide}
use Rattle.tree.specs.declared.ops.Op.TheVariants.{Div}
use Rattle.tree.specs.declared.ops.Value.TheVariants.{Int}
use Rattle.tree.specs.Steps as results
use Rattle.meaning.specs.Dialect.{Dialect}
use Rattle.meaning.specs.Store.{Store}
use Rattle.meaning.specs.Value.{value_of}
use Rattle.linear_forms.specs.Expressed.{with_constant, with_terms}
use Rattle.linear_forms.specs.Laws.{AreSized, EachHasValue}
use Rattle.linear_forms.specs.Linear.{Form, HaveValues, all_small, is_limited, is_small, not_zero, number_at, weighted}
use Rattle.linear_forms.specs.Merging.{all_pushed}
use Rattle.linear_forms.specs.Pushing.{pushed, small_or_none, then_pushed}
use Rattle.linear_forms.specs.Places.{padded, terms_from}
use Rattle.linear_forms.specs.Texts as texts
use Rattle.linear_forms.specs.Texts.{places_behind, text_of}
use Rattle.linear_forms.specs.declared.terms.Terms.{Terms}
use Rattle.linear_forms.proofs.AffineTexts.{affine_text_has_value}
use Rattle.linear_forms.proofs.Merges.{Outcome, pushes, then_same}
use Rattle.linear_forms.proofs.Sizes.{abs-sum, weighted-size, within_fits}
use Rattle.last_values.specs.normal_forms.Combinations.{all_within, coefficient_in, combination, combined_at, form_with}
use Rattle.last_values.specs.normal_forms.Combinations.{has_small_factor, no_terms, number_form, seven, with_symbol_terms}
use Rattle.last_values.specs.normal_forms.NormalLoops.{is_constant, trip_of}
use Rattle.last_values.specs.normal_forms.Numbers.{number_of_form, products, values_from}
use Rattle.last_values.specs.normal_forms.Texts.{quotient_text}
use Rattle.last_values.specs.declared.normal_forms.combinations.Multiple.{Multiple}
use Rattle.last_values.specs.declared.normal_forms.places.Place.TheVariants as place
use Rattle.last_values.proofs.NormalForms.Numbers.{looked_up}
use Rattle.nest.specs.declared.parts.Trip.{Trip}
use Rattle.subscripts.specs.declared.affine.Affine.{Affine}
use Rattle.pass_laws.proofs.LastRuns.Pieces.{none_yet}

abbrev pub At : List ℤ → ℕ → ℤ
At zs j = get_or zs j (pos 0)

-- ---- forms within the limits, over n symbols and divided trips

pub record IsKnownForm (n : ℕ) (a : Affine) : Type 0 where
  pub symbols : List ℤ
  pub few : length symbols ≤ n
  pub small : all_small symbols ≡ true
  pub count : not_zero symbols ≤ 8
  pub syms : a.syms ≡ padded (terms_from 0 symbols)
  pub constant : is_small a.constant ≡ true

-- with one more symbol, where there is room
abbrev more_room : ℕ → ℤ → Terms → Option Terms
more_room j z t = cond (is_small z && nat_lt t.used 8) (Some (record { at = set t.at t.used (j, z); used = t.used + 1 })) None

symbols-pushed : (f : ℕ → ℤ) (n j : ℕ) (t : Terms) → with_symbol_terms f n j t ≡ all_pushed (terms_from j (values_from n j f)) t
symbols-pushed f zero j t = refl
symbols-pushed f (suc n) j t =
    by (λ u. symbols-pushed f n (j + 1) u ∙ ap (λ k. all_pushed (terms_from k (values_from n (j + 1) f)) u) (add-one j)) (int_eq (f j) (pos 0)) refl
  where
    by : ((u : Terms) → with_symbol_terms f n (j + 1) u ≡ all_pushed (terms_from (suc j) (values_from n (j + 1) f)) u) → (b : Bool) → int_eq (f j) (pos 0) ≡ b
        → then_pushed (pushed j (f j) t) (with_symbol_terms f n (j + 1)) ≡ all_pushed (cond b (terms_from (suc j) (values_from n (j + 1) f)) ((j, f j) ∷ terms_from (suc j) (values_from n (j + 1) f))) t
    by later true e = ap (λ c. then_pushed (cond c (Some t) (more_room j (f j) t)) (with_symbol_terms f n (j + 1))) e ∙ later t
    by later false e = then_same (pushed j (f j) t) (with_symbol_terms f n (j + 1)) (all_pushed (terms_from (suc j) (values_from n (j + 1) f))) later

symbols_of : (f : ℕ → ℤ) (n : ℕ) (t : Terms) → with_symbol_terms f n 0 no_terms ≡ Some t → Outcome 0 (values_from n 0 f) [] (Some t)
symbols_of f n t h =
    let es : List ℤ = values_from n 0 f in
    let all = pushes 0 es [] no_terms (record { at = refl; used = refl }) (omega arith) in
    let made : all_pushed (terms_from 0 es) no_terms ≡ Some t = sym (symbols-pushed f n 0 no_terms) ∙ h in
    subst (λ (o : Option Terms). Outcome 0 (values_from n 0 f) [] o) made all

length_values : (n j : ℕ) (f : ℕ → ℤ) → length (values_from n j f) ≡ n
length_values zero j f = refl
length_values (suc n) j f = ap suc (length_values n (j + 1) f)

small_is : (z v : ℤ) → small_or_none z ≡ Some v → (v ≡ z) × (is_small z ≡ true)
small_is z v h = by (is_small z) refl h
  where
    by : (b : Bool) → is_small z ≡ b → cond b (Some z) None ≡ Some v → (v ≡ z) × (is_small z ≡ true)
    by true e g = let same : v ≡ z = cc in (same, e)
    by false e g = let no : ⊥ = cc in absurd no

module _ (n : ℕ) (ts : List Multiple) (a : Affine) where
  parted : (ls : Option (List ℤ)) → (o : Option Terms) → with_symbol_terms (λ j. combined_at ts (place.Symbol j)) n 0 no_terms ≡ o
      → (z : Option ℤ) → small_or_none (combined_at ts place.Constant) ≡ z → form_with ls o z ≡ Some a → IsKnownForm n a
  parted None o f z g h = let no : ⊥ = cc in absurd no
  parted (Some ls) None f z g h = let no : ⊥ = cc in absurd no
  parted (Some ls) (Some t) f None g h = let no : ⊥ = cc in absurd no
  parted (Some ls) (Some t) f (Some z) g h =
      let same : a ≡ record { loops = ls; syms = t.at; constant = z } = cc in
      let p = symbols_of (λ j. combined_at ts (place.Symbol j)) n t f in
      let c = small_is (combined_at ts place.Constant) z g in
      let most = p.2 in
      let len = length_values n 0 (λ j. combined_at ts (place.Symbol j)) in
      record {
        symbols = values_from n 0 (λ j. combined_at ts (place.Symbol j));
        few = omega (arith, len);
        small = p.1;
        count = omega (arith, most);
        syms = ap (λ (b : Affine). b.syms) same ∙ p.0.at;
        constant = ap (λ (b : Affine). is_small b.constant) same ∙ (ap is_small c.0 ∙ c.1);
      }

  pub sum_known : combination n ts ≡ Some a → IsKnownForm n a
  unfolding combination
  sum_known h = by (list_all has_small_factor ts) h
    where
      by : (b : Bool) → cond b (form_with (all_within (seven (λ k. combined_at ts (place.Loop k)))) (with_symbol_terms (λ j. combined_at ts (place.Symbol j)) n 0 no_terms) (small_or_none (combined_at ts place.Constant))) None ≡ Some a → IsKnownForm n a
      by true g = parted (all_within (seven (λ k. combined_at ts (place.Loop k)))) (with_symbol_terms (λ j. combined_at ts (place.Symbol j)) n 0 no_terms) refl (small_or_none (combined_at ts place.Constant)) refl g
      by false g = let no : ⊥ = cc in absurd no

number_known : (n : ℕ) (z : ℤ) → is_small z ≡ true → IsKnownForm n (number_form z)
number_known n z h = record { symbols = []; few = omega arith; small = refl; count = omega arith; syms = refl; constant = h }

abs_neg : (z : ℤ) → nat_abs (neg_ℤ z) ≡ nat_abs z
abs_neg z = omega (arith, ints)

pub abs_quotient : (a : ℤ) (n : ℕ) → nat_abs (int_div a (pos n)) ≤ nat_abs a
abs_quotient (pos a) n = div-le_self a n
abs_quotient (negsuc a) n =
    let most = div-le_self (suc a) n in
    let same = abs_neg (pos (suc a / n)) in
    omega (arith, same, most)

small_quotient : (z : ℤ) (n : ℕ) → is_small z ≡ true → is_small (int_div z (pos n)) ≡ true
small_quotient z n h =
    let most : nat_abs z ≤ 2 ^ 40 = leb-true (nat_abs z) (2 ^ 40) h in
    let less = abs_quotient z n in
    le-leb (nat_abs (int_div z (pos n))) (2 ^ 40) (omega (arith, most, less))

pub trip_known : (n : ℕ) (a : Affine) (d : ℕ) → IsKnownForm n a → IsKnownForm n (trip_of a (pos d)).top
trip_known n a d k = by (is_constant a)
  where
    by : (b : Bool) → IsKnownForm n (cond {A = Trip} b (record { top = number_form (int_div a.constant (pos d)); by = pos 1 }) (record { top = a; by = pos d })).top
    by true = number_known n (int_div a.constant (pos d)) (small_quotient a.constant d k.constant)
    by false = k

-- ---- coefficients

pub symbol_at : (n : ℕ) (a : Affine) (k : IsKnownForm n a) (j : ℕ) → coefficient_in a.syms j ≡ At k.symbols j
symbol_at n a k j = ap (λ us. coefficient_in us j) k.syms ∙ looked_up 0 k.symbols (8 - length (terms_from 0 k.symbols)) j j (omega arith)

products_none : (n j : ℕ) (c v : ℕ → ℤ) → ((i : ℕ) → v (j + i) ≡ pos 0) → products n j c v ≡ pos 0
products_none zero j c v h = refl
products_none (suc n) j c v h =
    ap₂ (λ x y. c j *ℤ x +ℤ y) (ap v (let e : j ≡ j + 0 = omega arith in e) ∙ h 0) (products_none n (j + 1) c v (λ i. ap v (let e : (j + 1) + i ≡ j + suc i = omega arith in e) ∙ h (suc i)))
    ∙ ap (λ z. z +ℤ pos 0) (*ℤ-zero (c j))

weighted_products : (n j : ℕ) (es zs : List ℤ) (c v : ℕ → ℤ) → length es ≤ n → ((i : ℕ) → c (j + i) ≡ At es i) → ((i : ℕ) → v (j + i) ≡ At zs i) → products n j c v ≡ weighted es zs
weighted_products zero j [] zs c v l h k = refl
weighted_products zero j (e ∷ es) zs c v l h k = absurd (omega (arith, l))
weighted_products (suc n) j [] zs c v l h k =
    ap₂ (λ x y. x *ℤ v j +ℤ y) (ap c (let e : j ≡ j + 0 = omega arith in e) ∙ h 0)
    (weighted_products n (j + 1) [] (drop 1 zs) c v (omega arith) (λ i. ap c (let e : (j + 1) + i ≡ j + suc i = omega arith in e) ∙ h (suc i)) (λ i. ap v (let e : (j + 1) + i ≡ j + suc i = omega arith in e) ∙ (k (suc i) ∙ later zs i)))
    ∙ ap (λ z. z +ℤ pos 0) (zero-*ℤ (v j))
  where
    later : (zs : List ℤ) (i : ℕ) → At zs (suc i) ≡ At (drop 1 zs) i
    later [] i = refl
    later (z ∷ zs) i = refl
weighted_products (suc n) j (e ∷ es) [] c v l h k = products_none (suc n) j c v k
weighted_products (suc n) j (e ∷ es) (z ∷ zs) c v l h k =
    ap₂ (λ x y. x +ℤ y) (ap₂ (λ x y. x *ℤ y) (ap c (let e : j ≡ j + 0 = omega arith in e) ∙ h 0) (ap v (let e : j ≡ j + 0 = omega arith in e) ∙ k 0))
    (weighted_products n (j + 1) es zs c v (omega (arith, l)) (λ i. ap c (let e : (j + 1) + i ≡ j + suc i = omega arith in e) ∙ h (suc i)) (λ i. ap v (let e : (j + 1) + i ≡ j + suc i = omega arith in e) ∙ k (suc i)))

-- a form's number under no loops
module _ (n : ℕ) (a : Affine) (k : IsKnownForm n a) (zs : List ℤ) where
  abbrev form : Form
  form = record { coefficients = k.symbols; constant = a.constant }

  number_is : number_at form zs ≡ number_of_form n none_yet (At zs) a
  number_is = sym (
      ap₂ (λ x y. x +ℤ (y +ℤ a.constant)) (products_none 7 0 (λ k. get_or a.loops k (pos 0)) none_yet (λ i. refl))
      (weighted_products n 0 k.symbols zs (λ j. coefficient_in a.syms j) (At zs) k.few
      (λ i. ap (coefficient_in a.syms) (let e : 0 + i ≡ i = omega arith in e) ∙ symbol_at n a k i) (λ i. ap (At zs) (let e : 0 + i ≡ i = omega arith in e)))
      ∙ alone (weighted k.symbols zs) a.constant)
    where
      alone : (x y : ℤ) → pos 0 +ℤ (x +ℤ y) ≡ x +ℤ y
      alone x y = omega (arith, ints)

  pub number_size : AreSized zs → nat_abs (number_of_form n none_yet (At zs) a) < 2 ^ 127
  number_size sized =
      let terms = weighted-size k.symbols zs k.small sized in
      let few = k.count in
      let most : not_zero k.symbols * (2 ^ 40 * 2 ^ 63) ≤ 8 * (2 ^ 40 * 2 ^ 63) = mul-le-mul_right (2 ^ 40 * 2 ^ 63) few in
      let constant = leb-true (nat_abs a.constant) (2 ^ 40) k.constant in
      let whole = abs-sum (weighted k.symbols zs) a.constant in
      subst (λ z. nat_abs z < 2 ^ 127) number_is (omega (arith, terms, most, constant, whole))

-- its text has its number as its value
pub text_number : (lang : Dialect) (symbols : List (List ℕ)) (trips : List Expression) (n : ℕ) (a : Affine) (k : IsKnownForm n a) (s : Store) (xs ys : List ℤ)
    → HaveValues symbols s xs → EachHasValue lang trips s ys → AreSized xs → AreSized ys → value_of lang (text_of [] symbols trips a) s ≡ Ok (Int (number_of_form n none_yet (At (xs ++ ys)) a))
text_number lang symbols trips n a k s xs ys have each sized trips_sized =
    ap (λ o. value_of lang (with_constant (texts.with_symbols o a.syms (places_behind symbols trips)) a.constant) s) (no_loops a.loops)
    ∙ (affine_text_has_value lang [] symbols trips (form n a k (xs ++ ys)) (record { loops = []; syms = a.syms; constant = a.constant }) s xs ys (omega arith) limits
    (record { loops = λ i. refl; symbols = k.syms; constant = refl }) have each sized trips_sized
    ∙ ap (λ z. Ok (Int z)) (number_is n a k (xs ++ ys)))
  where
    no_loops : (cs : List ℤ) → with_terms None cs [] ≡ None
    no_loops [] = refl
    no_loops (c ∷ cs) = refl

    limits : is_limited 0 (form n a k (xs ++ ys)) ≡ true
    limits =
        ap₂ (λ p q. p && q) k.small (ap₂ (λ p q. p && q) k.constant (le-leb (not_zero k.symbols) 8 k.count))

-- ---- quotients

pub quotient_value : (lang : Dialect) (e : Expression) (s : Store) (z : ℤ) (d : ℕ) → 0 < d → value_of lang e s ≡ Ok (Int z) → nat_abs z < 2 ^ 127
    → value_of lang (quotient_text e (pos d)) s ≡ Ok (Int (int_div z (pos d)))
quotient_value lang e s z zero p h small = absurd (omega (arith, p))
quotient_value lang e s z (suc d) p h small = by (int_eq (pos (suc d)) (pos 1)) refl
  where
    within : fits 127 (int_div z (pos (suc d))) ≡ true
    within = let less = abs_quotient z (suc d) in within_fits (int_div z (pos (suc d))) (omega (arith, less, small))

    not_nought : (b : Bool) → int_eq (pos (suc d)) (pos 0) ≡ b → b ≡ false
    not_nought true f = let same = (Decides-int_eq (pos (suc d)) (pos 0)).0 f in absurd (omega (arith, ints, same))
    not_nought false f = refl

    by : (b : Bool) → int_eq (pos (suc d)) (pos 1) ≡ b → value_of lang (cond b e (Binary Div e (Number (pos (suc d))))) s ≡ Ok (Int (int_div z (pos (suc d))))
    by true f = h ∙ ap (λ y. Ok (Int y)) (sym (one_of z (suc d) ((Decides-int_eq (pos (suc d)) (pos 1)).0 f)))
      where
        one_of : (z : ℤ) (m : ℕ) → pos m ≡ pos 1 → int_div z (pos m) ≡ z
        one_of z m e = ap (int_div z) e ∙ by_one z
          where
            by_one : (z : ℤ) → int_div z (pos 1) ≡ z
            by_one (pos n) = ap pos (div-one n)
            by_one (negsuc n) = ap (λ k. neg_ℤ (pos k)) (div-one (suc n))
    by false f =
        ap (λ q. results.◌>>=◌ q (λ x. apply Div x (Int (pos (suc d))))) h
        ∙ (ap (λ b. ranged (cond b (Err ZeroDivide) (Ok (int_div z (pos (suc d)))))) (not_nought (int_eq (pos (suc d)) (pos 0)) refl)
        ∙ ap (λ b. cond b (Ok (Int (int_div z (pos (suc d))))) (Err Overflow)) within)
