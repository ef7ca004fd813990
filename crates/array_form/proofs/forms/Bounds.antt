-- The values of trips and of the bounds of sections.
use Rattle.std.proofs.Common.{◌≡◌, ◌≢◌, refl, sym, ap, ◌∙◌, subst, ℕ, zero, suc, ◌+◌, ◌*◌, ◌/◌, ◌^◌, ◌≤◌, ◌<◌, ◌==◌, ℤ, pos, negsuc, neg_ℤ, ◌+ℤ◌, ◌*ℤ◌, int_div, Bool, true, false, cond, ◌&&◌, List, [], ◌∷◌, ◌++◌, drop, length, replicate, Result, Ok, Err, arith, nat_le, nat_abs}
use Rattle.std.specs.Ordering.{int_eq}
use Rattle.std.proofs.lemmas.Bool.{leb-true}
use Rattle.std.proofs.lemmas.Int.{ints}
use Rattle.std.proofs.Math.IntN.{+ℤ_idl, pos-*ℤ-negsuc}
use Rattle.std.proofs.Math.Nat.{mul-div_cancel, mul-le-mul_right}
use Rattle.std.proofs.lemmas.Nat.{div-mul-add, div-add-mod'}
use mathlib.Core.Path.{ap₂}
use Rattle.std.proofs.lemmas.Bool.Decides.{Decides-int_eq}
use Rattle.tree.specs.Operators.{fits, apply, ranged}
use Rattle.tree.specs.Plain.{Expression, Number, Binary}
use Rattle.tree.specs.Steps.{◌>>=◌}
use Rattle.tree.specs.declared.ops.Fault.{Fault}
use Rattle.tree.specs.declared.ops.Fault.TheVariants.{Overflow, ZeroDivide}
use Rattle.tree.specs.declared.ops.Op.TheVariants.{Mul, Div, Add}
use Rattle.tree.specs.declared.ops.Value.{Value}
use Rattle.tree.specs.declared.ops.Value.TheVariants.{Int}
use Rattle.meaning.specs.Dialect.{Dialect}
use Rattle.meaning.specs.Sections.{not_negative}
use Rattle.meaning.specs.Store.{Store, cell_in}
use Rattle.meaning.specs.Value.{value_of}
use Rattle.linear_forms.specs.Expressed.{expressed, variables}
use Rattle.linear_forms.specs.Laws.{AreSized, EachHasValue}
use Rattle.linear_forms.specs.Linear.{Form, weighted, number_at, HaveValues, sum, multiple, constant_form, is_small, all_small, not_zero, is_limited}
use Rattle.linear_forms.specs.Places.{unit_form}
use Rattle.linear_forms.proofs.Expressed.{text_has_value}
use Rattle.linear_forms.proofs.LinearLaws.{number_at-sum, number_at-multiple}
use Rattle.linear_forms.proofs.Sizes.{abs-sum, abs-product, smaller, both, weighted-size, dropped, within_fits}
use Rattle.array_form.specs.forms.Forms.{number_text, divided_text, form_trip_text, form_of_trip, terms_with, sum_text}
use Rattle.array_form.specs.forms.Instances.{count_of}
use Rattle.array_form.specs.forms.Laws.{HasTrip, Turns}
use Rattle.array_form.specs.forms.Loops.{FormLoop, FormSurroundings, form_names_of}
use Rattle.array_form.specs.forms.Trips.{divided, trip_number}
use Rattle.array_form.proofs.forms.Coefficients.{as_long, weighted_front, weighted_last}

-- ---- sizes

number_size : (loops : ℕ) (f : Form) (xs : List ℤ) → loops ≤ 7 → is_limited loops f ≡ true → AreSized xs → nat_abs (number_at f xs) ≤ 15 * (2 ^ 40 * 2 ^ 63) + 2 ^ 40
number_size loops f xs few h k =
    let parts = both (all_small f.coefficients) (is_small f.constant && nat_le (not_zero (drop loops f.coefficients)) 8) h in
    let more = both (is_small f.constant) (nat_le (not_zero (drop loops f.coefficients)) 8) parts.1 in
    let count : not_zero f.coefficients ≤ 15 =
    let all = dropped loops f.coefficients in let eight = leb-true (not_zero (drop loops f.coefficients)) 8 more.1 in omega (arith, all, eight, few) in
    let terms = weighted-size f.coefficients xs parts.0 k in
    let most : not_zero f.coefficients * (2 ^ 40 * 2 ^ 63) ≤ 15 * (2 ^ 40 * 2 ^ 63) = mul-le-mul_right (2 ^ 40 * 2 ^ 63) count in
    let constant = leb-true (nat_abs f.constant) (2 ^ 40) more.0 in
    let whole = abs-sum (weighted f.coefficients xs) f.constant in
    omega (arith, terms, most, constant, whole)

small_size : (a : ℤ) → is_small a ≡ true → nat_abs a ≤ 2 ^ 40
small_size a h = leb-true (nat_abs a) (2 ^ 40) h

fitting : (z : ℤ) → nat_abs z < 2 ^ 127 → ◌≡◌ {A = Result Value Fault} (cond (fits 127 z) (Ok (Int z)) (Err Overflow)) (Ok (Int z))
fitting z h = ap (λ b. let r : Result Value Fault = cond b (Ok (Int z)) (Err Overflow) in r) (within_fits z h)

product_size : (a : ℤ) (n : ℕ) → nat_abs a ≤ 2 ^ 40 → n ≤ 2147483646 → nat_abs (a *ℤ pos n) ≤ 2 ^ 40 * 2147483646
product_size a n h k = subst (λ m. m ≤ 2 ^ 40 * 2147483646) (sym (abs-product a (pos n))) (smaller (nat_abs a) (2 ^ 40) n 2147483646 h k)

no_more : (a b : ℕ) → 0 < b → a / b ≤ a
no_more a b h = let e = div-add-mod' a b in let m : a / b ≤ (a / b) * b = grind (arith, h) in omega (arith, e, m)

quotient_size : (z : ℤ) (n : ℕ) → 0 < n → nat_abs (int_div z (pos n)) ≤ nat_abs z
quotient_size (pos a) n h = no_more a n h
quotient_size (negsuc a) n h = negative (suc a / n) (suc a) (no_more (suc a) n h)
  where
    negative : (q m : ℕ) → q ≤ m → nat_abs (neg_ℤ (pos q)) ≤ m
    negative zero m h = omega arith
    negative (suc q) m h = h

-- ---- a count

pub counted_by : (z : ℤ) → 1 ≤ not_negative z → z ≡ pos (not_negative z)
counted_by (pos n) h = refl
counted_by (negsuc n) h = absurd (omega (arith, h))

small : (a n : ℕ) → a < n → a / n ≡ 0
small a n h = ap (λ m. m / n) (let e : a ≡ 0 * n + a = grind arith in e) ∙ div-mul-add 0 n a h

down : (m n : ℕ) → not_negative (int_div (neg_ℤ (pos m)) (negsuc n)) ≡ m / suc n
down zero n = (let e = small 0 (suc n) (omega arith) in ap (λ q. not_negative (neg_ℤ (pos q))) e ∙ sym e)
down (suc m) n = refl

-- so many multiples of a stride, by the stride
pub by_stride : (n : ℕ) (a : ℤ) → a ≢ pos 0 → not_negative (int_div (pos n *ℤ a) a) ≡ n
by_stride n (pos zero) h = absurd (h refl)
by_stride n (pos (suc m)) h = mul-div_cancel n {n = suc m} (omega arith)
by_stride n (negsuc m) h = ap (λ z. not_negative (int_div z (negsuc m))) (pos-*ℤ-negsuc n m) ∙ (down (n * suc m) m ∙ mul-div_cancel n {n = suc m} (omega arith))

-- ---- texts

names_have : (d : Dialect) (names : List (List ℕ)) (s : Store) (xs : List ℤ) → HaveValues names s xs → EachHasValue d (variables names) s xs
names_have d [] s [] h = tt
names_have d (y ∷ ys) s (x ∷ xs) h = (ap (λ b. do c ← cell_in b y []; Ok (s.held c)) h.0 ∙ ap Ok h.1, names_have d ys s xs h.2)
names_have d [] s (x ∷ xs) h = absurd h
names_have d (y ∷ ys) s [] h = absurd h

one_more_has : (d : Dialect) (ts : List Expression) (t : Expression) (s : Store) (xs : List ℤ) (z : ℤ) → EachHasValue d ts s xs → value_of d t s ≡ Ok (Int z) → EachHasValue d (ts ++ t ∷ []) s (xs ++ z ∷ [])
one_more_has d [] t s [] z h e = (e, tt)
one_more_has d (u ∷ ts) t s (x ∷ xs) z h e = (h.0, one_more_has d ts t s xs z h.1 e)
one_more_has d [] t s (x ∷ xs) z h e = absurd h
one_more_has d (u ∷ ts) t s [] z h e = absurd h

one_more_sized : (xs : List ℤ) (z : ℤ) → AreSized xs → nat_abs z ≤ 2 ^ 63 → AreSized (xs ++ z ∷ [])
one_more_sized [] z h k = (k, tt)
one_more_sized (x ∷ xs) z h k = (h.0, one_more_sized xs z h.1 k)

module _ (d : Dialect) (s : Store) where
  -- a number
  pub number_known : (a : ℤ) → is_small a ≡ true → value_of d (number_text a) s ≡ Ok (Int a)
  number_known a h = text_has_value d 0 [] (constant_form a) s [] (omega arith) (ap₂ (λ p q. p && q) h refl) tt tt ∙ ap (λ z. Ok (Int z)) (+ℤ_idl a)

  quotient_known : (n : ℕ) (z : ℤ) (e : Expression) → value_of d e s ≡ Ok (Int z) → 1 ≤ n → nat_abs z < 2 ^ 127 → value_of d (divided_text n e) s ≡ Ok (Int (divided n z))
  quotient_known n z e h least size = by (n == 1)
    where
      not_nought : int_eq (pos n) (pos 0) ≡ false
      not_nought = by_test (int_eq (pos n) (pos 0)) refl
        where
          by_test : (b : Bool) → int_eq (pos n) (pos 0) ≡ b → b ≡ false
          by_test false p = refl
          by_test true p = let same = (Decides-int_eq (pos n) (pos 0)).0 p in let none : n ≡ 0 = cc in absurd (omega (arith, none, least))

      by : (b : Bool) → value_of d (cond b e (Binary Div e (Number (pos n)))) s ≡ Ok (Int (cond b z (int_div z (pos n))))
      by true = h
      by false =
          ap (λ (r : Result Value Fault). do x ← r; apply Div x (Int (pos n))) h
          ∙ (ap (λ b. ranged (cond b (Err ZeroDivide) (Ok (int_div z (pos n))))) not_nought
          ∙ fitting (int_div z (pos n)) (let q = quotient_size z n (omega (arith, least)) in omega (arith, q, size)))

  -- a sum of two forms
  sum_known : (loops : ℕ) (terms : List Expression) (vs : List ℤ) (first : Expression) (f r : Form) (z : ℤ) → loops ≤ 7 → EachHasValue d terms s vs → AreSized vs → is_limited loops r ≡ true
      → value_of d first s ≡ Ok (Int z) → number_at f vs ≡ z → nat_abs z ≤ 2 ^ 40 * 2147483646 → value_of d (sum_text loops terms first f r) s ≡ Ok (Int (z +ℤ number_at r vs))
  sum_known loops terms vs first f r z few values sized limits one is size = by (is_limited loops (sum f r)) refl
    where
      by : (b : Bool) → is_limited loops (sum f r) ≡ b → value_of d (cond b (expressed terms (sum f r)) (Binary Add first (expressed terms r))) s ≡ Ok (Int (z +ℤ number_at r vs))
      by true e = text_has_value d loops terms (sum f r) s vs few e values sized ∙ ap (λ w. Ok (Int w)) (number_at-sum f r vs ∙ ap (λ w. w +ℤ number_at r vs) is)
      by false e =
          let rest = number_size loops r vs few limits sized in
          let whole = abs-sum z (number_at r vs) in
          ap₂ (λ (p q : Result Value Fault). do x ← p; y ← q; apply Add x y) one (text_has_value d loops terms r s vs few limits values sized)
          ∙ fitting (z +ℤ number_at r vs) (omega (arith, rest, whole, size))

module _ (d : Dialect) (a : FormSurroundings) (s : Store) (xs : List ℤ) (few : length a.loops ≤ 7) (values : HaveValues (form_names_of a) s xs) (sized : AreSized xs) where
  pub trip_is : (l : FormLoop) → Turns a xs l → trip_number l.trip xs ≡ pos (count_of xs l)
  trip_is l t = counted_by (trip_number l.trip xs) t.least

  -- the value of a trip, whether the loop turns or not
  pub text_value : (l : FormLoop) → is_limited (length a.loops) l.trip.form ≡ true → 1 ≤ l.trip.divisor → value_of d (form_trip_text (form_names_of a) l.trip) s ≡ Ok (Int (trip_number l.trip xs))
  text_value l limits least =
      let size = number_size (length a.loops) l.trip.form xs few limits sized in
      quotient_known d s l.trip.divisor (number_at l.trip.form xs) (expressed (variables (form_names_of a)) l.trip.form)
      (text_has_value d (length a.loops) (variables (form_names_of a)) l.trip.form s xs few limits (names_have d (form_names_of a) s xs values) sized) least (omega (arith, size))

  pub trip_value : (l : FormLoop) → HasTrip a xs l → value_of d (form_trip_text (form_names_of a) l.trip) s ≡ Ok (Int (trip_number l.trip xs))
  trip_value l t = text_value l t.limits t.divisor

  pub trip_known : (l : FormLoop) → Turns a xs l → value_of d (form_trip_text (form_names_of a) l.trip) s ≡ Ok (Int (pos (count_of xs l)))
  trip_known l t = trip_value l t.trip ∙ ap (λ z. Ok (Int z)) (trip_is l t)

  -- the names and the trip
  abbrev pub with_trip : FormLoop → List ℤ
  with_trip l = xs ++ pos (count_of xs l) ∷ []

  terms_have : (l : FormLoop) → Turns a xs l → EachHasValue d (terms_with (form_names_of a) l.trip) s (with_trip l)
  terms_have l t = one_more_has d (variables (form_names_of a)) (form_trip_text (form_names_of a) l.trip) s xs (pos (count_of xs l)) (names_have d (form_names_of a) s xs values) (trip_known l t)

  terms_sized : (l : FormLoop) → Turns a xs l → AreSized (with_trip l)
  terms_sized l t = one_more_sized xs (pos (count_of xs l)) sized (let m = t.most in omega (arith, m))

  front : (r : Form) (l : FormLoop) → length r.coefficients ≤ length (form_names_of a) → number_at r (with_trip l) ≡ number_at r xs
  front r l h = ap (λ w. w +ℤ r.constant) (weighted_front r.coefficients xs (pos (count_of xs l) ∷ []) (let e = as_long (form_names_of a) s xs values in omega (arith, e, h)))

  trip_form_is : (l : FormLoop) → Turns a xs l → number_at (form_of_trip (form_names_of a) l.trip) (with_trip l) ≡ pos (count_of xs l)
  trip_form_is l t = by (l.trip.divisor == 1) refl
    where
      by : (b : Bool) → (l.trip.divisor == 1) ≡ b → number_at (cond b l.trip.form (unit_form (length (form_names_of a)))) (with_trip l) ≡ pos (count_of xs l)
      by true e = front l.trip.form l t.short ∙ (sym (ap (λ q. cond q (number_at l.trip.form xs) (int_div (number_at l.trip.form xs) (pos l.trip.divisor))) e) ∙ trip_is l t)
      by false e =
          let long = as_long (form_names_of a) s xs values in
          ap (λ n. weighted (replicate n (pos 0) ++ pos 1 ∷ []) (with_trip l) +ℤ pos 0) (sym long)
          ∙ (ap (λ w. w +ℤ pos 0) (weighted_last xs (pos (count_of xs l))) ∙ nothing_more (count_of xs l))
        where
          nothing_more : (n : ℕ) → pos n +ℤ pos 0 ≡ pos n
          nothing_more n = omega (arith, ints)

  -- the bounds of a section
  module _ (l : FormLoop) (t : Turns a xs l) (c : ℤ) (r : Form) (small : is_small c ≡ true) (limits : is_limited (length a.loops) r ≡ true) (short : length r.coefficients ≤ length (form_names_of a)) where
    pub lower_known : value_of d (sum_text (length a.loops) (terms_with (form_names_of a) l.trip) (number_text c) (constant_form c) r) s ≡ Ok (Int (c +ℤ number_at r xs))
    lower_known =
        let size = small_size c small in
        sum_known d s (length a.loops) (terms_with (form_names_of a) l.trip) (with_trip l) (number_text c) (constant_form c) r c few (terms_have l t) (terms_sized l t) limits (number_known d s c small) (+ℤ_idl c) (omega (arith, size))
        ∙ ap (λ w. Ok (Int (c +ℤ w))) (front r l short)

    pub upper_known : value_of d (sum_text (length a.loops) (terms_with (form_names_of a) l.trip) (Binary Mul (number_text c) (form_trip_text (form_names_of a) l.trip)) (multiple c (form_of_trip (form_names_of a) l.trip)) r) s
        ≡ Ok (Int (c *ℤ pos (count_of xs l) +ℤ number_at r xs))
    upper_known =
        let size = product_size c (count_of xs l) (small_size c small) t.most in
        sum_known d s (length a.loops) (terms_with (form_names_of a) l.trip) (with_trip l) (Binary Mul (number_text c) (form_trip_text (form_names_of a) l.trip)) (multiple c (form_of_trip (form_names_of a) l.trip)) r (c *ℤ pos (count_of xs l)) few (terms_have l t) (terms_sized l t) limits
        (ap₂ (λ (p q : Result Value Fault). do x ← p; y ← q; apply Mul x y) (number_known d s c small) (trip_known l t) ∙ fitting (c *ℤ pos (count_of xs l)) (omega (arith, size)))
        (number_at-multiple c (form_of_trip (form_names_of a) l.trip) (with_trip l) ∙ ap (λ w. c *ℤ w) (trip_form_is l t))
        size
        ∙ ap (λ w. Ok (Int (c *ℤ pos (count_of xs l) +ℤ w))) (front r l short)
