-- The numbers of the variables of loops where one loop more stands in them.
use mathlib.Core.Path.{ap₂}
use Rattle.std.proofs.Common.{◌≡◌, refl, sym, ap, ◌∙◌, subst, ◌⊎◌, inl, inr, ℕ, zero, suc, ◌+◌, ◌≤◌, ◌<◌, ◌^◌, ℤ, pos}
use Rattle.std.proofs.Common.{negsuc, ◌+ℤ◌, ◌*ℤ◌, Bool, true, false, cond, List, [], ◌∷◌, ◌++◌, map, length, get_or}
use Rattle.std.proofs.Common.{arith}
use Rattle.std.specs.Prelude.{nat_abs, nat_eq}
use Rattle.std.specs.List.{list_all}
use Rattle.std.proofs.lemmas.Bool.{cases_lt}
use Rattle.std.proofs.lemmas.Bool.Decides.{Decides-ltb, Decides-int_eq}
use Rattle.std.proofs.lemmas.Int.{ints}
use Rattle.std.proofs.lemmas.List.{map-append, get_or_append_left}
use Rattle.std.proofs.Math.IntN.{zero-*ℤ}
use Rattle.std.proofs.Math.Nat.{pow-le-pow_right}
use Rattle.tree.specs.Operators.{fits}
use Rattle.linear_forms.proofs.Sizes.{both}
use Rattle.subscripts.specs.declared.affine.Affine.{Affine}
use Rattle.last_values.specs.normal_forms.Combinations.{number_of_place, coefficient_in}
use Rattle.last_values.specs.normal_forms.NormalLoops.{is_zero, is_unused, has_no_loops, has_no_symbols, is_constant}
use Rattle.last_values.specs.normal_forms.Numbers.{products, number_of_form, variable_numbers}
use Rattle.last_values.specs.declared.normal_forms.loops.NormalLoop.{NormalLoop}
use Rattle.pass_laws.specs.normal_values.Beside.{iteration_at}
use Rattle.pass_laws.proofs.ReadyNests.LoopForms.{HaveZeros}
use Rattle.pass_laws.proofs.ReadyNests.Sums.{Zero}
use Rattle.last_values.specs.declared.normal_forms.places.Place.TheVariants as place

-- ---- numbers of at most 64 bits

pub sized_number : (bits : ℕ) (z : ℤ) → bits ≤ 63 → fits bits z ≡ true → nat_abs z ≤ 2 ^ 63
sized_number bits (pos k) few h = let two : 0 < 2 = omega arith in let p : 2 ^ bits ≤ 2 ^ 63 = pow-le-pow_right two few in let l = (Decides-ltb k (2 ^ bits)).0 h in omega (arith, p, l)
sized_number bits (negsuc k) few h = let two : 0 < 2 = omega arith in let p : 2 ^ bits ≤ 2 ^ 63 = pow-le-pow_right two few in let l = (Decides-ltb k (2 ^ bits)).0 h in omega (arith, p, l)

pub count_fits : (bits k : ℕ) → 31 ≤ bits → k ≤ 2147483647 → fits bits (pos k) ≡ true
count_fits bits k low h = let two : 0 < 2 = omega arith in let p : 2 ^ 31 ≤ 2 ^ bits = pow-le-pow_right two low in (Decides-ltb k (2 ^ bits)).1 (omega (arith, h, p))

-- ---- iterations that a form doesn't depend on

products_same : (n j : ℕ) (c x y : ℕ → ℤ) → ((k : ℕ) → j ≤ k → k < j + n → c k *ℤ x k ≡ c k *ℤ y k) → products n j c x ≡ products n j c y
products_same zero j c x y h = refl
products_same (suc n) j c x y h = ap₂ (λ p q. p +ℤ q) (h j (omega arith) (omega arith)) (products_same n (j + 1) c x y (λ k l m. h k (omega (arith, l)) (omega (arith, m))))

no_times : (a x y : ℤ) → a ≡ pos 0 → a *ℤ x ≡ a *ℤ y
no_times a x y h = ap (λ z. z *ℤ x) h ∙ (zero-*ℤ x ∙ (sym (zero-*ℤ y) ∙ sym (ap (λ z. z *ℤ y) h)))

pub number_same : (n d : ℕ) (x y values : ℕ → ℤ) (a : Affine) → Zero d a → ((k : ℕ) → k < d → x k ≡ y k) → number_of_form n x values a ≡ number_of_form n y values a
number_same n d x y values a zeros same =
    ap (λ p. p +ℤ (products n 0 (λ j. number_of_place a (place.Symbol j)) values +ℤ number_of_place a place.Constant)) (products_same 7 0 (λ k. number_of_place a (place.Loop k)) x y each)
  where
    by : (k : ℕ) → k < 7 → (k < d) ⊎ (d ≤ k) → number_of_place a (place.Loop k) *ℤ x k ≡ number_of_place a (place.Loop k) *ℤ y k
    by k l (inl h) = ap (λ z. number_of_place a (place.Loop k) *ℤ z) (same k h)
    by k l (inr h) = no_times (number_of_place a (place.Loop k)) (x k) (y k) (zeros k h l)

    each : (k : ℕ) → 0 ≤ k → k < 0 + 7 → number_of_place a (place.Loop k) *ℤ x k ≡ number_of_place a (place.Loop k) *ℤ y k
    each k l m = by k (omega (arith, m)) (cases_lt k d)

pub numbers_same : (n d : ℕ) (x y values : ℕ → ℤ) (round : List NormalLoop) → HaveZeros d round → ((k : ℕ) → k < d → x k ≡ y k) → variable_numbers n x values round ≡ variable_numbers n y values round
numbers_same n d x y values [] zeros same = refl
numbers_same n d x y values (r ∷ round) zeros same = ap₂ (λ z zs. z ∷ zs) (number_same n d x y values r.value zeros.0 same) (numbers_same n d x y values round zeros.1 same)

pub iteration_kept : (is : List ℕ) (i k : ℕ) → k < length is → iteration_at (is ++ i ∷ []) k ≡ iteration_at is k
iteration_kept is i k h = ap (λ zs. get_or zs k (pos 0)) (map-append pos is (i ∷ [])) ∙ get_or_append_left (map pos is) (pos i ∷ []) (pos 0) k (subst (λ m. k < m) (sym (length_map is)) h)
  where
    length_map : (is : List ℕ) → length (map pos is) ≡ length is
    length_map [] = refl
    length_map (j ∷ js) = ap suc (length_map js)

-- with one loop more
pub numbers_more : (n : ℕ) (values : ℕ → ℤ) (round : List NormalLoop) (r : NormalLoop) (is : List ℕ) (i : ℕ) → HaveZeros (length round) round → length round ≡ length is
    → variable_numbers n (iteration_at (is ++ i ∷ [])) values (round ++ r ∷ [])
    ≡ variable_numbers n (iteration_at is) values round ++ number_of_form n (iteration_at (is ++ i ∷ [])) values r.value ∷ []
numbers_more n values round r is i zeros long =
    map-append (λ (q : NormalLoop). number_of_form n (iteration_at (is ++ i ∷ [])) values q.value) round (r ∷ [])
    ∙ ap (λ zs. zs ++ number_of_form n (iteration_at (is ++ i ∷ [])) values r.value ∷ [])
    (numbers_same n (length round) (iteration_at (is ++ i ∷ [])) (iteration_at is) values round zeros (λ k h. iteration_kept is i k (subst (λ m. k < m) long h)))

-- ---- constant forms

loops_zero : (zs : List ℤ) (k : ℕ) → list_all is_zero zs ≡ true → get_or zs k (pos 0) ≡ pos 0
loops_zero [] k h = refl
loops_zero (z ∷ zs) zero h = (Decides-int_eq z (pos 0)).0 (both (is_zero z) (list_all is_zero zs) h).0
loops_zero (z ∷ zs) (suc k) h = loops_zero zs k (both (is_zero z) (list_all is_zero zs) h).1

symbols_zero : (ts : List (ℕ × ℤ)) (j : ℕ) → list_all is_unused ts ≡ true → coefficient_in ts j ≡ pos 0
symbols_zero [] j h = refl
symbols_zero (t ∷ ts) j h = by (nat_eq t.0 j) ((Decides-int_eq t.1 (pos 0)).0 (both (is_unused t) (list_all is_unused ts) h).0) (symbols_zero ts j (both (is_unused t) (list_all is_unused ts) h).1)
  where
    by : (b : Bool) → t.1 ≡ pos 0 → coefficient_in ts j ≡ pos 0 → cond b t.1 (coefficient_in ts j) ≡ pos 0
    by true e g = e
    by false e g = g

products_none : (n j : ℕ) (c x : ℕ → ℤ) → ((k : ℕ) → c k ≡ pos 0) → products n j c x ≡ pos 0
products_none zero j c x h = refl
products_none (suc n) j c x h = ap₂ (λ p q. p +ℤ q) (ap (λ z. z *ℤ x j) (h j) ∙ zero-*ℤ (x j)) (products_none n (j + 1) c x h)

pub constant_number : (n : ℕ) (iterations values : ℕ → ℤ) (a : Affine) → is_constant a ≡ true → number_of_form n iterations values a ≡ a.constant
constant_number n iterations values a h =
    let p = both (has_no_loops a) (has_no_symbols a) h in
    ap₂ (λ x y. x +ℤ (y +ℤ a.constant)) (products_none 7 0 (λ k. number_of_place a (place.Loop k)) iterations (λ k. loops_zero a.loops k p.0))
    (products_none n 0 (λ j. number_of_place a (place.Symbol j)) values (λ j. symbols_zero a.syms j p.1))
    ∙ zeros a.constant
  where
    zeros : (z : ℤ) → pos 0 +ℤ (pos 0 +ℤ z) ≡ z
    zeros z = omega (arith, ints)
