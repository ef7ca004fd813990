-- The number of a bound over the counters of the loops round it.
use mathlib.Core.Path.{ap₂}
use Rattle.std.proofs.Common.{◌≡◌, refl, sym, ap, ◌∙◌, subst, ℕ, zero, suc, ◌+◌, ◌-◌, ◌<◌, ℤ, pos, ◌+ℤ◌, ◌*ℤ◌, List, [], ◌∷◌, ◌++◌, map, take, drop, length, get_or, Option, Some, None, arith}
use Rattle.std.proofs.lemmas.Int.{ints}
use Rattle.std.proofs.Math.IntN.{zero-*ℤ}
use Rattle.tree.specs.Plain.{Expression}
use Rattle.linear_forms.specs.Linear.{Form, form_of, number_at, weighted}
use Rattle.linear_forms.specs.Places.{padded, terms_from}
use Rattle.subscripts.specs.declared.affine.Affine.{Affine}
use Rattle.last_values.specs.declared.normal_forms.combinations.Multiple.{Multiple}
use Rattle.last_values.specs.declared.normal_forms.loops.NormalLoop.{NormalLoop}
use Rattle.last_values.specs.declared.normal_forms.places.Place.TheVariants as place
use Rattle.last_values.specs.normal_forms.Steps.{◌>>=◌}
use Rattle.last_values.specs.normal_forms.Combinations.{number_of_place, combination, affine_of, without_loops, times}
use Rattle.last_values.specs.normal_forms.NormalLoops as loops
use Rattle.last_values.specs.normal_forms.Numbers.{products, number_of_form, sum_of_numbers, values_from, variable_numbers, BoundHasNumber}
use Rattle.last_values.proofs.NormalForms.Numbers.{products-alike, products-zero, looked_up, combination_has_number}

-- products place by place are those of two lists
products-weighted : (n j : ℕ) (es : List ℤ) (c v : ℕ → ℤ) → ((i : ℕ) → i < n → c (j + i) ≡ get_or es i (pos 0)) → products n j c v ≡ weighted es (values_from n j v)
products-weighted zero j [] c v h = refl
products-weighted zero j (e ∷ es) c v h = refl
products-weighted (suc n) j [] c v h =
    ap₂ (λ x y. x *ℤ v j +ℤ y) (ap c (omega arith) ∙ h 0 (omega arith)) (products-weighted n (j + 1) [] c v (λ i k. ap c (omega arith) ∙ h (suc i) (omega (arith, k))))
    ∙ ap (λ z. z +ℤ weighted [] (values_from n (j + 1) v)) (zero-*ℤ (v j))
products-weighted (suc n) j (e ∷ es) c v h =
    ap₂ (λ x y. x *ℤ v j +ℤ y) (ap c (omega arith) ∙ h 0 (omega arith)) (products-weighted n (j + 1) es c v (λ i k. ap c (omega arith) ∙ h (suc i) (omega (arith, k))))

module _ (n : ℕ) (iterations values : ℕ → ℤ) where
  abbrev Number : Affine → ℤ
  Number = number_of_form n iterations values

  abbrev Sum : List Multiple → ℤ
  Sum = sum_of_numbers n iterations values

  sum-append : (ts us : List Multiple) → Sum (ts ++ us) ≡ Sum ts +ℤ Sum us
  sum-append [] us = zero_left (Sum us)
    where
      zero_left : (z : ℤ) → z ≡ pos 0 +ℤ z
      zero_left z = omega (arith, ints)
  sum-append (t ∷ ts) us = ap (λ z. t.times *ℤ Number t.form +ℤ z) (sum-append ts us) ∙ grouped (t.times *ℤ Number t.form) (Sum ts) (Sum us)
    where
      grouped : (p q r : ℤ) → p +ℤ (q +ℤ r) ≡ (p +ℤ q) +ℤ r
      grouped p q r = omega (arith, ints)

  -- the variables as they stand in a form
  variables-number : (a : Affine) (k : ℕ) (round : List NormalLoop) (cs : List ℤ) → ((i : ℕ) → i < length round → number_of_place a (place.Loop (k + i)) ≡ get_or cs i (pos 0))
      → Sum (loops.variable_values_from k a round) ≡ weighted (take (length round) cs) (variable_numbers n iterations values round)
  variables-number a k [] cs h = none cs
    where
      none : (cs : List ℤ) → pos 0 ≡ weighted (take 0 cs) []
      none [] = refl
      none (c ∷ cs) = refl
  variables-number a k (r ∷ rs) [] h =
      ap₂ (λ x y. x *ℤ Number r.value +ℤ y) (ap (λ i. number_of_place a (place.Loop i)) (omega arith) ∙ h 0 (omega arith))
      (variables-number a (k + 1) rs [] (λ i m. ap (λ i. number_of_place a (place.Loop i)) (omega arith) ∙ h (suc i) (omega (arith, m))))
      ∙ (ap₂ (λ x y. x +ℤ y) (zero-*ℤ (Number r.value)) (nothing (length rs)))
    where
      nothing : (m : ℕ) → weighted (take m []) (variable_numbers n iterations values rs) ≡ pos 0
      nothing zero = refl
      nothing (suc m) = refl
  variables-number a k (r ∷ rs) (c ∷ cs) h =
      ap₂ (λ x y. x *ℤ Number r.value +ℤ y) (ap (λ i. number_of_place a (place.Loop i)) (omega arith) ∙ h 0 (omega arith))
      (variables-number a (k + 1) rs cs (λ i m. ap (λ i. number_of_place a (place.Loop i)) (omega arith) ∙ h (suc i) (omega (arith, m))))

  -- the symbols and the constant of a form
  rest-number : (d : ℕ) (f : Form) → Number (without_loops (affine_of d f)) ≡ weighted (drop d f.coefficients) (values_from n 0 values) +ℤ f.constant
  rest-number d f =
      ap (λ z. z +ℤ (products n 0 (λ j. number_of_place (affine_of d f) (place.Symbol j)) values +ℤ f.constant)) (products-alike 7 0 (λ k. number_of_place (without_loops (affine_of d f)) (place.Loop k)) (λ k. pos 0) iterations (λ k m. none k (omega (arith, m))) ∙ products-zero 7 0 iterations)
      ∙ (zero_left (products n 0 (λ j. number_of_place (affine_of d f) (place.Symbol j)) values +ℤ f.constant)
      ∙ ap (λ z. z +ℤ f.constant) (products-weighted n 0 (drop d f.coefficients) (λ j. number_of_place (affine_of d f) (place.Symbol j)) values
      (λ i m. looked_up 0 (drop d f.coefficients) (8 - length (terms_from 0 (drop d f.coefficients))) i (0 + i) refl)))
    where
      zero_left : (z : ℤ) → pos 0 +ℤ z ≡ z
      zero_left z = omega (arith, ints)

      none : (k : ℕ) → k < 7 → number_of_place (without_loops (affine_of d f)) (place.Loop k) ≡ pos 0
      none zero m = refl
      none (suc zero) m = refl
      none (suc (suc zero)) m = refl
      none (suc (suc (suc zero))) m = refl
      none (suc (suc (suc (suc zero)))) m = refl
      none (suc (suc (suc (suc (suc zero))))) m = refl
      none (suc (suc (suc (suc (suc (suc zero)))))) m = refl
      none (suc (suc (suc (suc (suc (suc (suc k))))))) m = absurd (omega (arith, m))

-- the front and the rest of a list
weighted-parted : (cs xs ys : List ℤ) → weighted cs (xs ++ ys) ≡ weighted (take (length xs) cs) xs +ℤ weighted (drop (length xs) cs) ys
weighted-parted cs [] ys = none cs
  where
    zero_left : (z : ℤ) → z ≡ pos 0 +ℤ z
    zero_left z = omega (arith, ints)

    none : (cs : List ℤ) → weighted cs ys ≡ weighted (take 0 cs) [] +ℤ weighted (drop 0 cs) ys
    none [] = refl
    none (c ∷ cs) = zero_left (weighted (c ∷ cs) ys)
weighted-parted [] (x ∷ xs) ys = refl
weighted-parted (c ∷ cs) (x ∷ xs) ys = ap (λ z. c *ℤ x +ℤ z) (weighted-parted cs xs ys) ∙ grouped (c *ℤ x) (weighted (take (length xs) cs) xs) (weighted (drop (length xs) cs) ys)
  where
    grouped : (p q r : ℤ) → p +ℤ (q +ℤ r) ≡ (p +ℤ q) +ℤ r
    grouped p q r = omega (arith, ints)

length-numbers : (n : ℕ) (iterations values : ℕ → ℤ) (rs : List NormalLoop) → length (variable_numbers n iterations values rs) ≡ length rs
length-numbers n iterations values [] = refl
length-numbers n iterations values (r ∷ rs) = ap suc (length-numbers n iterations values rs)

front-of : (cs : List ℤ) (d i : ℕ) → i < d → get_or (take d cs) i (pos 0) ≡ get_or cs i (pos 0)
front-of cs zero i h = absurd (omega (arith, h))
front-of [] (suc d) i h = refl
front-of (c ∷ cs) (suc d) zero h = refl
front-of (c ∷ cs) (suc d) (suc i) h = front-of cs d i (omega (arith, h))

pub bound_has_number : BoundHasNumber
unfolding loops.bound_form
bound_has_number symbols round e more f a iterations values h g =
    let n = length symbols in
    let d = length round in
    let b : Affine = affine_of d f in
    let here : combination n (loops.with_counters round b ++ more) ≡ Some a = sym (ap (λ o. o >>= λ f. combination n (loops.with_counters round (affine_of d f) ++ more)) h) ∙ g in
    let ws : List ℤ = variable_numbers n iterations values round in
    let vs : List ℤ = values_from n 0 values in
    let same : length ws ≡ d = length-numbers n iterations values round in
    let front = variables-number n iterations values b 0 round f.coefficients (λ i m. front-of f.coefficients d (0 + i) (omega (arith, m)) ∙ ap (λ i. get_or f.coefficients i (pos 0)) (omega arith)) in
    let rest = rest-number n iterations values d f in
    let whole = weighted-parted f.coefficients ws vs in
    let parts = ap₂ (λ (p q : ℕ). weighted (take p f.coefficients) ws +ℤ weighted (drop q f.coefficients) vs) same same in
    combination_has_number n (loops.with_counters round b ++ more) a iterations values here
    ∙ (sum-append n iterations values (loops.with_counters round b) more
    ∙ ap (λ z. z +ℤ sum_of_numbers n iterations values more)
    (sum-append n iterations values (loops.variable_values_from 0 b round) (times (pos 1) (without_loops b) ∷ [])
    ∙ (ap₂ (λ p q. p +ℤ (pos 1 *ℤ q +ℤ pos 0)) front rest
    ∙ (single (weighted (take d f.coefficients) ws) (weighted (drop d f.coefficients) vs) f.constant
    ∙ ap (λ z. z +ℤ f.constant) (sym (whole ∙ parts))))))
  where
    single : (p q c : ℤ) → p +ℤ (pos 1 *ℤ (q +ℤ c) +ℤ pos 0) ≡ (p +ℤ q) +ℤ c
    single p q c = omega (arith, ints)
