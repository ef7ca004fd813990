-- Affine forms within the limits: their numbers, and the values of their texts.
use mathlib.Core.Path.{ap₂}
use Rattle.std.proofs.Common.{◌≡◌, refl, sym, ap, ◌∙◌, subst, ℕ, zero, suc, ◌+◌, ◌-◌, ◌*◌, ◌^◌, ◌≤◌, ◌<◌, ℤ, pos, ◌+ℤ◌}
use Rattle.std.proofs.Common.{true, ◌&&◌, List, [], ◌∷◌, ◌++◌, drop, length, get_or, Ok, arith}
use Rattle.std.specs.Prelude.{nat_abs, nat_le}
use Rattle.std.proofs.lemmas.Bool.{leb-true, le-leb}
use Rattle.std.proofs.lemmas.Int.{ints}
use Rattle.std.proofs.Math.Nat.{mul-le-mul_right}
use Rattle.tree.specs.declared.ops.Value.TheVariants.{Int}
use Rattle.tree.specs.Plain.{Expression}
use Rattle.meaning.specs.Dialect.{Dialect}
use Rattle.meaning.specs.Store.{Store}
use Rattle.meaning.specs.Value.{value_of}
use Rattle.linear_forms.specs.Laws.{AreSized, HoldsSized}
use Rattle.linear_forms.specs.Linear.{Form, HaveValues, weighted, number_at, is_small, all_small, not_zero, is_limited}
use Rattle.linear_forms.specs.Places.{padded, terms_from}
use Rattle.linear_forms.specs.Affines.{IsAffineOf}
use Rattle.linear_forms.specs.Texts.{text_of}
use Rattle.linear_forms.proofs.AffineTexts.{affine_text_has_value}
use Rattle.linear_forms.proofs.Sizes.{both, weighted-size, dropped, abs-sum}
use Rattle.subscripts.specs.declared.affine.Affine.{Affine}
use Rattle.last_values.specs.normal_forms.Combinations.{coefficient_in}
use Rattle.last_values.specs.normal_forms.Numbers.{products, number_of_form, values_from}
use Rattle.last_values.proofs.NormalForms.Numbers.{looked_up}
use Rattle.pass_laws.proofs.NormalValues.Points.{products_same, products_front, values_more, weighted_products, weighted_front}
use Rattle.pass_laws.proofs.NormalValues.Points.{front_taken, front_dropped, past_end}

-- over d loops and n symbols, and within the limits
pub record IsTidy (d n : ℕ) (a : Affine) : Type 0 where
  pub none_behind : (k : ℕ) → d ≤ k → get_or a.loops k (pos 0) ≡ pos 0
  pub loops_small : (k : ℕ) → is_small (get_or a.loops k (pos 0)) ≡ true
  pub symbols : List ℤ
  pub count : length symbols ≡ n
  pub syms : a.syms ≡ padded (terms_from 0 symbols)
  pub symbols_small : all_small symbols ≡ true
  pub few : not_zero symbols ≤ 8
  pub constant_small : is_small a.constant ≡ true

all_small_both : (cs es : List ℤ) → all_small cs ≡ true → all_small es ≡ true → all_small (cs ++ es) ≡ true
all_small_both [] es h k = k
all_small_both (c ∷ cs) es h k =
    let p = both (is_small c) (all_small cs) h in
    ap₂ (λ x y. x && y) p.0 (all_small_both cs es p.1 k)

each_small : (n j : ℕ) (c : ℕ → ℤ) → ((i : ℕ) → is_small (c i) ≡ true) → all_small (values_from n j c) ≡ true
each_small zero j c h = refl
each_small (suc n) j c h = ap₂ (λ x y. x && y) (h j) (each_small n (j + 1) c h)

module _ (d n : ℕ) (a : Affine) (tidy : IsTidy d n a) where
  abbrev loop_at : ℕ → ℤ
  loop_at k = get_or a.loops k (pos 0)

  abbrev symbol_at : ℕ → ℤ
  symbol_at j = coefficient_in a.syms j

  -- the form over d loops and n symbols
  abbrev pub tidy_form : Form
  tidy_form = record { coefficients = values_from d 0 loop_at ++ tidy.symbols; constant = a.constant }

  pub tidy_affine : IsAffineOf d tidy_form a
  tidy_affine = record {
    loops = λ k. ap loop_at (omega arith) ∙ front_taken d 0 k loop_at tidy.symbols (λ i m. tidy.none_behind (0 + i) (omega (arith, m)));
    symbols = tidy.syms ∙ ap (λ es. padded (terms_from 0 es)) (sym (front_dropped d 0 loop_at tidy.symbols));
    constant = refl;
  }

  pub tidy_limited : is_limited d tidy_form ≡ true
  tidy_limited =
      let few : nat_le (not_zero (drop d tidy_form.coefficients)) 8 ≡ true
      = ap (λ es. nat_le (not_zero es) 8) (front_dropped d 0 loop_at tidy.symbols) ∙ le-leb (not_zero tidy.symbols) 8 tidy.few in
      ap₂ (λ x y. x && y) (all_small_both (values_from d 0 loop_at) tidy.symbols (each_small d 0 loop_at tidy.loops_small) tidy.symbols_small)
      (ap₂ (λ x y. x && y) tidy.constant_small few)

  pub symbol_is : (j : ℕ) → symbol_at j ≡ get_or tidy.symbols j (pos 0)
  symbol_is j = ap (λ ts. coefficient_in ts j) tidy.syms ∙ looked_up 0 tidy.symbols (8 - length (terms_from 0 tidy.symbols)) j j (omega arith)

  pub no_symbol_behind : (j : ℕ) → n ≤ j → symbol_at j ≡ pos 0
  no_symbol_behind j h = symbol_is j ∙ past_end tidy.symbols j (subst (λ m. m ≤ j) (sym tidy.count) h)

  module _ (deep : d ≤ 7) (iterations values : ℕ → ℤ) where
    -- the loops behind the d-th don't count
    pub number_front : number_of_form n iterations values a ≡ products d 0 loop_at iterations +ℤ (products n 0 symbol_at values +ℤ a.constant)
    number_front = ap (λ z. z +ℤ (products n 0 symbol_at values +ℤ a.constant)) (products_front d 7 0 loop_at iterations deep (λ i m. tidy.none_behind (0 + i) (omega (arith, m))))

    pub tidy_number : number_at tidy_form (values_from d 0 iterations ++ values_from n 0 values) ≡ number_of_form n iterations values a
    tidy_number =
        let front = weighted_front d 0 loop_at iterations tidy.symbols (values_from n 0 values) in
        let rest = weighted_products n 0 tidy.symbols symbol_at values (λ i m. symbol_is (0 + i) ∙ ap (λ i. get_or tidy.symbols i (pos 0)) (omega arith)) in
        ap (λ z. z +ℤ a.constant) (front ∙ ap (λ z. products d 0 loop_at iterations +ℤ z) (sym rest))
        ∙ (grouped (products d 0 loop_at iterations) (products n 0 symbol_at values) a.constant ∙ sym number_front)
      where
        grouped : (p q r : ℤ) → (p +ℤ q) +ℤ r ≡ p +ℤ (q +ℤ r)
        grouped p q r = omega (arith, ints)

  pub number_same : d ≤ 7 → (x y values : ℕ → ℤ) → ((k : ℕ) → k < d → x k ≡ y k) → number_of_form n x values a ≡ number_of_form n y values a
  number_same deep x y values h =
      number_front deep x values
      ∙ (ap (λ z. z +ℤ (products n 0 symbol_at values +ℤ a.constant)) (products_same d 0 loop_at x y (λ i m. h i (omega (arith, m))))
      ∙ sym (number_front deep y values))

  -- one more symbol doesn't count
  pub number_more : (iterations values more : ℕ → ℤ) → ((j : ℕ) → j < n → more j ≡ values j) → number_of_form (suc n) iterations more a ≡ number_of_form n iterations values a
  number_more iterations values more h =
      let last : products (suc n) 0 symbol_at more ≡ products n 0 symbol_at more
      = products_front n (suc n) 0 symbol_at more (omega arith) (λ i m. no_symbol_behind (0 + i) (omega (arith, m))) in
      ap (λ z. products 7 0 loop_at iterations +ℤ (z +ℤ a.constant)) (last ∙ products_same n 0 symbol_at more values (λ i m. h i (omega (arith, m))))

  -- ---- sizes

  pub number_size : d ≤ 7 → (xs : List ℤ) → AreSized xs → nat_abs (number_at tidy_form xs) < 2 ^ 126
  number_size deep xs sized =
      let parts = both (all_small tidy_form.coefficients) (is_small a.constant && nat_le (not_zero (drop d tidy_form.coefficients)) 8) tidy_limited in
      let more = both (is_small a.constant) (nat_le (not_zero (drop d tidy_form.coefficients)) 8) parts.1 in
      let count : not_zero tidy_form.coefficients ≤ 15 =
      let all = dropped d tidy_form.coefficients in let eight = leb-true (not_zero (drop d tidy_form.coefficients)) 8 more.1 in omega (arith, all, eight, deep) in
      let terms = weighted-size tidy_form.coefficients xs parts.0 sized in
      let most : not_zero tidy_form.coefficients * (2 ^ 40 * 2 ^ 63) ≤ 15 * (2 ^ 40 * 2 ^ 63) = mul-le-mul_right (2 ^ 40 * 2 ^ 63) count in
      let constant = leb-true (nat_abs a.constant) (2 ^ 40) more.0 in
      let whole = abs-sum (weighted tidy_form.coefficients xs) a.constant in
      omega (arith, terms, most, constant, whole)

-- ---- sizes of what names hold

pub sized_values : (names : List (List ℕ)) (s : Store) (xs : List ℤ) → HoldsSized s → HaveValues names s xs → AreSized xs
sized_values [] s [] h k = tt
sized_values [] s (x ∷ xs) h k = absurd k
sized_values (y ∷ ys) s [] h k = absurd k
sized_values (y ∷ ys) s (x ∷ xs) h k = (h (record { name = y; subscripts = [] }) x k.1, sized_values ys s xs h k.2)

pub both_values : (xs ys : List (List ℕ)) (s : Store) (us vs : List ℤ) → HaveValues xs s us → HaveValues ys s vs → HaveValues (xs ++ ys) s (us ++ vs)
both_values [] ys s [] vs h k = k
both_values [] ys s (u ∷ us) vs h k = absurd h
both_values (x ∷ xs) ys s [] vs h k = absurd h
both_values (x ∷ xs) ys s (u ∷ us) vs h k = (h.0, h.1, both_values xs ys s us vs h.2 k)

-- ---- the value of a text

module _ (lang : Dialect) (loops symbols : List (List ℕ)) (s : Store) (sized : HoldsSized s) (iterations values : ℕ → ℤ)
    (here : HaveValues loops s (values_from (length loops) 0 iterations)) (known : HaveValues symbols s (values_from (length symbols) 0 values)) (deep : length loops ≤ 7) where
  abbrev all_values : List ℤ
  all_values = values_from (length loops) 0 iterations ++ values_from (length symbols) 0 values

  pub all_have_values : HaveValues (loops ++ symbols) s all_values
  all_have_values = both_values loops symbols s (values_from (length loops) 0 iterations) (values_from (length symbols) 0 values) here known

  pub all_sized : AreSized all_values
  all_sized = sized_values (loops ++ symbols) s all_values sized all_have_values

  pub tidy_text : (a : Affine) → IsTidy (length loops) (length symbols) a → value_of lang (text_of loops symbols [] a) s ≡ Ok (Int (number_of_form (length symbols) iterations values a))
  tidy_text a tidy =
      affine_text_has_value lang loops symbols [] (tidy_form (length loops) (length symbols) a tidy) a s all_values [] deep
      (tidy_limited (length loops) (length symbols) a tidy) (tidy_affine (length loops) (length symbols) a tidy) all_have_values tt all_sized tt
      ∙ ap (λ xs. Ok (Int (number_at (tidy_form (length loops) (length symbols) a tidy) xs))) (nil all_values)
      ∙ ap (λ z. Ok (Int z)) (tidy_number (length loops) (length symbols) a tidy deep iterations values)
    where
      nil : (xs : List ℤ) → xs ++ [] ≡ xs
      nil [] = refl
      nil (x ∷ xs) = ap (λ l. x ∷ l) (nil xs)

  pub tidy_size : (a : Affine) → IsTidy (length loops) (length symbols) a → nat_abs (number_of_form (length symbols) iterations values a) < 2 ^ 126
  tidy_size a tidy =
      subst (λ z. nat_abs z < 2 ^ 126) (tidy_number (length loops) (length symbols) a tidy deep iterations values)
      (number_size (length loops) (length symbols) a tidy deep all_values all_sized)

  -- with a divided trip behind the symbols
  pub tidy_text_behind : (a : Affine) (trip : Expression) (z : ℤ) (more : ℕ → ℤ) → IsTidy (length loops) (suc (length symbols)) a → value_of lang trip s ≡ Ok (Int z) → nat_abs z ≤ 2 ^ 63
      → values_from (length symbols) 0 values ≡ values_from (length symbols) 0 more → more (length symbols) ≡ z
      → value_of lang (text_of loops symbols (trip ∷ []) a) s ≡ Ok (Int (number_of_form (suc (length symbols)) iterations more a))
  tidy_text_behind a trip z more tidy value small before last =
      let n = length symbols in
      let its : List ℤ = values_from (length loops) 0 iterations in
      let whole : all_values ++ z ∷ [] ≡ its ++ values_from (suc n) 0 more
      = assoc its (values_from n 0 values) (z ∷ []) ∙ ap (λ l. its ++ l) (ap₂ (λ l y. l ++ y ∷ []) before (sym last ∙ ap more (omega arith)) ∙ sym (values_more n 0 more)) in
      affine_text_has_value lang loops symbols (trip ∷ []) (tidy_form (length loops) (suc n) a tidy) a s all_values (z ∷ []) deep
      (tidy_limited (length loops) (suc n) a tidy) (tidy_affine (length loops) (suc n) a tidy) all_have_values (value, tt) all_sized (small, tt)
      ∙ ap (λ xs. Ok (Int (number_at (tidy_form (length loops) (suc n) a tidy) xs))) whole
      ∙ ap (λ z. Ok (Int z)) (tidy_number (length loops) (suc n) a tidy deep iterations more)
    where
      assoc : (xs ys zs : List ℤ) → (xs ++ ys) ++ zs ≡ xs ++ (ys ++ zs)
      assoc [] ys zs = refl
      assoc (x ∷ xs) ys zs = ap (λ l. x ∷ l) (assoc xs ys zs)
