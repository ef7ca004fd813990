-- The text that stands for a loop's variable has the number of its form.
use mathlib.Core.Path.{ap₂}
use Rattle.std.proofs.Common.{◌≡◌, refl, sym, ap, ◌∙◌, subst, ℕ, zero, suc, ◌+◌, ◌≤◌, ◌<◌, ℤ, pos, ◌+ℤ◌, ◌*ℤ◌, true}
use Rattle.std.proofs.Common.{List, [], ◌∷◌, length, get_or, Ok, arith}
use Rattle.std.proofs.lemmas.Int.{ints}
use Rattle.tree.specs.declared.ops.Value.TheVariants.{Int}
use Rattle.meaning.specs.Dialect.{Dialect}
use Rattle.meaning.specs.Store.{Store}
use Rattle.meaning.specs.Value.{value_of}
use Rattle.linear_forms.specs.Laws.{HoldsSized}
use Rattle.linear_forms.specs.Linear.{HaveValues, is_small}
use Rattle.nest.specs.Plain.{Loop}
use Rattle.subscripts.specs.declared.affine.Affine.{Affine}
use Rattle.last_values.specs.declared.normal_forms.loops.NormalLoop.{NormalLoop}
use Rattle.last_values.specs.normal_forms.Combinations.{coefficient_in}
use Rattle.last_values.specs.normal_forms.NormalLoops.{counters_of}
use Rattle.last_values.specs.normal_forms.Numbers.{products, number_of_form, values_from}
use Rattle.last_values.specs.normal_forms.Texts.{counter_first, variable_text}
use Rattle.pass_laws.proofs.NormalValues.Affine.{IsTidy, number_front, tidy_text}
use Rattle.pass_laws.proofs.NormalValues.Forms.{AreOver, below_tidy, value_number}
use Rattle.pass_laws.proofs.NormalValues.Points.{values_next}
use Rattle.pass_laws.proofs.NormalValues.Steps.{IsMade}

pub counters_count : (rs : List NormalLoop) → length (counters_of rs) ≡ length rs
counters_count [] = refl
counters_count (r ∷ rs) = ap suc (counters_count rs)

-- one more iteration before the others
abbrev first_before : ℤ → (ℕ → ℤ) → ℕ → ℤ
first_before z x zero = z
first_before z x (suc k) = x k

products_behind : (n j : ℕ) (c b : ℕ → ℤ) (z : ℤ) (x : ℕ → ℤ) → ((i : ℕ) → i < j + n → c (suc i) ≡ b i) → products n (suc j) c (first_before z x) ≡ products n j b x
products_behind zero j c b z x h = refl
products_behind (suc n) j c b z x h =
    ap₂ (λ p q. p *ℤ x j +ℤ q) (h j (omega arith))
    (ap (λ i. products n i c (first_before z x)) (omega arith) ∙ products_behind n (j + 1) c b z x (λ i k. h i (omega (arith, k))))

-- ---- the form with the loop's own counter first

module _ (d n : ℕ) (step : ℤ) (a : Affine) (deep : d < 7) (small : is_small step ≡ true) (tidy : IsTidy d n a) where
  abbrev moved : Affine
  moved = counter_first step a

  moved_at : (k : ℕ) → k < 6 → get_or moved.loops (suc k) (pos 0) ≡ get_or a.loops k (pos 0)
  moved_at zero h = refl
  moved_at (suc zero) h = refl
  moved_at (suc (suc zero)) h = refl
  moved_at (suc (suc (suc zero))) h = refl
  moved_at (suc (suc (suc (suc zero)))) h = refl
  moved_at (suc (suc (suc (suc (suc zero))))) h = refl
  moved_at (suc (suc (suc (suc (suc (suc k)))))) h = absurd (omega (arith, h))

  moved_behind : (k : ℕ) → suc d ≤ k → get_or moved.loops k (pos 0) ≡ pos 0
  moved_behind zero h = absurd (omega (arith, h))
  moved_behind (suc zero) h = tidy.none_behind 0 (omega (arith, h))
  moved_behind (suc (suc zero)) h = tidy.none_behind 1 (omega (arith, h))
  moved_behind (suc (suc (suc zero))) h = tidy.none_behind 2 (omega (arith, h))
  moved_behind (suc (suc (suc (suc zero)))) h = tidy.none_behind 3 (omega (arith, h))
  moved_behind (suc (suc (suc (suc (suc zero))))) h = tidy.none_behind 4 (omega (arith, h))
  moved_behind (suc (suc (suc (suc (suc (suc zero)))))) h = tidy.none_behind 5 (omega (arith, h))
  moved_behind (suc (suc (suc (suc (suc (suc (suc k))))))) h = refl

  moved_small : (k : ℕ) → is_small (get_or moved.loops k (pos 0)) ≡ true
  moved_small zero = small
  moved_small (suc zero) = tidy.loops_small 0
  moved_small (suc (suc zero)) = tidy.loops_small 1
  moved_small (suc (suc (suc zero))) = tidy.loops_small 2
  moved_small (suc (suc (suc (suc zero)))) = tidy.loops_small 3
  moved_small (suc (suc (suc (suc (suc zero))))) = tidy.loops_small 4
  moved_small (suc (suc (suc (suc (suc (suc zero)))))) = tidy.loops_small 5
  moved_small (suc (suc (suc (suc (suc (suc (suc k))))))) = refl

  moved_tidy : IsTidy (suc d) n moved
  moved_tidy = record {
    none_behind = moved_behind;
    loops_small = moved_small;
    symbols = tidy.symbols;
    count = tidy.count;
    syms = tidy.syms;
    symbols_small = tidy.symbols_small;
    few = tidy.few;
    constant_small = tidy.constant_small;
  }

  moved_number : (z : ℤ) (iterations values : ℕ → ℤ) → number_of_form n (first_before z iterations) values moved ≡ number_of_form n iterations values a +ℤ step *ℤ z
  moved_number z iterations values =
      number_front (suc d) n moved moved_tidy (omega (arith, deep)) (first_before z iterations) values
      ∙ (ap (λ p. (step *ℤ z +ℤ p) +ℤ (products n 0 (coefficient_in a.syms) values +ℤ a.constant))
      (products_behind d 0 (λ k. get_or moved.loops k (pos 0)) (λ k. get_or a.loops k (pos 0)) z iterations (λ i h. moved_at i (omega (arith, h, deep))))
      ∙ (turned (step *ℤ z) (products d 0 (λ k. get_or a.loops k (pos 0)) iterations) (products n 0 (coefficient_in a.syms) values +ℤ a.constant)
      ∙ ap (λ p. p +ℤ step *ℤ z) (sym (number_front d n a tidy (omega (arith, deep)) iterations values))))
    where
      turned : (p q r : ℤ) → (p +ℤ q) +ℤ r ≡ (q +ℤ r) +ℤ p
      turned p q r = omega (arith, ints)

-- ---- the text

module _ (lang : Dialect) (symbols : List (List ℕ)) (outer : List NormalLoop) (l : Loop) (r : NormalLoop) (made : IsMade symbols outer l r) (over : AreOver (length outer) outer)
    (s : Store) (sized : HoldsSized s) (iterations values : ℕ → ℤ) where
  abbrev d : ℕ
  d = length outer

  pub value_text_number : HaveValues (counters_of outer) s (values_from (length outer) 0 iterations) → HaveValues (r.counter ∷ []) s (iterations (length outer) ∷ [])
      → HaveValues symbols s (values_from (length symbols) 0 values)
      → value_of lang (variable_text symbols outer r) s ≡ Ok (Int (number_of_form (length symbols) iterations values r.value))
  unfolding variable_text
  value_text_number here own known =
      let n = length symbols in
      let z = iterations d in
      let loops : List (List ℕ) = r.counter ∷ counters_of outer in
      let count : length loops ≡ suc d = ap suc (counters_count outer) in
      let small : is_small r.step ≡ true = ap is_small made.step ∙ made.step_small in
      let below = below_tidy symbols outer l r made over in
      let tidy : IsTidy (length loops) n (counter_first r.step r.below) = subst (λ m. IsTidy m n (counter_first r.step r.below)) (sym count) (moved_tidy d n r.step r.below made.deep small below) in
      let all : HaveValues loops s (values_from (length loops) 0 (first_before z iterations)) =
      subst (λ m. HaveValues loops s (values_from m 0 (first_before z iterations))) (sym count)
      (subst (λ l. HaveValues loops s (z ∷ l)) (sym (values_next d 0 (first_before z iterations) iterations (λ i. refl))) (own.0, own.1, here)) in
      let deep : length loops ≤ 7 = (let e = made.deep in omega (arith, e, count)) in
      tidy_text lang loops symbols s sized (first_before z iterations) values all known deep (counter_first r.step r.below) tidy
      ∙ ap (λ w. Ok (Int w)) (moved_number d n r.step r.below made.deep small below z iterations values
      ∙ (ap (λ k. number_of_form n iterations values r.below +ℤ k *ℤ z) made.step ∙ sym (value_number symbols outer l r made over iterations values)))
