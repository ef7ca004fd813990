-- The forms that stand for an induction have its values.
use Rattle.std.proofs.Common.{◌≡◌, sym, ap, ◌∙◌, ℕ, ◌^◌, ◌<◌, ◌≤◌, ℤ, pos, negsuc, neg_ℤ, ◌+ℤ◌, ◌-ℤ◌, ◌*ℤ◌, Bool, true, false, cond, List, [], ◌∷◌, Ok, Some, arith}
use Rattle.std.specs.Prelude.{nat_abs, nat_le}
use Rattle.std.proofs.lemmas.Int.{ints}
use Rattle.std.proofs.lemmas.Bool.Decides.{Decides-ltb}
use Rattle.std.proofs.Math.IntN.{*ℤ-one, *ℤ_comm, one}
use Rattle.std.proofs.Math.Nat.{pow-le-pow_right}
use Rattle.tree.specs.Steps.{◌>>=◌}
use Rattle.tree.specs.declared.ops.Value.{Value}
use Rattle.tree.specs.declared.ops.Value.TheVariants.{Int}
use Rattle.tree.specs.Plain.{Named, no_subscripts}
use Rattle.meaning.specs.Store.{Store, cell_in}
use Rattle.meaning.specs.Value.{value_of, is_in_range}
use Rattle.rewrite.specs.Following.{sequential}
use Rattle.linear_forms.specs.Expressed.{expressed, variables}
use Rattle.linear_forms.specs.Linear.{is_limited}
use Rattle.linear_forms.proofs.Expressed.{text_has_value}
use Rattle.nest_steps.specs.Statements.{cell_of}
use Rattle.inductions.specs.Growing.{counter_form}
use Rattle.inductions.specs.Putting.{induction_text}
use Rattle.inductions.specs.Together.{IsInduction}
use Rattle.inductions.specs.declared.found.Induction.{Induction}
use Rattle.inductions.proofs.Ring.{spread_left}

power : (m n : ℕ) → m ≤ n → 2 ^ m ≤ 2 ^ n
power m n h = let two : 0 < 2 = omega arith in pow-le-pow_right two h

-- numbers of INTEGER are of 64 bits
pub sized : (bits : ℕ) → bits ≤ 63 → (z : ℤ) → is_in_range bits (Int z) ≡ true → nat_abs z ≤ 2 ^ 63
sized bits high (pos n) h = let p = power bits 63 high in let l = (Decides-ltb n (2 ^ bits)).0 h in omega (arith, p, l)
sized bits high (negsuc n) h = let p = power bits 63 high in let l = (Decides-ltb n (2 ^ bits)).0 h in omega (arith, p, l)

-- ---- numbers

pub grown : (c i : ℤ) → (c *ℤ (i -ℤ pos 1)) +ℤ c ≡ c *ℤ i
unfolding one
grown c i = ap (λ z. (c *ℤ (i -ℤ pos 1)) +ℤ z) (sym (*ℤ-one c)) ∙ (sym (spread_left c (i -ℤ pos 1) (pos 1)) ∙ ap (λ z. c *ℤ z) (back i))
  where
    back : (a : ℤ) → (a -ℤ pos 1) +ℤ pos 1 ≡ a
    back a = omega (arith, ints)

one_times : (x : ℤ) → pos 1 *ℤ x ≡ x
unfolding one
one_times x = *ℤ_comm (pos 1) x ∙ *ℤ-one x

behind_number : (c i x0 : ℤ) → (c *ℤ i +ℤ (pos 1 *ℤ x0 +ℤ pos 0)) +ℤ pos 0 ≡ x0 +ℤ c *ℤ i
behind_number c i x0 = ap (λ z. (c *ℤ i +ℤ (z +ℤ pos 0)) +ℤ pos 0) (one_times x0) ∙ turned (c *ℤ i) x0
  where
    turned : (a x : ℤ) → (a +ℤ (x +ℤ pos 0)) +ℤ pos 0 ≡ x +ℤ a
    turned a x = omega (arith, ints)

before_number : (c i x0 : ℤ) → (c *ℤ i +ℤ (pos 1 *ℤ x0 +ℤ pos 0)) +ℤ neg_ℤ c ≡ x0 +ℤ c *ℤ (i -ℤ pos 1)
before_number c i x0 =
    ap (λ z. (c *ℤ i +ℤ (z +ℤ pos 0)) +ℤ neg_ℤ c) (one_times x0)
    ∙ (ap (λ z. (z +ℤ (x0 +ℤ pos 0)) +ℤ neg_ℤ c) (sym (grown c i)) ∙ turned (c *ℤ (i -ℤ pos 1)) c x0)
  where
    turned : (a c x : ℤ) → ((a +ℤ c) +ℤ (x +ℤ pos 0)) +ℤ neg_ℤ c ≡ x +ℤ a
    turned a c x = omega (arith, ints)

-- ---- texts

held_value : (bits : ℕ) (x : List ℕ) (v : Value) (u : Store) → u.bounds x ≡ Some [] → u.held (cell_of x) ≡ v → value_of (sequential bits) (Named x no_subscripts) u ≡ Ok v
held_value bits x v u b h = ap (λ o. do c ← cell_in o x []; Ok (u.held c)) b ∙ ap Ok h

module _ (bits : ℕ) (high : bits ≤ 63) (counter : List ℕ) (counters : List ℕ → Bool) (d : Induction) (is : IsInduction counter counters d) where
  valued : (k x0 : ℤ) (i : ℕ) (u : Store) → is_limited 1 (counter_form d.step k) ≡ true → is_in_range bits (Int x0) ≡ true → is_in_range bits (Int (pos i)) ≡ true
      → u.bounds d.name ≡ Some [] → u.bounds counter ≡ Some [] → u.held (cell_of d.name) ≡ Int x0 → u.held (cell_of counter) ≡ Int (pos i)
      → value_of (sequential bits) (expressed (variables (counter ∷ d.name ∷ [])) (counter_form d.step k)) u ≡ Ok (Int ((d.step *ℤ pos i +ℤ (pos 1 *ℤ x0 +ℤ pos 0)) +ℤ k))
  valued k x0 i u small r t b e h g = text_has_value (sequential bits) 1 (variables (counter ∷ d.name ∷ [])) (counter_form d.step k) u (pos i ∷ x0 ∷ []) (omega arith) small
      (held_value bits counter (Int (pos i)) u e g, (held_value bits d.name (Int x0) u b h, tt)) (sized bits high (pos i) t, (sized bits high x0 r, tt))

  -- where the scalar was x0 before the nest, in the turn i
  pub text_is_right : (k : ℕ) (x0 : ℤ) (i : ℕ) (u : Store) → is_in_range bits (Int x0) ≡ true → is_in_range bits (Int (pos i)) ≡ true
      → u.bounds d.name ≡ Some [] → u.bounds counter ≡ Some [] → u.held (cell_of d.name) ≡ Int x0 → u.held (cell_of counter) ≡ Int (pos i)
      → value_of (sequential bits) (induction_text counter d k) u ≡ Ok (Int (x0 +ℤ d.step *ℤ cond (nat_le k d.place) (pos i -ℤ pos 1) (pos i)))
  text_is_right k x0 i u r t b e h g = by (nat_le k d.place)
    where
      by : (q : Bool) → value_of (sequential bits) (expressed (variables (counter ∷ d.name ∷ [])) (counter_form d.step (cond q d.less (pos 0)))) u
          ≡ Ok (Int (x0 +ℤ d.step *ℤ cond q (pos i -ℤ pos 1) (pos i)))
      by true =
          ap (λ z. value_of (sequential bits) (expressed (variables (counter ∷ d.name ∷ [])) (counter_form d.step z)) u) is.less
          ∙ (valued (neg_ℤ d.step) x0 i u is.before r t b e h g ∙ ap (λ z. Ok (Int z)) (before_number d.step (pos i) x0))
      by false = valued (pos 0) x0 i u is.behind r t b e h g ∙ ap (λ z. Ok (Int z)) (behind_number d.step (pos i) x0)
