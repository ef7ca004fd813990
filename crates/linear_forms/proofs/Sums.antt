-- Sizes of products, and coefficients of loops place by place.
use Rattle.std.proofs.Common.{◌≡◌, refl, sym, ap, ◌∙◌, subst, ℕ, ◌+◌, ◌*◌, ◌^◌, ◌≤◌, ◌<◌, ℤ, pos, ◌+ℤ◌, ◌*ℤ◌, Bool, true, false, cond, List, length, get_or, arith}
use Rattle.std.specs.Prelude.{unsigned_abs}
use Rattle.std.proofs.lemmas.Int.{unsigned_abs-mul}
use Rattle.std.proofs.Common.{set, get_or-set_same, get_or-set_other, Some, None, inl, inr}
use Rattle.std.proofs.lemmas.Bool.{cases_eq}
use Rattle.linear_forms.specs.Linear.{is_small}
use Rattle.linear_forms.specs.Pushing.{small_or_none}
use Rattle.linear_forms.proofs.Sizes.{smaller}

pub product_size : (k b : ℤ) → unsigned_abs k ≤ 2 ^ 63 → unsigned_abs b ≤ 2 ^ 63 → unsigned_abs (k *ℤ b) ≤ 2 ^ 126
product_size k b h g =
    let same = unsigned_abs-mul k b in
    let most = smaller (unsigned_abs k) (2 ^ 63) (unsigned_abs b) (2 ^ 63) h g in
    subst (λ n. n ≤ 2 ^ 126) (sym same) (subst (λ n. unsigned_abs k * unsigned_abs b ≤ n) refl most)

-- one more coefficient that is combined
pub one_more : (fs gs hs : List ℤ) (k : ℤ) (at : ℕ) (v : ℤ) → at < length hs
    → ((j : ℕ) → j < at → (get_or hs j (pos 0) ≡ get_or fs j (pos 0) +ℤ k *ℤ get_or gs j (pos 0)) × (is_small (get_or hs j (pos 0)) ≡ true))
    → (v ≡ get_or fs at (pos 0) +ℤ k *ℤ get_or gs at (pos 0)) → is_small v ≡ true
    → (j : ℕ) → j < at + 1 → (get_or (set hs at v) j (pos 0) ≡ get_or fs j (pos 0) +ℤ k *ℤ get_or gs j (pos 0)) × (is_small (get_or (set hs at v) j (pos 0)) ≡ true)
one_more fs gs hs k at v inside done e small j h = elim (cases_eq j at) [
  | inl same ↦
      let here : get_or (set hs at v) j (pos 0) ≡ v = ap (λ i. get_or (set hs at v) i (pos 0)) same ∙ get_or-set_same hs at v (pos 0) inside in
      (here ∙ (e ∙ ap (λ i. get_or fs i (pos 0) +ℤ k *ℤ get_or gs i (pos 0)) (sym same)), ap is_small here ∙ small)
  | inr other ↦
      let there = get_or-set_other hs at j v (pos 0) other in
      let before : j < at = omega (arith, h, other) in
      (there ∙ (done j before).0, ap is_small there ∙ (done j before).1)
]

pub small_is : (z v : ℤ) → Some v ≡ small_or_none z → (v ≡ z) × (is_small v ≡ true)
small_is z v e = by (is_small z) refl e
  where
    by : (b : Bool) → is_small z ≡ b → Some v ≡ cond b (Some z) None → (v ≡ z) × (is_small v ≡ true)
    by true s g = let same : v ≡ z = cc in (same, ap is_small same ∙ s)
    by false s g = cc
