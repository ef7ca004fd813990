-- Sizes of sums of products with small factors.
use Rattle.std.proofs.Common.{◌≡◌, refl, sym, subst, ℕ, suc, ◌+◌, ◌*◌, ◌^◌, ◌≤◌, ◌<◌, ℤ, ◌+ℤ◌, ◌*ℤ◌, true, arith}
use Rattle.std.specs.Prelude.{nat_abs, unsigned_abs}
use Rattle.std.proofs.lemmas.Bool.{leb-true}
use Rattle.std.proofs.lemmas.Int.{unsigned_abs-mul}
use Rattle.linear_forms.specs.Linear.{is_small}
use Rattle.linear_forms.proofs.Sizes.{smaller, abs-sum}

pub product_within : (k b : ℤ) → is_small k ≡ true → unsigned_abs b ≤ 2 ^ 63 → unsigned_abs (k *ℤ b) ≤ 2 ^ 103
product_within k b h g =
    let few : unsigned_abs k ≤ 2 ^ 40 = leb-true (nat_abs k) (2 ^ 40) h in
    let same = unsigned_abs-mul k b in
    let most = smaller (unsigned_abs k) (2 ^ 40) (unsigned_abs b) (2 ^ 63) few g in
    subst (λ n. n ≤ 2 ^ 103) (sym same) (subst (λ n. unsigned_abs k * unsigned_abs b ≤ n) refl most)

pub sum_within : (a b : ℤ) (n : ℕ) → unsigned_abs a ≤ 2 ^ 103 → unsigned_abs b ≤ n * 2 ^ 103 → unsigned_abs (a +ℤ b) ≤ (1 + n) * 2 ^ 103
sum_within a b n h g =
    let most : unsigned_abs (a +ℤ b) ≤ unsigned_abs a + unsigned_abs b = abs-sum a b in
    omega (arith, most, h, g)

pub ruleset sum_sizes = (sum_within)
