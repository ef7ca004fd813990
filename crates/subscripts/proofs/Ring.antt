-- Integers as a ring. `simp ring` sorts a term into a sum of sorted products, each of which `omega (arith, linear)` then
-- reads as one number.
use Rattle.std.proofs.Common.{◌≡◌, ℕ, ◌+◌, ◌*◌, ap, arith, sym, ◌∙◌}
use Rattle.std.specs.Prelude.{ℤ, pos, ◌+ℤ◌, ◌-ℤ◌, ◌*ℤ◌}
use Rattle.std.proofs.Math.IntN.{neg_ℤ, +ℤ_assoc, *ℤ_comm, *ℤ-zero, zero-*ℤ}
use Rattle.std.proofs.lemmas.Int.{ints}
use borrow.Author.Differences.{up, down, same_in, same_out, product_is, sum_is_lem, neg_is, le_out, lt_out, at_most_in, below_in, Apart-out}

-- z is p less n
record Less (z : ℤ) (p n : ℕ) : Type 0 where
  is : up z + n ≡ down z + p

of_itself : (z : ℤ) → Less z (up z) (down z)
of_itself z = record { is = omega arith }

of_sum : (a b : ℤ) (p n r s : ℕ) → Less a p n → Less b r s → Less (a +ℤ b) (p + r) (n + s)
of_sum a b p n r s h k = record { is = omega (arith, h.is, k.is, sum_is_lem a b) }

of_neg : (a : ℤ) (p n : ℕ) → Less a p n → Less (neg_ℤ a) n p
of_neg a p n h = record { is = omega (arith, h.is, neg_is a) }

of_product : (a b : ℤ) (p n r s : ℕ) → Less a p n → Less b r s → Less (a *ℤ b) (p * r + n * s) (p * s + n * r)
of_product a b p n r s h k =
    let e1 : (up a + n) * up b ≡ (down a + p) * up b = ap (λ (x : ℕ). x * up b) h.is in
    let e2 : (up a + n) * down b ≡ (down a + p) * down b = ap (λ (x : ℕ). x * down b) h.is in
    let e3 : p * (up b + s) ≡ p * (down b + r) = ap (λ (x : ℕ). p * x) k.is in
    let e4 : n * (up b + s) ≡ n * (down b + r) = ap (λ (x : ℕ). n * x) k.is in
    record { is = omega (arith, product_is a b) }

alike : (z w : ℤ) (p n r s : ℕ) → Less z p n → Less w r s → p + s ≡ r + n → z ≡ w
alike z w p n r s h k e = same_in z w (omega (arith, h.is, k.is))

pub times_plus : (a b c : ℤ) → a *ℤ (b +ℤ c) ≡ a *ℤ b +ℤ a *ℤ c
times_plus a b c =
    alike _ _ _ _ _ _
    (of_product a (b +ℤ c) _ _ _ _ (of_itself a) (of_sum b c _ _ _ _ (of_itself b) (of_itself c)))
    (of_sum (a *ℤ b) (a *ℤ c) _ _ _ _ (of_product a b _ _ _ _ (of_itself a) (of_itself b)) (of_product a c _ _ _ _ (of_itself a) (of_itself c)))
    (omega arith)

pub plus_times : (a b c : ℤ) → (b +ℤ c) *ℤ a ≡ b *ℤ a +ℤ c *ℤ a
plus_times a b c = *ℤ_comm (b +ℤ c) a ∙ times_plus a b c ∙ ap (λ (z : ℤ). z +ℤ a *ℤ c) (*ℤ_comm a b) ∙ ap (λ (z : ℤ). b *ℤ a +ℤ z) (*ℤ_comm a c)

pub times_assoc : (a b c : ℤ) → (a *ℤ b) *ℤ c ≡ a *ℤ (b *ℤ c)
times_assoc a b c =
    alike _ _ _ _ _ _
    (of_product (a *ℤ b) c _ _ _ _ (of_product a b _ _ _ _ (of_itself a) (of_itself b)) (of_itself c))
    (of_product a (b *ℤ c) _ _ _ _ (of_itself a) (of_product b c _ _ _ _ (of_itself b) (of_itself c)))
    (omega arith)

pub times_neg : (a b : ℤ) → a *ℤ neg_ℤ b ≡ neg_ℤ (a *ℤ b)
times_neg a b =
    alike _ _ _ _ _ _
    (of_product a (neg_ℤ b) _ _ _ _ (of_itself a) (of_neg b _ _ (of_itself b)))
    (of_neg (a *ℤ b) _ _ (of_product a b _ _ _ _ (of_itself a) (of_itself b)))
    (omega arith)

pub neg_times : (a b : ℤ) → neg_ℤ a *ℤ b ≡ neg_ℤ (a *ℤ b)
neg_times a b = *ℤ_comm (neg_ℤ a) b ∙ times_neg b a ∙ ap neg_ℤ (*ℤ_comm b a)

pub neg_plus : (a b : ℤ) → neg_ℤ (a +ℤ b) ≡ neg_ℤ a +ℤ neg_ℤ b
neg_plus a b = omega (arith, ints)

pub neg_neg : (a : ℤ) → neg_ℤ (neg_ℤ a) ≡ a
neg_neg a = omega (arith, ints)

pub one_times : (a : ℤ) → pos 1 *ℤ a ≡ a
one_times a = omega (arith, ints)

pub times_one : (a : ℤ) → a *ℤ pos 1 ≡ a
times_one a = omega (arith, ints)

pub plus_left : (a b c : ℤ) → a +ℤ (b +ℤ c) ≡ b +ℤ (a +ℤ c)
plus_left a b c = omega (arith, ints)

pub times_left : (a b c : ℤ) → a *ℤ (b *ℤ c) ≡ b *ℤ (a *ℤ c)
times_left a b c = sym (times_assoc a b c) ∙ ap (λ (z : ℤ). z *ℤ c) (*ℤ_comm a b) ∙ times_assoc b a c

pub ruleset ring = (times_plus, plus_times, times_assoc, times_neg, neg_times, neg_plus, neg_neg, one_times, times_one, *ℤ-zero, zero-*ℤ, *ℤ_comm, times_left, +ℤ_assoc)

pub ruleset linear = (same_out, Apart-out, le_out, lt_out, same_in, at_most_in, below_in, sum_is_lem, neg_is)

pub solved : (p q x y i j c : ℤ) → p *ℤ x +ℤ q *ℤ y ≡ pos 1 → p *ℤ i +ℤ q *ℤ j ≡ c → i ≡ c *ℤ x +ℤ q *ℤ (y *ℤ i -ℤ x *ℤ j)
solved p q x y i j c h k =
    let e : (p *ℤ x +ℤ q *ℤ y) *ℤ i ≡ pos 1 *ℤ i = ap (λ (z : ℤ). z *ℤ i) h in
    let f : (p *ℤ i +ℤ q *ℤ j) *ℤ x ≡ c *ℤ x = ap (λ (z : ℤ). z *ℤ x) k in
    let e' = simp ring at e in
    let f' = simp ring at f in
    simp ring (omega (arith, linear))
