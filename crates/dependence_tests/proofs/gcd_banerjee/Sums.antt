-- Least values of the same numbers, and of sums.
use Rattle.std.proofs.Common.{◌≡◌, ℕ, ◌+◌, ◌≤◌, ap, arith, sym, ◌∙◌, refl}
use Rattle.std.specs.Prelude.{ℤ, pos, ◌+ℤ◌, ◌-ℤ◌, ◌≤ℤ◌, unsigned_abs}
use Rattle.std.proofs.lemmas.Int.{ints}
use Rattle.dependence_tests.specs.gcd_banerjee.Least.{IsLeastOf, IsSumOf, IsWithin, plus_least}
use Rattle.dependence_tests.specs.declared.gcd_banerjee.least.Least.{Least}
use Rattle.dependence_tests.specs.declared.gcd_banerjee.least.Least.TheVariants.{Nothing, Unbounded, At}

pub same_least : (S T : ℤ → Type 0) (l : Least) → ((z : ℤ) → S z → T z) → ((z : ℤ) → T z → S z) → IsLeastOf S l → IsLeastOf T l
same_least S T Nothing there back h = λ z t. h z (back z t)
same_least S T Unbounded there back h = λ m. ((h m).0, (there (h m).0 (h m).1.0, (h m).1.1))
same_least S T (At m) there back h = (there m h.0, λ z t. h.1 z (back z t))

-- independent parts: the least values add up, and an open part opens the sum
pub least_sum : (S T : ℤ → Type 0) (l k : Least) → IsLeastOf S l → IsLeastOf T k → IsLeastOf (IsSumOf S T) (plus_least l k)
least_sum S T Nothing k h g = λ z v. h v.first v.in_first
least_sum S T Unbounded Nothing h g = λ z v. g v.second v.in_second
least_sum S T Unbounded Unbounded h g = λ m.
    let t = g (pos 0) in
    let s = h (m -ℤ t.0) in
    let e = s.1.1 in
    (s.0 +ℤ t.0, (record { first = s.0; second = t.0; in_first = s.1.0; in_second = t.1.0; sum = refl }, omega (arith, ints)))
least_sum S T Unbounded (At n) h g = λ m.
    let s = h (m -ℤ n) in
    let e = s.1.1 in
    (s.0 +ℤ n, (record { first = s.0; second = n; in_first = s.1.0; in_second = g.0; sum = refl }, omega (arith, ints)))
least_sum S T (At n) Nothing h g = λ z v. g v.second v.in_second
least_sum S T (At n) Unbounded h g = λ m.
    let t = g (m -ℤ n) in
    let e = t.1.1 in
    (n +ℤ t.0, (record { first = n; second = t.0; in_first = h.0; in_second = t.1.0; sum = refl }, omega (arith, ints)))
least_sum S T (At m) (At n) h g = (
  record { first = m; second = n; in_first = h.0; in_second = g.0; sum = refl },
  λ z v. let a = h.1 v.first v.in_first in let b = g.1 v.second v.in_second in let e = v.sum in omega (arith, ints),
)

pub sum_within : (m n k : ℕ) (l r : Least) → m + n ≤ k → IsWithin m l → IsWithin n r → IsWithin k (plus_least l r)
sum_within m n k Nothing r s h g = tt
sum_within m n k Unbounded Nothing s h g = tt
sum_within m n k Unbounded Unbounded s h g = tt
sum_within m n k Unbounded (At y) s h g = tt
sum_within m n k (At x) Nothing s h g = tt
sum_within m n k (At x) Unbounded s h g = tt
sum_within m n k (At x) (At y) s h g = omega (arith, ints)

pub wider : (m n : ℕ) (l : Least) → m ≤ n → IsWithin m l → IsWithin n l
wider m n Nothing s h = tt
wider m n Unbounded s h = tt
wider m n (At x) s h = omega arith
