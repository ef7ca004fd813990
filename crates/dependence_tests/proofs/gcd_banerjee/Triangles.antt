-- The least value of a linear form over a triangle.
use Rattle.std.proofs.Common.{◌≡◌, ℕ, ◌+◌, ◌*◌, ◌≤◌, ◌^◌, ◌⊎◌, inl, inr, refl, ap, arith, sym, ◌∙◌}
use Rattle.std.specs.Prelude.{ℤ, pos, negsuc, ◌+ℤ◌, ◌-ℤ◌, ◌*ℤ◌, ◌≤ℤ◌, ◌<ℤ◌, Some, None, unsigned_abs}
use Rattle.std.proofs.Math.Nat.{mul-le-mul_left}
use Rattle.std.proofs.lemmas.Int.{ints, unsigned_abs-mul}
use Rattle.std.proofs.lemmas.Nat.{mul-le}
use borrow.Author.Differences.{up, down, le_out}
use Rattle.dependence_tests.specs.gcd_banerjee.Least.{IsLeastOf, IsTriangleValue}
use Rattle.dependence_tests.specs.declared.gcd_banerjee.least.Least.TheVariants.{Unbounded, At}

-- a factor that isn't negative keeps the order
times_right : (a b : ℤ) (k : ℕ) → a ≤ℤ b → (a *ℤ pos k) ≤ℤ (b *ℤ pos k)
times_right a b k h =
    let e : k * (up a + down b) ≤ k * (up b + down a) = mul-le-mul_left k (le_out a b h) in
    omega (arith, ints)

up_zero : (s : ℤ) → s ≤ℤ pos 0 → up s ≡ 0
up_zero (pos n) h = omega (arith, ints)
up_zero (negsuc n) h = refl

-- a factor that isn't positive turns it
times_turned : (s : ℤ) (m n : ℕ) → s ≤ℤ pos 0 → m ≤ n → (s *ℤ pos n) ≤ℤ (s *ℤ pos m)
times_turned s m n h k =
    let e : down s * m ≤ down s * n = mul-le-mul_left (down s) k in
    let z : up s ≡ 0 = up_zero s h in
    let f : up s * n ≡ 0 = ap (λ (t : ℕ). t * n) z ∙ omega arith in
    let g : up s * m ≡ 0 = ap (λ (t : ℕ). t * m) z ∙ omega arith in
    omega (arith, ints)

plus_right : (s : ℤ) (u w : ℕ) → s *ℤ pos (u + w) ≡ s *ℤ pos u +ℤ s *ℤ pos w
plus_right s u w = omega (arith, ints)

-- no value is below that of the steepest way down
above : (c d s : ℤ) (n u w : ℕ) → s ≤ℤ c → s ≤ℤ d → s ≤ℤ pos 0 → u + w ≤ n → (s *ℤ pos n) ≤ℤ (c *ℤ pos u +ℤ d *ℤ pos w)
above c d s n u w hc hd h k =
    let e1 = times_right s c u hc in
    let e2 = times_right s d w hd in
    let e3 = times_turned s (u + w) n h k in
    let e4 = plus_right s u w in
    omega (arith, ints)

pub above_zero : (c d : ℤ) (u w : ℕ) → pos 0 ≤ℤ c → pos 0 ≤ℤ d → pos 0 ≤ℤ (c *ℤ pos u +ℤ d *ℤ pos w)
above_zero c d u w hc hd =
    let e1 = times_right (pos 0) c u hc in
    let e2 = times_right (pos 0) d w hd in
    omega (arith, ints)

alone_first : (c d : ℤ) (k : ℕ) → c *ℤ pos k +ℤ d *ℤ pos 0 ≡ c *ℤ pos k
alone_first c d k = omega (arith, ints)

alone_second : (c d : ℤ) (k : ℕ) → c *ℤ pos 0 +ℤ d *ℤ pos k ≡ d *ℤ pos k
alone_second c d k = omega (arith, ints)

at_origin : (b c d : ℤ) → b ≡ b +ℤ (c *ℤ pos 0 +ℤ d *ℤ pos 0)
at_origin b c d = omega (arith, ints)

-- one of the three corners has it
corner : (b c d s : ℤ) (n : ℕ) → (s ≡ c) ⊎ ((s ≡ d) ⊎ (s ≡ pos 0)) → IsTriangleValue b (Some (pos n)) c d (b +ℤ s *ℤ pos n)
corner b c d s n (inl e) =
    record { u = n; w = 0; fits = omega (arith, ints); value = let h = alone_first c d n in let g = ap (λ z. z *ℤ pos n) e in omega (arith, ints) }
corner b c d s n (inr (inl e)) =
    record { u = 0; w = n; fits = omega (arith, ints); value = let h = alone_second c d n in let g = ap (λ z. z *ℤ pos n) e in omega (arith, ints) }
corner b c d s n (inr (inr e)) =
    record { u = 0; w = 0; fits = omega (arith, ints); value = let h = at_origin b c d in let g = ap (λ z. z *ℤ pos n) e in omega (arith, ints) }

pub least_corner : (b c d s n : ℤ) → s ≤ℤ c → s ≤ℤ d → s ≤ℤ pos 0 → (s ≡ c) ⊎ ((s ≡ d) ⊎ (s ≡ pos 0)) → pos 0 ≤ℤ n
    → IsLeastOf (IsTriangleValue b (Some n) c d) (At (b +ℤ s *ℤ n))
least_corner b c d s (pos n) hc hd h o p =
    (corner b c d s n o, λ z v. let k = above c d s n v.u v.w hc hd h (let f = v.fits in omega (arith, ints)) in let e = v.value in omega (arith, ints))
least_corner b c d s (negsuc n) hc hd h o p = absurd (omega (arith, ints))

-- a form that doesn't fall has its least value at the origin
pub least_origin : (b c d : ℤ) → pos 0 ≤ℤ c → pos 0 ≤ℤ d → IsLeastOf (IsTriangleValue b None c d) (At b)
least_origin b c d hc hd =
    (record { u = 0; w = 0; fits = tt; value = at_origin b c d }, λ z v. let k = above_zero c d v.u v.w hc hd in let e = v.value in omega (arith, ints))

pub down_to : (s m : ℤ) → s <ℤ pos 0 → (s *ℤ pos (unsigned_abs m)) ≤ℤ m
down_to s m h =
    let e = times_right s (negsuc 0) (unsigned_abs m) (omega (arith, ints)) in
    omega (arith, ints)

-- one that falls in a direction has none
pub falls_first : (b c d : ℤ) → c <ℤ pos 0 → IsLeastOf (IsTriangleValue b None c d) Unbounded
falls_first b c d h m =
    let k = unsigned_abs (m -ℤ b) in
    let f = down_to c (m -ℤ b) h in
    let g = alone_first c d (unsigned_abs (m -ℤ b)) in
    (b +ℤ (c *ℤ pos k +ℤ d *ℤ pos 0), (record { u = k; w = 0; fits = tt; value = refl }, omega (arith, ints)))

pub falls_second : (b c d : ℤ) → d <ℤ pos 0 → IsLeastOf (IsTriangleValue b None c d) Unbounded
falls_second b c d h m =
    let k = unsigned_abs (m -ℤ b) in
    let f = down_to d (m -ℤ b) h in
    let g = alone_second c d (unsigned_abs (m -ℤ b)) in
    (b +ℤ (c *ℤ pos 0 +ℤ d *ℤ pos k), (record { u = 0; w = k; fits = tt; value = refl }, omega (arith, ints)))

small_steepest : (c d s : ℤ) → unsigned_abs c ≤ 2 ^ 44 → unsigned_abs d ≤ 2 ^ 44 → (s ≡ c) ⊎ ((s ≡ d) ⊎ (s ≡ pos 0)) → unsigned_abs s ≤ 2 ^ 44
small_steepest c d s h k (inl e) = rw e h
small_steepest c d s h k (inr (inl e)) = rw e k
small_steepest c d s h k (inr (inr e)) = omega (arith, ints)

pub scaled_small : (c d s n : ℤ) → unsigned_abs c ≤ 2 ^ 44 → unsigned_abs d ≤ 2 ^ 44 → unsigned_abs n ≤ 2 ^ 64 → (s ≡ c) ⊎ ((s ≡ d) ⊎ (s ≡ pos 0))
    → unsigned_abs (s *ℤ n) ≤ 2 ^ 108
scaled_small c d s n h k l o =
    omega (arith, unsigned_abs-mul s n, mul-le (unsigned_abs s) (unsigned_abs n) (2 ^ 44) (2 ^ 64) (small_steepest c d s h k o) l)
