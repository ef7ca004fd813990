-- Negative powers, and huge ones.
use Rattle.std.proofs.Common.{◌≡◌, ◌≢◌, refl, sym, ap, ◌∙◌, subst, ℕ, zero, suc, ◌*◌, ◌^◌, ◌/◌, ◌%◌, ◌≤◌, ◌<◌, ℤ, pos, negsuc, neg_ℤ, ◌<ℤ◌, ◌≤ℤ◌, Bool, true, false, cond, Result, Ok, Err, arith, nat_eq}
use Rattle.std.specs.Prelude.{FitsSigned, IsErrOf, int_rem, nat_abs}
use Rattle.std.specs.Int.{w128, int_pow}
use Rattle.std.specs.Ordering.{int_eq}
use Rattle.std.proofs.Math.Nat.{one-le-pow, pow-le-pow_right, pow-le-pow_left, pow-suc, div-eq_of_lt, mul-one, mul-zero, mul-le-mul}
use Rattle.std.proofs.lemmas.Int.{ints}
use Rattle.std.proofs.lemmas.Bool.{false_from_ne_true}
use Rattle.std.proofs.lemmas.Bool.Decides.{Decides-eqb, Decides-int_eq}
use Rattle.tree.specs.Operators.{number, ranged, quotient, on_numbers}
use Rattle.tree.specs.declared.ops.Op.TheVariants.{Pow}
use Rattle.tree.specs.declared.ops.Value.{Value}
use Rattle.tree.specs.declared.ops.Value.TheVariants.{Int}
use Rattle.tree.specs.declared.ops.Fault.{Fault}
use Rattle.tree.specs.declared.ops.Fault.TheVariants.{Overflow, ZeroDivide}
use Rattle.tree.proofs.Exact.{number-overflows}

abbrev raised : ℤ → ℤ → Result Value Fault
raised a b = on_numbers Pow a b

zero-pow : (n : ℕ) → 0 ^ suc n ≡ 0
zero-pow n = pow-suc 0 n ∙ mul-zero (0 ^ n)

one-pow : (n : ℕ) → 1 ^ n ≡ 1
one-pow zero = refl
one-pow (suc n) = pow-suc 1 n ∙ mul-one (1 ^ n) ∙ one-pow n

-- ---- one over a power

abbrev inverse : ℤ → Result Value Fault
inverse k = ranged (quotient (pos 1) k)

inverse-big : (z : ℤ) → 2 ≤ nat_abs z → inverse z ≡ Ok (Int (pos 0))
inverse-big (pos zero) h = absurd (omega arith)
inverse-big (pos (suc k)) h =
    let e : 1 / suc k ≡ 0 = div-eq_of_lt {n = 1} {m = suc k} (omega arith) in
    let f : int_eq (pos (suc k)) (pos 0) ≡ false = false_from_ne_true (int_eq (pos (suc k)) (pos 0)) (λ e. let g = (Decides-int_eq (pos (suc k)) (pos 0)).0 e in omega (arith, ints)) in
    ap (λ (b : Bool). let q : Result ℤ Fault = cond b (Err ZeroDivide) (Ok (pos (1 / suc k))) in ranged q) f ∙ ap (λ (q : ℕ). number (pos q)) e
inverse-big (negsuc k) h = let e : 1 / suc k ≡ 0 = div-eq_of_lt {n = 1} {m = suc k} (omega arith) in ap (λ (q : ℕ). number (neg_ℤ (pos q))) e

abs_signed : (b : Bool) (p : ℕ) → nat_abs (cond b (pos p) (neg_ℤ (pos p))) ≡ p
abs_signed true p = refl
abs_signed false zero = refl
abs_signed false (suc p) = refl

abs-int_pow : (a : ℤ) (e : ℕ) → nat_abs (int_pow a e) ≡ nat_abs a ^ e
abs-int_pow (pos a) e = refl
abs-int_pow (negsuc a) e = abs_signed (nat_eq (e % 2) 0) (suc a ^ e)

two_le-pow : (m n : ℕ) → 2 ≤ m → 2 ≤ m ^ suc n
two_le-pow m n h = let a : 1 ≤ m ^ n = one-le-pow n m (omega arith) in rw (pow-suc m n) (let b : 1 * 2 ≤ m ^ n * m = mul-le-mul a h in b)

apart : (a : ℤ) → a ≢ pos 0 → a ≢ pos 1 → a ≢ negsuc 0 → 2 ≤ nat_abs a
apart (pos zero) p q r = absurd (p refl)
apart (pos (suc zero)) p q r = absurd (q refl)
apart (pos (suc (suc k))) p q r = omega arith
apart (negsuc zero) p q r = absurd (r refl)
apart (negsuc (suc k)) p q r = omega arith

pub inverse_power-zero : (b : ℤ) → b <ℤ pos 0 → raised (pos 0) b ≡ Err ZeroDivide
inverse_power-zero (pos n) h = absurd (omega (arith, ints))
inverse_power-zero (negsuc n) h = ap (λ (p : ℕ). inverse (pos p)) (zero-pow n)

pub inverse_power-one : (b : ℤ) → b <ℤ pos 0 → raised (pos 1) b ≡ Ok (Int (pos 1))
inverse_power-one (pos n) h = absurd (omega (arith, ints))
inverse_power-one (negsuc n) h = ap (λ (p : ℕ). inverse (pos p)) (one-pow (suc n))

pub inverse_power-other : (a b : ℤ) → b <ℤ pos 0 → a ≢ pos 0 → a ≢ pos 1 → a ≢ negsuc 0 → raised a b ≡ Ok (Int (pos 0))
inverse_power-other a (pos n) h p q r = absurd (omega (arith, ints))
inverse_power-other a (negsuc n) h p q r = inverse-big (int_pow a (suc n)) (subst (λ (k : ℕ). 2 ≤ k) (sym (abs-int_pow a (suc n))) (two_le-pow (nat_abs a) n (apart a p q r)))

-- ---- huge powers

unfit : (z : ℤ) → 2 ^ 128 ≤ nat_abs z → ¬ FitsSigned w128 z
unfit (pos n) h f = let k : n < 2 ^ 127 = f.sfits in omega arith
unfit (negsuc n) h f = let k : n < 2 ^ 127 = f.sfits in omega arith

pub huge_power-zero : (b : ℤ) → pos 128 ≤ℤ b → raised (pos 0) b ≡ Ok (Int (pos 0))
huge_power-zero (negsuc n) h = absurd (omega (arith, ints))
huge_power-zero (pos zero) h = absurd (omega (arith, ints))
huge_power-zero (pos (suc n)) h = ap (λ (p : ℕ). number (pos p)) (zero-pow n)

pub huge_power-one : (b : ℤ) → pos 128 ≤ℤ b → raised (pos 1) b ≡ Ok (Int (pos 1))
huge_power-one (negsuc n) h = absurd (omega (arith, ints))
huge_power-one (pos n) h = ap (λ (p : ℕ). number (pos p)) (one-pow n)

pub huge_power-other : (a b : ℤ) → pos 128 ≤ℤ b → a ≢ pos 0 → a ≢ pos 1 → a ≢ negsuc 0 → raised a b ≡ Err Overflow
huge_power-other a (negsuc n) h p q r = absurd (omega (arith, ints))
huge_power-other a (pos n) h p q r =
    let k : 128 ≤ n = omega (arith, ints) in
    let two : 2 ≤ nat_abs a = apart a p q r in
    let x : 2 ^ 128 ≤ 2 ^ n = pow-le-pow_right (omega arith) k in
    let y : 2 ^ n ≤ nat_abs a ^ n = pow-le-pow_left two n in
    let e = abs-int_pow a n in
    number-overflows (int_pow a n) (unfit (int_pow a n) (omega arith))

-- ---- powers of -1

abbrev sign : Bool → ℤ
sign even = cond even (pos 1) (negsuc 0)

pos_is_zero : (m : ℕ) → nat_eq m 0 ≡ int_eq (pos m) (pos 0)
pos_is_zero zero = refl
pos_is_zero (suc m) =
    let left : nat_eq (suc m) 0 ≡ false = false_from_ne_true (nat_eq (suc m) 0) (λ e. let h : suc m ≡ 0 = (Decides-eqb (suc m) 0).0 e in omega arith) in
    let right : int_eq (pos (suc m)) (pos 0) ≡ false = false_from_ne_true (int_eq (pos (suc m)) (pos 0)) (λ e. let h = (Decides-int_eq (pos (suc m)) (pos 0)).0 e in omega (arith, ints)) in
    left ∙ sym right

neg_is_zero : (m : ℕ) → nat_eq m 0 ≡ int_eq (neg_ℤ (pos m)) (pos 0)
neg_is_zero zero = refl
neg_is_zero (suc m) = false_from_ne_true (nat_eq (suc m) 0) (λ e. let h : suc m ≡ 0 = (Decides-eqb (suc m) 0).0 e in omega arith)

signed_one : (even : Bool) → cond even (pos 1) (neg_ℤ (pos 1)) ≡ sign even
signed_one true = refl
signed_one false = refl

inverse_sign : (even : Bool) → inverse (sign even) ≡ Ok (Int (sign even))
inverse_sign true = refl
inverse_sign false = refl

number_sign : (even : Bool) → number (sign even) ≡ Ok (Int (sign even))
number_sign true = refl
number_sign false = refl

minus_one-pow : (n : ℕ) → int_pow (negsuc 0) n ≡ sign (nat_eq (n % 2) 0)
minus_one-pow n = ap (λ (p : ℕ). cond (nat_eq (n % 2) 0) (pos p) (neg_ℤ (pos p))) (one-pow n) ∙ signed_one (nat_eq (n % 2) 0)

-- also of a huge exponent
power-minus_one : (b : ℤ) → raised (negsuc 0) b ≡ Ok (Int (sign (int_eq (int_rem b (pos 2)) (pos 0))))
power-minus_one (pos n) =
    ap (λ (z : ℤ). number z) (minus_one-pow n) ∙ number_sign (nat_eq (n % 2) 0) ∙ ap (λ (e : Bool). let r : Result Value Fault = Ok (Int (sign e)) in r) (pos_is_zero (n % 2))
power-minus_one (negsuc n) =
    ap inverse (minus_one-pow (suc n)) ∙ inverse_sign (nat_eq (suc n % 2) 0) ∙ ap (λ (e : Bool). let r : Result Value Fault = Ok (Int (sign e)) in r) (neg_is_zero (suc n % 2))

int_is_zero : (z : ℤ) → z ≢ pos 0 → int_eq z (pos 0) ≡ false
int_is_zero z h = false_from_ne_true (int_eq z (pos 0)) (λ e. h ((Decides-int_eq z (pos 0)).0 e))

pub power-minus_one_even : (b : ℤ) → int_rem b (pos 2) ≡ pos 0 → raised (negsuc 0) b ≡ Ok (Int (pos 1))
power-minus_one_even b e = power-minus_one b ∙ ap (λ (z : ℤ). let r : Result Value Fault = Ok (Int (sign (int_eq z (pos 0)))) in r) e

pub power-minus_one_odd : (b : ℤ) → int_rem b (pos 2) ≢ pos 0 → raised (negsuc 0) b ≡ Ok (Int (negsuc 0))
power-minus_one_odd b h = power-minus_one b ∙ ap (λ (e : Bool). let r : Result Value Fault = Ok (Int (sign e)) in r) (int_is_zero (int_rem b (pos 2)) h)

-- a negative power divides by zero for 0 alone
pub inverse_power-base : (a b : ℤ) → b <ℤ pos 0 → IsErrOf (raised a b) ZeroDivide → a ≡ pos 0
inverse_power-base (pos zero) b h e = refl
inverse_power-base (pos (suc zero)) b h e = let one : raised (pos (suc zero)) b ≡ Ok (Int (pos 1)) = inverse_power-one b h in absurd (cc)
inverse_power-base (pos (suc (suc k))) b h e =
    let a : ℤ = pos (suc (suc k)) in
    let other = inverse_power-other a b h (λ z. omega (arith, ints)) (λ z. omega (arith, ints)) (λ z. omega (arith, ints)) in
    absurd (cc)
inverse_power-base (negsuc zero) b h e = let one = power-minus_one b in absurd (cc)
inverse_power-base (negsuc (suc k)) b h e =
    let a : ℤ = negsuc (suc k) in
    let other = inverse_power-other a b h (λ z. omega (arith, ints)) (λ z. omega (arith, ints)) (λ z. omega (arith, ints)) in
    absurd (cc)

pub ruleset powers = (inverse_power-zero, inverse_power-one, inverse_power-other, huge_power-zero, huge_power-one, huge_power-other, power-minus_one_even, power-minus_one_odd)
