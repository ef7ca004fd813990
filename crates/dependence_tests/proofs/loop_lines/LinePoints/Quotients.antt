use Rattle.std.proofs.Common.{◌≡◌, ℕ, ◌/◌, ◌%◌, ◌<◌, ◌^◌, refl, arith}
use Rattle.std.specs.Prelude.{ℤ, pos, negsuc, unsigned_abs, int_div, int_rem, FitsSigned}
use Rattle.std.proofs.Math.IntN.{neg_ℤ}
use Rattle.std.proofs.Math.Nat.{div-le_self, mod-le}
use Rattle.std.proofs.lemmas.Int.{ints, quot-rem, fits_signed_from_abs}
use mir.Syntax.{w128}
use Rattle.dependence_tests.specs.loop_lines.line_points.Quotient.{IsQuotient}

abs_neg : (n : ℕ) → unsigned_abs (neg_ℤ (pos n)) ≡ n
abs_neg n = omega (arith, ints)

abs_quotient : (a b : ℤ) → unsigned_abs (int_div a b) ≡ unsigned_abs a / unsigned_abs b
abs_quotient (pos a) (pos b) = refl
abs_quotient (pos a) (negsuc b) = abs_neg _
abs_quotient (negsuc a) (pos b) = abs_neg _
abs_quotient (negsuc a) (negsuc b) = refl

abs_rest : (a b : ℤ) → unsigned_abs (int_rem a b) ≡ unsigned_abs a % unsigned_abs b
abs_rest (pos a) b = refl
abs_rest (negsuc a) b = abs_neg _

pub abs_positive : (b : ℤ) → (b ≡ pos 0 → ⊥) → 0 < unsigned_abs b
abs_positive b h = omega (arith, ints)

pub quotient_fits : (a b : ℤ) → unsigned_abs a < 2 ^ 127 → FitsSigned w128 (int_div a b)
quotient_fits a b h = fits_signed_from_abs w128 _ (omega (arith, abs_quotient a b, div-le_self (unsigned_abs a) (unsigned_abs b)))

pub rest_fits : (a b : ℤ) → unsigned_abs a < 2 ^ 127 → FitsSigned w128 (int_rem a b)
rest_fits a b h = fits_signed_from_abs w128 _ (omega (arith, abs_rest a b, mod-le (unsigned_abs a) (unsigned_abs b)))

pub quotient_is : (a b : ℤ) → (b ≡ pos 0 → ⊥) → IsQuotient a b (record { times = int_div a b; rest = int_rem a b })
quotient_is a b h =
    let p : 0 < unsigned_abs b = abs_positive b h in
    record {
      whole = quot-rem a b;
      sizes = rw (abs_quotient a b, abs_rest a b) (omega arith);
      below = rw (abs_rest a b) (omega arith);
    }
