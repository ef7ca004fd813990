-- The one loop of a pairing.
use Rattle.std.proofs.Common.{◌≡◌, ℕ, ◌<◌, ◌≤◌, ◌^◌, arith, ap, sym, refl, ◌∙◌}
use Rattle.std.specs.Prelude.{ℤ, pos, ◌-ℤ◌, unsigned_abs}
use Rattle.std.proofs.lemmas.Int.{ints}
use Rattle.subscripts.specs.Classes.{Loop, Shared, First, Second, HasOneLoop, first_of, second_of}
use Rattle.subscripts.specs.declared.pairing.Pairing.{Pairing}
use Rattle.dependence_tests.specs.loop_lines.line_points.Crossings.{IsSmallLine}
use Rattle.dependence_tests.specs.loop_lines.OneLoop.{HasNoneAt}
use Rattle.subscripts.specs.Shapes.{IsPairing}

-- a loop that matters isn't at a place without coefficients
pub no_loop_left : (p : Pairing) → p.common ≤ 7 → ((k : ℕ) → k < 7 → HasNoneAt p k) → (l : Loop) → HasOneLoop p l → ⊥
no_loop_left p h none (Shared k) one = one.matters.some (none k (omega (arith, one.matters.loop))).first (none k (omega (arith, one.matters.loop))).second
no_loop_left p h none (First k) one = one.matters.some (none k one.matters.loop.1).first refl
no_loop_left p h none (Second k) one = one.matters.some refl (none k one.matters.loop.1).second

pub small_line : (p : Pairing) (l : Loop) (a b c : ℤ) → HasOneLoop p l → unsigned_abs (first_of p l) ≤ 2 ^ 40 → unsigned_abs (second_of p l) ≤ 2 ^ 40 → IsPairing p
    → a ≡ first_of p l → b ≡ pos 0 -ℤ second_of p l → c ≡ p.to.constant -ℤ p.from.constant → IsSmallLine (record { first = a; second = b; constant = c })
small_line p l a b c one sa sb h ea eb ec = record {
  first = omega (arith, ap unsigned_abs ea);
  second = omega (arith, ints, ap unsigned_abs eb);
  constant = omega (arith, ints, ap unsigned_abs ec, h.from.small_constant, h.to.small_constant);
  slanted = λ za zb. one.matters.some (sym ea ∙ za) (omega (arith, ints));
}
