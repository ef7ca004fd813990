-- Symbols of a sum, one after the other.
use Rattle.std.proofs.Common.{◌≡◌, ap, ℕ, zero, suc, ◌+◌, ◌-◌, ◌<◌, ℤ, Option, arith}
use Rattle.linear_forms.specs.Pushing.{pushed, then_pushed}
use Rattle.linear_forms.specs.declared.terms.Terms.{Terms}
use Rattle.last_values.specs.normal_forms.Combinations.{with_symbol_terms}

pub with_symbols_more : (f : ℕ → ℤ) (n j : ℕ) (t : Terms) → 0 < n → with_symbol_terms f n j t ≡ then_pushed (pushed j (f j) t) (with_symbol_terms f (n - 1) (j + 1))
with_symbols_more f zero j t h = absurd (omega (arith, h))
with_symbols_more f (suc n) j t h =
    let same : n ≡ suc n - 1 = omega arith in
    ap (λ m. then_pushed (pushed j (f j) t) (with_symbol_terms f m (j + 1))) same
