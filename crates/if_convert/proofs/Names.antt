-- The name of a mask is a name.
use mathlib.Core.Path.{ap₂}
use Rattle.std.proofs.Common.{◌≡◌, refl, ◌∙◌, ap, ℕ, zero, suc, ◌+◌, ◌^◌, ◌<◌, true, ◌&&◌, ◌∷◌, [], ◌++◌, length-append, arith}
use Rattle.std.specs.Prelude.{codes, decimal, ◌%◌}
use Rattle.std.specs.List.{list_all}
use Rattle.std.proofs.lemmas.Fmt.{length-decimal-le, decimal_by_steps_wide}
use Rattle.std.proofs.lemmas.List.Folds.{list_all-append}
use Rattle.tree.specs.Names.{IsName, is_name_byte}
use Rattle.if_convert.specs.Masks.{mask_name}

digit : (n : ℕ) → n < 10 → is_name_byte (48 + n) ≡ true
digit zero h = refl
digit (suc zero) h = refl
digit (suc (suc zero)) h = refl
digit (suc (suc (suc zero))) h = refl
digit (suc (suc (suc (suc zero)))) h = refl
digit (suc (suc (suc (suc (suc zero))))) h = refl
digit (suc (suc (suc (suc (suc (suc zero)))))) h = refl
digit (suc (suc (suc (suc (suc (suc (suc zero))))))) h = refl
digit (suc (suc (suc (suc (suc (suc (suc (suc zero)))))))) h = refl
digit (suc (suc (suc (suc (suc (suc (suc (suc (suc zero))))))))) h = refl
digit (suc (suc (suc (suc (suc (suc (suc (suc (suc (suc n)))))))))) h = absurd (omega (arith, h))

one : (n : ℕ) → n < 10 → list_all is_name_byte ((48 + n) ∷ []) ≡ true
one n h = ap (λ b. b && true) (digit n h)

digits : (n : ℕ) → n < 2 ^ 33 → list_all is_name_byte (decimal n) ≡ true
digits n h =
    decimal_by_steps_wide (λ n ds. list_all is_name_byte ds ≡ true) one
    (λ n ds k d. list_all-append is_name_byte ds ((48 + n % 10) ∷ []) ∙ ap₂ (λ a b. a && b) d (one (n % 10) (omega arith)))
    n (omega (arith, h))

named : (n : ℕ) → n < 2 ^ 33 → IsName (codes "FV_MASK_" ++ decimal n)
named n h =
    let len = length-decimal-le 10 n (omega arith) (omega (arith, h)) (omega (arith, h)) in
    let whole = length-append (codes "FV_MASK_") (decimal n) in
    record {
      begins = refl;
      goes_on = list_all-append is_name_byte (codes "FV_MASK_") (decimal n) ∙ digits n h;
      within = omega (arith, len, whole);
    }

pub mask_is_name : (n : ℕ) → n < 2 ^ 32 → IsName (mask_name n)
mask_is_name n h = named (n + 1) (omega (arith, h))
