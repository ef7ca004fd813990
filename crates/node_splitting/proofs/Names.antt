-- The name of a copy's array is a name.
use Rattle.std.proofs.Common.{◌≡◌, sym, ◌∙◌, refl, ℕ, ◌^◌, ◌<◌, true, ◌++◌, length-append, arith}
use Rattle.std.specs.Prelude.{codes, decimal}
use Rattle.std.specs.List.{list_all}
use Rattle.std.proofs.lemmas.Fmt.{length-decimal-le}
use Rattle.std.proofs.lemmas.List.Folds.{list_all-append}
use Rattle.tree.specs.Names.{IsName, is_name_byte}
use Rattle.last_values.proofs.NormalForms.Counters.{counter_is_name}

digits : (n : ℕ) → n < 2 ^ 32 → list_all is_name_byte (decimal n) ≡ true
digits n h = sym (list_all-append is_name_byte (codes "FV_LOOP_") (decimal n)) ∙ (counter_is_name n h).goes_on

pub copy_is_name : (n : ℕ) → n < 2 ^ 32 → IsName (codes "FV_COPY_" ++ decimal n)
copy_is_name n h =
    let len = length-decimal-le 10 n (omega arith) (omega (arith, h)) (omega (arith, h)) in
    let whole = length-append (codes "FV_COPY_") (decimal n) in
    record {
      begins = refl;
      goes_on = list_all-append is_name_byte (codes "FV_COPY_") (decimal n) ∙ digits n h;
      within = omega (arith, len, whole);
    }
