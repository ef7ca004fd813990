-- Names of arrays.
use mathlib.Core.Path.{ap₂}
use Rattle.std.proofs.Common.{◌≡◌, refl, sym, ◌∙◌, ℕ, ◌+◌, ◌≤◌, ◌<◌, ◌^◌, Bool, true, false, cond, not, ◌&&◌, List, [], ◌++◌, length, length-append, arith}
use Rattle.std.specs.Prelude.{codes, decimal, nat_le, ◌==◌}
use Rattle.std.specs.List.{list_all}
use Rattle.std.proofs.lemmas.Bool.{leb-true}
use Rattle.std.proofs.lemmas.Fmt.{length-decimal-le}
use Rattle.std.proofs.lemmas.List.Folds.{list_all-append}
use Rattle.tree.specs.Names.{IsName, is_name_byte}
use Rattle.last_values.proofs.NormalForms.Counters.{counter_is_name}
use Rattle.scalar_expand.specs.Privates.{is_source, number_behind}

first : (a b : Bool) → (a && b) ≡ true → a ≡ true
first true b h = refl
first false b h = cc

digits : (n : ℕ) → n < 2 ^ 32 → list_all is_name_byte (decimal n) ≡ true
digits n h = sym (list_all-append is_name_byte (codes "FV_LOOP_") (decimal n)) ∙ (counter_is_name n h).goes_on

behind_goes_on : (n : ℕ) → n < 2 ^ 32 → list_all is_name_byte (number_behind n) ≡ true
behind_goes_on n h = by (n == 1)
  where
    by : (b : Bool) → list_all is_name_byte (cond b [] (codes "_" ++ decimal n)) ≡ true
    by true = refl
    by false = list_all-append is_name_byte (codes "_") (decimal n) ∙ digits n h

behind_is_short : (n : ℕ) → n < 2 ^ 32 → length (number_behind n) ≤ 11
behind_is_short n h = by (n == 1)
  where
    by : (b : Bool) → length (cond b [] (codes "_" ++ decimal n)) ≤ 11
    by true = omega arith
    by false =
        let len = length-decimal-le 10 n (omega arith) (omega (arith, h)) (omega (arith, h)) in
        let whole = length-append (codes "_") (decimal n) in
        omega (arith, len, whole)

pub array_is_name : (n : ℕ) (x : List ℕ) → n < 2 ^ 32 → is_source x ≡ true → IsName x → IsName ((codes "FV_EXP_" ++ x) ++ number_behind n)
array_is_name n x h s named =
    let few = leb-true (length x) 6 (first (nat_le (length x) 6) (list_all (λ c. not (c == 95)) x) s) in
    let short = behind_is_short n h in
    let front = length-append (codes "FV_EXP_") x in
    let whole = length-append (codes "FV_EXP_" ++ x) (number_behind n) in
    record {
      begins = refl;
      goes_on =
          list_all-append is_name_byte (codes "FV_EXP_" ++ x) (number_behind n)
          ∙ ap₂ (λ a b. a && b) (list_all-append is_name_byte (codes "FV_EXP_") x ∙ named.goes_on) (behind_goes_on n h);
      within = omega (arith, few, short, front, whole);
    }
