-- What `parse` reads is the number of the definition.
use Rattle.std.proofs.Common.{◌≡◌, ◌≤◌, ◌^◌, ℕ, Bool, true, false, ◌&&◌, cond, List, length, refl, ap, rules, arith, None, Some, Result, Ok, Err}
use Rattle.std.specs.Prelude.{nat_le, nat_lt}
use Rattle.std.specs.Bool.{Decides}
use Rattle.std.specs.Char.{is_ascii_digit}
use Rattle.std.specs.List.{list_all}
use Rattle.std.specs.Result.{OkIff, result_ok}
use Rattle.std.specs.Str.Parse.{digits_value, ParsesUnsigned}
use Rattle.std.proofs.lemmas.Bool.{leb-true, le-leb, ltb-true, lt-ltb, and_parts, and_from, false≢true}
use Rattle.std.proofs.lemmas.Str.Parse.{IsNumeralModel, numerals_by_value, parse_digits}
use Rattle.tool.specs.commands.Command.{number_of_word}

digits : IsNumeralModel (λ ds. list_all is_ascii_digit ds ≡ true) (digits_value 10)
digits = numerals_by_value _ (search rules)

by_test : {E : Type 0} (r : Result ℕ E) (b : Bool) (P : Type 0) (v : ℕ) → Decides b P → OkIff r P v → result_ok r ≡ cond b (Some v) None
by_test (Ok x) true P v d h = ap Some h.1
by_test (Ok x) false P v d h = absurd (false≢true (d.1 h.0))
by_test (Err e) true P v d h = absurd (h (d.0 refl))
by_test (Err e) false P v d h = refl

pub read_number : {E : Type 0} (text : List ℕ) (r : Result ℕ E) → length text ≤ 20 → list_all is_ascii_digit text ≡ true → ParsesUnsigned 64 10 text r
    → result_ok r ≡ number_of_word text
read_number text r short all h =
    let n = length text in
    let v = digits_value 10 text in
    let a : Bool = list_all is_ascii_digit text && nat_le 1 n in
    let b : Bool = a && nat_le n 20 in
    by_test r (b && nat_lt v (2 ^ 64)) _ v (
      λ e. let p = and_parts b (nat_lt v (2 ^ 64)) e in
          let some = leb-true 1 n (and_parts (list_all is_ascii_digit text) (nat_le 1 n) (and_parts a (nat_le n 20) p.0).0).1 in
          (omega arith, ltb-true v (2 ^ 64) p.1),
      λ q. let some = and_from (list_all is_ascii_digit text) (nat_le 1 n) all (le-leb 1 n (omega arith)) in
          and_from b (nat_lt v (2 ^ 64)) (and_from a (nat_le n 20) some (le-leb n 20 short)) (lt-ltb v (2 ^ 64) q.1),
    )
    (parse_digits digits 64 text r h all)
