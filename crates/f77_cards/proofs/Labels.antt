-- The number in a label field, column by column.
use Rattle.std.proofs.Common.{arith, ◌≡◌, ℕ, ◌+◌, ◌-◌, ◌*◌, ◌^◌, ◌<◌, List, [], ◌∷◌, ◌++◌, length, take, get_or, true, false, refl, ap, sym, ◌∙◌, Option, None, Some, unwrap_or, add-one}
use Rattle.std.specs.Prelude.{filter, nat_le}
use Rattle.std.specs.Char.{is_ascii_digit, digit_value}
use Rattle.std.specs.Str.Parse.{digits_value}
use Rattle.std.proofs.lemmas.Bool.{cond-true, cond-false, and_parts, leb-true}
use Rattle.std.proofs.lemmas.List.{append-nil, take_more}
use Rattle.std.proofs.Math.Nat.{pow-suc}
use Rattle.std.proofs.lemmas.List.Elements.{filter-append}
use Rattle.std.proofs.lemmas.Int.Digits.{digits_value_push}
use Rattle.std.proofs.lemmas.Str.{digit_value_digit}
use Rattle.f77_grammar.specs.Cards.{number_in, label_in_field}

number_in-or : (digits : List ℕ) → unwrap_or (number_in digits) 0 ≡ digits_value 10 digits
number_in-or [] = refl
number_in-or (d ∷ digits) = refl

number_in-push : (digits : List ℕ) (c : ℕ) → number_in (digits ++ c ∷ []) ≡ Some (digits_value 10 (digits ++ c ∷ []))
number_in-push [] c = refl
number_in-push (d ∷ digits) c = refl

digit_value-is : (c : ℕ) → is_ascii_digit c ≡ true → digit_value c ≡ c - 48
digit_value-is c h =
    let p = and_parts (nat_le 48 c) (nat_le c 57) h in
    omega (arith, digit_value_digit c (leb-true 48 c p.0, leb-true c 57 p.1))

-- a digit more
pub label_in_field-digit : (front : List ℕ) (c : ℕ) → is_ascii_digit c ≡ true → label_in_field (front ++ c ∷ []) ≡ Some (unwrap_or (label_in_field front) 0 * 10 + (c - 48))
unfolding label_in_field
label_in_field-digit front c h =
    let digits = filter is_ascii_digit front in
    ap number_in (filter-append is_ascii_digit front (c ∷ []) ∙ ap (λ xs. digits ++ xs) (cond-true (is_ascii_digit c) (c ∷ []) [] h))
    ∙ number_in-push digits c ∙ ap Some (digits_value_push 10 digits c ∙ ap (λ n. n * 10 + digit_value c) (sym (number_in-or digits)) ∙ ap (λ n. unwrap_or (number_in digits) 0 * 10 + n) (digit_value-is c h))

-- another column more
pub label_in_field-other : (front : List ℕ) (c : ℕ) → is_ascii_digit c ≡ false → label_in_field (front ++ c ∷ []) ≡ label_in_field front
unfolding label_in_field
label_in_field-other front c h =
    let digits = filter is_ascii_digit front in
    ap number_in (filter-append is_ascii_digit front (c ∷ []) ∙ ap (λ xs. digits ++ xs) (cond-false (is_ascii_digit c) (c ∷ []) [] h) ∙ append-nil digits)

pub label_in_field-none : label_in_field [] ≡ None
unfolding label_in_field
label_in_field-none = refl

-- ---- the step of a loop over the columns

ten_more : (i : ℕ) → 10 ^ (i + 1) ≡ 10 ^ i * 10
ten_more i = rw add-one (pow-suc 10 i)

pub label_step-digit : (field : List ℕ) (i : ℕ) (label : Option ℕ) (c : ℕ) → i < length field → label ≡ label_in_field (take i field) → unwrap_or label 0 < 10 ^ i → c ≡ get_or field i 0 → is_ascii_digit c ≡ true
    → (Some (unwrap_or label 0 * 10 + (c - 48)) ≡ label_in_field (take (i + 1) field)) × (unwrap_or label 0 * 10 + (c - 48) < 10 ^ (i + 1))
label_step-digit field i label c in_field e below at digit =
    let p = and_parts (nat_le 48 c) (nat_le c 57) digit in (
      ap (λ o. Some (unwrap_or o 0 * 10 + (c - 48))) e ∙ sym (label_in_field-digit (take i field) c digit) ∙ ap (λ x. label_in_field (take i field ++ x ∷ [])) at ∙ ap label_in_field (sym (take_more field i 0 in_field)),
      omega (arith, below, leb-true c 57 p.1, ten_more i),
    )

pub label_step-other : (field : List ℕ) (i : ℕ) (label : Option ℕ) (c : ℕ) → i < length field → label ≡ label_in_field (take i field) → unwrap_or label 0 < 10 ^ i → c ≡ get_or field i 0 → is_ascii_digit c ≡ false
    → (label ≡ label_in_field (take (i + 1) field)) × (unwrap_or label 0 < 10 ^ (i + 1))
label_step-other field i label c in_field e below at other = (
  e ∙ sym (label_in_field-other (take i field) c other) ∙ ap (λ x. label_in_field (take i field ++ x ∷ [])) at ∙ ap label_in_field (sym (take_more field i 0 in_field)),
  omega (arith, below, ten_more i),
)
