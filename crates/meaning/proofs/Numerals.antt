-- Numbers in the input are numerals, and what is printed is read back.
use Rattle.std.proofs.Common.{◌≡◌, ◌↔◌, refl, sym, ap, ◌∙◌, ℕ, suc, ◌+◌, ◌*◌, ◌-◌, ◌<◌, ◌^◌, ℤ, pos, negsuc, Bool, true, false, ◌&&◌, cond, List, [], ◌∷◌, drop, Result, Ok, Err, arith}
use Rattle.std.specs.Prelude.{nat_le, nat_lt, ◌==◌, neg_ℤ}
use Rattle.std.specs.Int.{IsInRange}
use Rattle.std.specs.Char.{digit_value}
use Rattle.std.specs.Fmt.{decimal}
use Rattle.std.specs.Str.Parse.{AllDigits, IsNumeral, digits_value, digits_value_after, without_leading_sign, signed_digits_value}
use Rattle.std.proofs.lemmas.Str.{digit_value_digit}
use Rattle.std.proofs.lemmas.Str.Parse.{digit_from_value}
use Rattle.std.proofs.lemmas.Fmt.{decimal_is_IsNumeral_wide}
use Rattle.std.proofs.lemmas.Bool.Decides.{Decides-ltb, Decides-eqb, nat_tests}
use Rattle.tree.specs.Steps.{◌>>=◌}
use Rattle.tree.specs.Operators.{fits}
use Rattle.tree.specs.declared.ops.Fault.{Fault}
use Rattle.tree.specs.declared.ops.Fault.TheVariants.{InputForm}
use Rattle.tree.specs.declared.ops.Value.TheVariants.{Int}
use Rattle.meaning.specs.Texts.{digits_after, unsigned_number, signed_number, read_value, value_text}

abbrev is_decimal : ℕ → Bool
is_decimal c = nat_le 48 c && nat_le c 57

yes : (c : ℕ) → is_decimal c ≡ true → (digit_value c < 10) × (c - 48 ≡ digit_value c)
yes c e =
    let r : IsInRange 48 57 c = grind (arith, nat_tests) in
    let d = digit_value_digit c r in
    (omega arith, omega arith)

back : (c : ℕ) → digit_value c < 10 → is_decimal c ≡ true
back c h = let r = digit_from_value c h in grind (arith, nat_tests)

digits_after-is : (n : ℕ) (cs : List ℕ) (m : ℕ) → digits_after n cs ≡ Ok m → AllDigits 10 cs × (m ≡ digits_value_after 10 n cs)
digits_after-is n [] m e = (tt, cc)
digits_after-is n (c ∷ cs) m e = by (digits_after-is (n * 10 + (c - 48)) cs m) (is_decimal c) refl e
  where
    by : (digits_after (n * 10 + (c - 48)) cs ≡ Ok m → AllDigits 10 cs × (m ≡ digits_value_after 10 (n * 10 + (c - 48)) cs))
        → (b : Bool) → is_decimal c ≡ b → cond b (digits_after (n * 10 + (c - 48)) cs) (Err InputForm) ≡ Ok m → AllDigits 10 (c ∷ cs) × (m ≡ digits_value_after 10 (n * 10 + digit_value c) cs)
    by h true t e =
        let d = yes c t in
        let k = h e in
        ((d.0, k.0), k.1 ∙ ap (λ x. digits_value_after 10 (n * 10 + x) cs) d.1)
    by h false t e = cc

digits_after-of : (n : ℕ) (cs : List ℕ) → AllDigits 10 cs → digits_after n cs ≡ Ok (digits_value_after 10 n cs)
digits_after-of n [] h = refl
digits_after-of n (c ∷ cs) h =
    ap (λ b. cond b (digits_after (n * 10 + (c - 48)) cs) (Err InputForm)) (back c h.0)
    ∙ (digits_after-of (n * 10 + (c - 48)) cs h.1
    ∙ ap (λ x. Ok (digits_value_after 10 (n * 10 + x) cs)) (yes c (back c h.0)).1)

unsigned-is : (w : List ℕ) (z : ℤ) → unsigned_number w ≡ Ok z → IsNumeral 10 w × (z ≡ pos (digits_value 10 w))
unsigned-is [] z e = cc
unsigned-is (c ∷ cs) z e = by (digits_after 0 (c ∷ cs)) refl e
  where
    by : (r : Result ℕ Fault) → digits_after 0 (c ∷ cs) ≡ r → ◌≡◌ {A = Result ℤ Fault} (do n ← r; Ok (pos n)) (Ok z) → IsNumeral 10 (c ∷ cs) × (z ≡ pos (digits_value 10 (c ∷ cs)))
    by (Ok n) h f = let d = digits_after-is 0 (c ∷ cs) n h in (((omega arith, d.0), sym (ap pos (sym d.1) ∙ cc)))
    by (Err g) h f = cc

unsigned-of : (w : List ℕ) → IsNumeral 10 w → unsigned_number w ≡ Ok (pos (digits_value 10 w))
unsigned-of [] h = absurd (let l = h.0 in omega arith)
unsigned-of (c ∷ cs) h = ap (λ r. do n ← r; Ok (pos n)) (digits_after-of 0 (c ∷ cs) h.1)

negated-is : (cs : List ℕ) (z : ℤ) → ◌≡◌ {A = Result ℤ Fault} (do y ← unsigned_number cs; Ok (neg_ℤ y)) (Ok z) → IsNumeral 10 cs × (z ≡ neg_ℤ (pos (digits_value 10 cs)))
negated-is cs z e = by (unsigned_number cs) refl e
  where
    by : (r : Result ℤ Fault) → unsigned_number cs ≡ r → ◌≡◌ {A = Result ℤ Fault} (do y ← r; Ok (neg_ℤ y)) (Ok z) → IsNumeral 10 cs × (z ≡ neg_ℤ (pos (digits_value 10 cs)))
    by (Ok y) h f = let d = unsigned-is cs y h in (d.0, (let g : z ≡ neg_ℤ y = cc in g ∙ ap neg_ℤ d.1))
    by (Err g) h f = cc

apart : (c : ℕ) → (c == 43) ≡ true → (c == 45) ≡ true → ⊥
apart c e f = let p = (Decides-eqb c 43).0 e in let q = (Decides-eqb c 45).0 f in absurd (omega arith)

-- the word c ∷ cs without its sign, and its value, where c is a minus or a plus
abbrev stripped : (minus plus : Bool) → ℕ → List ℕ → List ℕ
stripped minus plus c cs = cond minus (drop 1 (c ∷ cs)) (drop (cond plus 1 0) (c ∷ cs))

abbrev spelled : (minus plus : Bool) → ℕ → List ℕ → ℤ
spelled minus plus c cs = cond minus (neg_ℤ (pos (digits_value 10 (stripped minus plus c cs)))) (pos (digits_value 10 (stripped minus plus c cs)))

abbrev read_signed : (minus plus : Bool) → ℕ → List ℕ → Result ℤ Fault
read_signed minus plus c cs = cond plus (unsigned_number cs) (cond minus (do y ← unsigned_number cs; Ok (neg_ℤ y)) (unsigned_number (c ∷ cs)))

read_signed-is : (minus plus : Bool) (c : ℕ) (cs : List ℕ) (z : ℤ) → (plus ≡ true → minus ≡ true → ⊥) → read_signed minus plus c cs ≡ Ok z
    → IsNumeral 10 (stripped minus plus c cs) × (z ≡ spelled minus plus c cs)
read_signed-is true true c cs z n e = absurd (n refl refl)
read_signed-is true false c cs z n e = negated-is cs z e
read_signed-is false true c cs z n e = unsigned-is cs z e
read_signed-is false false c cs z n e = unsigned-is (c ∷ cs) z e

read_signed-of : (minus plus : Bool) (c : ℕ) (cs : List ℕ) → (plus ≡ true → minus ≡ true → ⊥) → IsNumeral 10 (stripped minus plus c cs)
    → read_signed minus plus c cs ≡ Ok (spelled minus plus c cs)
read_signed-of true true c cs n h = absurd (n refl refl)
read_signed-of true false c cs n h = ap (λ r. do y ← r; Ok (neg_ℤ y)) (unsigned-of cs h)
read_signed-of false true c cs n h = unsigned-of cs h
read_signed-of false false c cs n h = unsigned-of (c ∷ cs) h

signed-is : (w : List ℕ) (z : ℤ) → signed_number w ≡ Ok z → IsNumeral 10 (without_leading_sign w) × (z ≡ signed_digits_value 10 w)
signed-is [] z e = cc
signed-is (c ∷ cs) z e = read_signed-is (c == 45) (c == 43) c cs z (apart c) e

signed-of : (w : List ℕ) → IsNumeral 10 (without_leading_sign w) → signed_number w ≡ Ok (signed_digits_value 10 w)
signed-of [] h = absurd (let l = h.0 in omega arith)
signed-of (c ∷ cs) h = read_signed-of (c == 45) (c == 43) c cs (apart c) h

pub input_number : (w : List ℕ) (z : ℤ) → (signed_number w ≡ Ok z) ↔ (IsNumeral 10 (without_leading_sign w) × (z ≡ signed_digits_value 10 w))
input_number w z = (signed-is w z, λ h. signed-of w h.0 ∙ ap Ok (sym h.1))

-- a numeral without a sign is read as what it spells
no_sign : (w : List ℕ) → IsNumeral 10 w → signed_number w ≡ Ok (pos (digits_value 10 w))
no_sign [] h = absurd (let l = h.0 in omega arith)
no_sign (c ∷ cs) h = by (c == 43) (c == 45) refl refl
  where
    digit : IsInRange 48 57 c
    digit = digit_from_value c h.1.0

    by : (p m : Bool) → (c == 43) ≡ p → (c == 45) ≡ m → read_signed m p c cs ≡ Ok (pos (digits_value 10 (c ∷ cs)))
    by true m e f = let q = (Decides-eqb c 43).0 e in let d = digit in absurd (omega arith)
    by false true e f = let q = (Decides-eqb c 45).0 f in let d = digit in absurd (omega arith)
    by false false e f = unsigned-of (c ∷ cs) h

wide : (n : ℕ) → nat_lt n (2 ^ 127) ≡ true → n < 10 ^ 64
wide n e = let l = (Decides-ltb n (2 ^ 127)).0 e in omega arith

wider : (n : ℕ) → nat_lt n (2 ^ 127) ≡ true → suc n < 10 ^ 64
wider n e = let l = (Decides-ltb n (2 ^ 127)).0 e in omega arith

pub printed_number : (old z : ℤ) → fits 127 z ≡ true → read_value (Int old) (value_text (Int z)) ≡ Ok (Int z)
printed_number old (pos n) h =
    let d = decimal_is_IsNumeral_wide n (wide n h) in
    ap (λ r. do z ← r; Ok (Int z)) (no_sign (decimal n) d.0 ∙ ap (λ m. Ok (pos m)) d.1)
printed_number old (negsuc n) h =
    let d = decimal_is_IsNumeral_wide (suc n) (wider n h) in
    ap (λ r. do z ← (do y ← r; Ok (neg_ℤ y)); Ok (Int z)) (unsigned-of (decimal (suc n)) d.0 ∙ ap (λ m. Ok (pos m)) d.1)
