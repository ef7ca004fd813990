-- The numbers of a mark, and which lines have one.
use Rattle.std.proofs.Common.{arith, ◌≡◌, ℕ, zero, suc, ◌+◌, ◌-◌, ◌*◌, ◌^◌, ◌<◌, ◌≤◌, List, [], ◌∷◌, ◌++◌, length, take, drop, get_or, Bool, true, false, not, ◌&&◌, cond, refl, ap, sym, subst, ◌∙◌, Option, None, Some, add-one, length-append, append_assoc}
use mathlib.Core.Path.{ap₂}
use Rattle.std.specs.Prelude.{nat_le, nat_lt, position, ◌==◌}
use Rattle.std.specs.List.{list_all, position_or_len}
use Rattle.std.specs.Char.{is_ascii_digit, digit_value}
use Rattle.std.specs.Str.Parse.{digits_value, AllDigits}
use Rattle.std.proofs.lemmas.Bool.{cond-true, and_parts, and_from, leb-true, le-leb, ltb-true, lt-ltb, eqb-true}
use Rattle.std.proofs.lemmas.Bool.Decides.{nat_tests}
use Rattle.std.proofs.lemmas.List.{take_at, drop_at, take-append-drop, drop_more, length_push}
use Rattle.std.proofs.lemmas.List.Quantifiers.{position-Some}
use Rattle.std.proofs.Math.Nat.{pow-suc}
use Rattle.std.proofs.lemmas.Int.Digits.{digits_value_more}
use Rattle.std.proofs.lemmas.Str.{digit_value_digit}
use Rattle.std.proofs.lemmas.Str.Parse.{digit_from_value}
use Rattle.tree.specs.declared.stmts.Mark.{Mark}
use Rattle.f90_grammar.specs.FreeForm.{IsMarkNumber, IsMark}
use Rattle.reading.specs.Characters.{is_blank}
use Rattle.f90_lines.specs.Marks.{is_number, number_in, with_level, with_stmt, behind_second, with_nest, behind_first, numbers_in, mark_in}

-- ---- a number, digit by digit

ten_more : (i : ℕ) → 10 ^ (i + 1) ≡ 10 ^ i * 10
ten_more i = rw add-one (pow-suc 10 i)

digit_value-is : (c : ℕ) → is_ascii_digit c ≡ true → digit_value c ≡ c - 48
digit_value-is c h =
    let p = and_parts (nat_le 48 c) (nat_le c 57) h in
    omega (arith, digit_value_digit c (leb-true 48 c p.0, leb-true c 57 p.1))

pub digit_in : (digits : List ℕ) (i : ℕ) → list_all is_ascii_digit digits ≡ true → i < length digits → is_ascii_digit (get_or digits i 0) ≡ true
digit_in [] i h l = absurd (omega (arith, l))
digit_in (d ∷ ds) zero h l = (and_parts (is_ascii_digit d) (list_all is_ascii_digit ds) h).0
digit_in (d ∷ ds) (suc i) h l = digit_in ds i (and_parts (is_ascii_digit d) (list_all is_ascii_digit ds) h).1 (omega (arith, l))

-- a step of the loop
pub value_more : (digits : List ℕ) (i n d : ℕ) → i < length digits → list_all is_ascii_digit digits ≡ true → d ≡ get_or digits i 0 - 48
    → n ≡ digits_value 10 (take i digits) → n < 10 ^ i
    → (n * 10 + d ≡ digits_value 10 (take (i + 1) digits)) × (n * 10 + d < 10 ^ (i + 1))
value_more digits i n d l h at e b =
    let c = get_or digits i 0 in
    let g = digit_in digits i h l in
    let v : digit_value c ≡ d = digit_value-is c g ∙ sym at in
    let p = and_parts (nat_le 48 c) (nat_le c 57) g in
    let high : c ≤ 57 = leb-true c 57 p.1 in (
      ap₂ (λ (a x : ℕ). a * 10 + x) e (sym v) ∙ sym (digits_value_more 10 digits i l),
      omega (arith, b, high, at, ten_more i),
    )

-- ---- numbers of a mark

digit_below : (c : ℕ) → is_ascii_digit c ≡ true → digit_value c < 10
digit_below c h =
    let p = and_parts (nat_le 48 c) (nat_le c 57) h in
    omega (arith, digit_value_digit c (leb-true 48 c p.0, leb-true c 57 p.1), leb-true c 57 p.1)

all_digits : (t : List ℕ) → list_all is_ascii_digit t ≡ true → AllDigits 10 t
all_digits [] h = tt
all_digits (c ∷ cs) h =
    let p = and_parts (is_ascii_digit c) (list_all is_ascii_digit cs) h in (digit_below c p.0, all_digits cs p.1)

is_digit_from : (c : ℕ) → digit_value c < 10 → is_ascii_digit c ≡ true
is_digit_from c h =
    let r = digit_from_value c h in and_from (nat_le 48 c) (nat_le c 57) (le-leb 48 c r.0) (le-leb c 57 r.1)

are_digits : (t : List ℕ) → AllDigits 10 t → list_all is_ascii_digit t ≡ true
are_digits [] h = refl
are_digits (c ∷ cs) h = and_from (is_ascii_digit c) (list_all is_ascii_digit cs) (is_digit_from c h.0) (are_digits cs h.1)

number_by : (t : List ℕ) (n : ℕ) (b : Bool) → is_number t ≡ b → cond b (Some (digits_value 10 t)) None ≡ Some n → IsMarkNumber t n
number_by t n true e h =
    let some = nat_lt 0 (length t) in
    let few = nat_le (length t) 10 in
    let all = list_all is_ascii_digit t in
    let small = nat_lt (digits_value 10 t) (2 ^ 32) in
    let p = and_parts some (few && (all && small)) e in
    let q = and_parts few (all && small) p.1 in
    let r = and_parts all small q.1 in
    let v : n ≡ digits_value 10 t = cc in
    record {
      digits = (ltb-true 0 (length t) p.0, all_digits t r.0);
      few = leb-true (length t) 10 q.0;
      value = v;
      small = subst (λ (x : ℕ). x < 2 ^ 32) (sym v) (ltb-true (digits_value 10 t) (2 ^ 32) r.1);
    }
number_by t n false e h = absurd (cc)

number_sound : (t : List ℕ) (n : ℕ) → number_in t ≡ Some n → IsMarkNumber t n
number_sound t n h = number_by t n (is_number t) refl h

number_complete : (t : List ℕ) (n : ℕ) → IsMarkNumber t n → number_in t ≡ Some n
number_complete t n h =
    let small : nat_lt (digits_value 10 t) (2 ^ 32) ≡ true = lt-ltb (digits_value 10 t) (2 ^ 32) (subst (λ (x : ℕ). x < 2 ^ 32) h.value h.small) in
    let e : is_number t ≡ true
    = and_from (nat_lt 0 (length t)) _ (lt-ltb 0 (length t) h.digits.0)
    (and_from (nat_le (length t) 10) _ (le-leb (length t) 10 h.few) (and_from (list_all is_ascii_digit t) _ (are_digits t h.digits.1) small)) in
    cond-true (is_number t) (Some (digits_value 10 t)) None e ∙ ap Some (sym h.value)

-- ---- up to a blank

no_blank : (c : ℕ) → digit_value c < 10 → is_blank c ≡ false
no_blank c h = let r = digit_from_value c h in grind (arith, nat_tests)

blank_behind : (t r : List ℕ) → AllDigits 10 t → position_or_len is_blank (t ++ 32 ∷ r) ≡ length t
blank_behind [] r h = refl
blank_behind (c ∷ cs) r h =
    let e : not (is_blank c) ≡ true = ap not (no_blank c h.0) in
    cond-true (not (is_blank c)) (1 + position_or_len is_blank (cs ++ 32 ∷ r)) 0 e ∙ (ap (λ (n : ℕ). 1 + n) (blank_behind cs r h.1) ∙ omega arith)

position_behind : (t r : List ℕ) → AllDigits 10 t → position is_blank (t ++ 32 ∷ r) ≡ Some (length t)
position_behind t r h =
    let n = position_or_len is_blank (t ++ 32 ∷ r) in
    let e : n ≡ length t = blank_behind t r h in
    let l : n < length (t ++ 32 ∷ r) = omega (arith, e, length-append t (32 ∷ r)) in
    cond-true (nat_lt n (length (t ++ 32 ∷ r))) (Some n) None (lt-ltb n (length (t ++ 32 ∷ r)) l) ∙ ap Some e

drop_behind : (t r : List ℕ) → drop (length t + 1) (t ++ 32 ∷ r) ≡ r
drop_behind t r =
    ap (drop (length t + 1)) (sym (append_assoc t (32 ∷ []) r)) ∙ drop_at (t ++ 32 ∷ []) r (length t + 1) (length_push t 32)

-- the text is cut at its first blank
cut_at : (text : List ℕ) (i : ℕ) → position is_blank text ≡ Some i → text ≡ take i text ++ 32 ∷ drop (i + 1) text
cut_at text i e =
    let p = position-Some is_blank text i 0 e in
    let c : get_or text i 0 ≡ 32 = eqb-true (get_or text i 0) 32 p.1 in
    sym (take-append-drop i text) ∙ ap (λ (us : List ℕ). take i text ++ us) (drop_more text i 0 p.0 ∙ ap (λ (x : ℕ). x ∷ drop (i + 1) text) c)

-- ---- the line of a mark

second_complete : (a b c : ℕ) (second third : List ℕ) → IsMarkNumber second b → IsMarkNumber third c
    → behind_second a (second ++ 32 ∷ third) (position is_blank (second ++ 32 ∷ third)) ≡ Some (record { nest = a; stmt = b; level = c })
second_complete a b c second third h k =
    let text = second ++ 32 ∷ third in
    ap (behind_second a text) (position_behind second third h.digits.1)
    ∙ (ap₂ (λ (o : Option ℕ) (rest : List ℕ). with_stmt a o rest)
    (ap number_in (take_at second (32 ∷ third) (length second) refl) ∙ number_complete second b h) (drop_behind second third)
    ∙ ap (with_level a b) (number_complete third c k))

numbers_complete : (a b c : ℕ) (first second third : List ℕ) → IsMarkNumber first a → IsMarkNumber second b → IsMarkNumber third c
    → numbers_in (first ++ 32 ∷ (second ++ 32 ∷ third)) ≡ Some (record { nest = a; stmt = b; level = c })
numbers_complete a b c first second third g h k =
    let rest = second ++ 32 ∷ third in
    let text = first ++ 32 ∷ rest in
    ap (behind_first text) (position_behind first rest g.digits.1)
    ∙ (ap₂ (λ (o : Option ℕ) (us : List ℕ). with_nest o us)
    (ap number_in (take_at first (32 ∷ rest) (length first) refl) ∙ number_complete first a g) (drop_behind first rest)
    ∙ second_complete a b c second third h k)

pub mark_complete : (line : List ℕ) (m : Mark) → IsMark line m → mark_in line ≡ Some m
mark_complete line m h = ap mark_in h.same ∙ numbers_complete m.nest m.stmt m.level h.first h.second h.third h.nest h.stmt h.level

record Numbers (text : List ℕ) (m : Mark) : Type 0 where
  pub first : List ℕ
  pub second : List ℕ
  pub third : List ℕ
  pub same : text ≡ first ++ (32 ∷ (second ++ (32 ∷ third)))
  pub nest : IsMarkNumber first m.nest
  pub stmt : IsMarkNumber second m.stmt
  pub level : IsMarkNumber third m.level

-- the mark is of this nest, and the text has its other numbers
record Others (a : ℕ) (text : List ℕ) (m : Mark) : Type 0 where
  pub second : List ℕ
  pub third : List ℕ
  pub same : text ≡ second ++ (32 ∷ third)
  pub nest : a ≡ m.nest
  pub stmt : IsMarkNumber second m.stmt
  pub level : IsMarkNumber third m.level

second_sound : (a : ℕ) (text : List ℕ) (m : Mark) (o : Option ℕ) → position is_blank text ≡ o → behind_second a text o ≡ Some m → Others a text m
second_sound a text m None e h = absurd (cc)
second_sound a text m (Some i) e h = by_stmt (number_in (take i text)) refl h
  where
    by_level : (b : ℕ) → number_in (take i text) ≡ Some b → (o : Option ℕ) → number_in (drop (i + 1) text) ≡ o → with_level a b o ≡ Some m → Others a text m
    by_level b f None g k = absurd (cc)
    by_level b f (Some c) g k =
        let w : record { nest = a; stmt = b; level = c } ≡ m = cc in
        let x : a ≡ m.nest = ap (λ (n : Mark). n.nest) w in
        let y : b ≡ m.stmt = ap (λ (n : Mark). n.stmt) w in
        let z : c ≡ m.level = ap (λ (n : Mark). n.level) w in
        record {
          second = take i text;
          third = drop (i + 1) text;
          same = cut_at text i e;
          nest = x;
          stmt = number_sound (take i text) m.stmt (f ∙ ap Some y);
          level = number_sound (drop (i + 1) text) m.level (g ∙ ap Some z);
        }

    by_stmt : (o : Option ℕ) → number_in (take i text) ≡ o → with_stmt a o (drop (i + 1) text) ≡ Some m → Others a text m
    by_stmt None f k = absurd (cc)
    by_stmt (Some b) f k = by_level b f (number_in (drop (i + 1) text)) refl k

first_sound : (text : List ℕ) (m : Mark) (o : Option ℕ) → position is_blank text ≡ o → behind_first text o ≡ Some m → Numbers text m
first_sound text m None e h = absurd (cc)
first_sound text m (Some i) e h = by_nest (number_in (take i text)) refl h
  where
    by_nest : (o : Option ℕ) → number_in (take i text) ≡ o → with_nest o (drop (i + 1) text) ≡ Some m → Numbers text m
    by_nest None f k = absurd (cc)
    by_nest (Some a) f k =
        let s = second_sound a (drop (i + 1) text) m (position is_blank (drop (i + 1) text)) refl k in
        record {
          first = take i text;
          second = s.second;
          third = s.third;
          same = cut_at text i e ∙ ap (λ (us : List ℕ). take i text ++ 32 ∷ us) s.same;
          nest = number_sound (take i text) m.nest (f ∙ ap Some s.nest);
          stmt = s.stmt;
          level = s.level;
        }

line_by : (a b c : ℕ) (cs : List ℕ) (m : Mark) (t : Bool) → (a == 33 && (b == 83 && c == 32)) ≡ t → cond t (numbers_in cs) None ≡ Some m → IsMark (a ∷ b ∷ c ∷ cs) m
line_by a b c cs m false e h = absurd (cc)
line_by a b c cs m true e h =
    let p = and_parts (a == 33) (b == 83 && c == 32) e in
    let q = and_parts (b == 83) (c == 32) p.1 in
    let x : a ≡ 33 = eqb-true a 33 p.0 in
    let y : b ≡ 83 = eqb-true b 83 q.0 in
    let z : c ≡ 32 = eqb-true c 32 q.1 in
    let s = first_sound cs m (position is_blank cs) refl h in
    record {
      first = s.first;
      second = s.second;
      third = s.third;
      same = rw (x, y, z) (ap (λ (us : List ℕ). 33 ∷ 83 ∷ 32 ∷ us) s.same);
      nest = s.nest;
      stmt = s.stmt;
      level = s.level;
    }

pub mark_sound : (line : List ℕ) (m : Mark) → mark_in line ≡ Some m → IsMark line m
mark_sound [] m h = absurd (cc)
mark_sound (a ∷ []) m h = absurd (cc)
mark_sound (a ∷ b ∷ []) m h = absurd (cc)
mark_sound (a ∷ b ∷ c ∷ cs) m h = line_by a b c cs m (a == 33 && (b == 83 && c == 32)) refl h
