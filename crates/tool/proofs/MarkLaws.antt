-- Laws of the words in which marks and counts are told.
use Rattle.std.proofs.Common.{◌≡◌, ◌≤◌, ◌<◌, ◌&&◌, ℕ, zero, suc, ◌+◌, ◌-◌, Bool, true, false, cond, List, [], ◌∷◌, ◌++◌, length, take, drop, get_or, codes, Option, None, Some, refl, ap, sym, ◌∙◌, subst, arith}
use Rattle.std.specs.Prelude.{nat_eq, nat_lt, not, ◌==◌, count_by, position, option_copied, MatchOption, filter_map, slice_get, unwrap_or, is_some}
use Rattle.std.specs.Cmp.Lexicographic.{pointwise}
use Rattle.std.specs.List.{position_or_len, before_first, after_first, cons_option, sum_by, list_all}
use Rattle.std.specs.Option.{option_and_then}
use Rattle.std.specs.Char.{is_ascii_digit}
use Rattle.std.specs.Str.{bytes_eq, IsUtf8, IsAscii}
use Rattle.std.proofs.lemmas.Bool.{and_parts, ltb-true, ltb-false, ne_eqb}
use Rattle.std.proofs.lemmas.List.{take_rest, take_all, drop_all, drop_more}
use Rattle.std.proofs.lemmas.Option.{cond_some}
use Rattle.std.proofs.lemmas.Bool.Decides.{nat_tests}
use Rattle.std.proofs.lemmas.Str.{IsUtf8-from_ascii}
use Rattle.std.proofs.lemmas.Str.Ascii.{IsAscii-nil, IsAscii-cons}
use Rattle.std.proofs.lemmas.List.Sums.{sum_by-cons}
use Rattle.meaning.specs.Deck.{lines_of}
use Rattle.tool.specs.ArrayMarks.{part_behind, begins, numbers_listed, loops_listed, first_listed, loops_round}
use Rattle.reading.specs.Characters.{is_blank}
use Rattle.tool.specs.commands.Command.{number_of_word}
use Rattle.std.specs.Borrow.{Bor}

-- ---- what stands behind a front

front_taken : (front line : List ℕ) → bytes_eq (take (length front) line) front ≡ true → part_behind front line ≡ Some (drop (length front) line)
front_taken [] line e = refl
front_taken (c ∷ front) [] e = absurd (cc)
front_taken (c ∷ front) (b ∷ line) e = by (nat_eq b c) e (front_taken front line)
  where
    by : (t : Bool) → (t && bytes_eq (take (length front) line) front) ≡ true → (bytes_eq (take (length front) line) front ≡ true → part_behind front line ≡ Some (drop (length front) line))
        → cond t (part_behind front line) None ≡ Some (drop (length front) line)
    by true e next = next e
    by false e next = absurd (cc)

front_missed : (front line : List ℕ) → bytes_eq (take (length front) line) front ≡ false → part_behind front line ≡ None
front_missed [] line e = absurd (cc)
front_missed (c ∷ front) [] e = refl
front_missed (c ∷ front) (b ∷ line) e = by (nat_eq b c) e (front_missed front line)
  where
    by : (t : Bool) → (t && bytes_eq (take (length front) line) front) ≡ false → (bytes_eq (take (length front) line) front ≡ false → part_behind front line ≡ None)
        → cond t (part_behind front line) None ≡ None
    by true e next = next e
    by false e next = refl

pub stripped : (front line : List ℕ) (r : Option (Bor (List ℕ)))
    → MatchOption r (bytes_eq (take (length front) line) front ≡ false) (λ x. (bytes_eq (take (length front) line) front ≡ true) × (x.now ≡ drop (length front) line) × (length x.now + length front ≡ length line))
    → option_copied r ≡ part_behind front line
stripped front line None h = sym (front_missed front line h)
stripped front line (Some x) h = ap Some h.1 ∙ sym (front_taken front line h.0)

part_behind-append : (xs ys line : List ℕ) → part_behind (xs ++ ys) line ≡ option_and_then (part_behind ys) (part_behind xs line)
part_behind-append [] ys line = refl
part_behind-append (x ∷ xs) ys [] = refl
part_behind-append (x ∷ xs) ys (b ∷ line) = by (b == x) (part_behind-append xs ys line)
  where
    by : (t : Bool) → part_behind (xs ++ ys) line ≡ option_and_then (part_behind ys) (part_behind xs line)
        → cond t (part_behind (xs ++ ys) line) None ≡ option_and_then (part_behind ys) (cond t (part_behind xs line) None)
    by true next = next
    by false next = refl

module _ (a b c line : List ℕ) where
  three : part_behind (a ++ b ++ c) line ≡ option_and_then (part_behind c) (option_and_then (part_behind b) (part_behind a line))
  three = part_behind-append (a ++ b) c line ∙ ap (option_and_then (part_behind c)) (part_behind-append a b line)

  pub no_first : part_behind a line ≡ None → part_behind (a ++ b ++ c) line ≡ None
  no_first e = three ∙ ap (λ (o : Option (List ℕ)). option_and_then (part_behind c) (option_and_then (part_behind b) o)) e

  pub after_first_part : (x : List ℕ) → part_behind a line ≡ Some x → part_behind (a ++ b ++ c) line ≡ option_and_then (part_behind c) (part_behind b x)
  after_first_part x e = three ∙ ap (λ (o : Option (List ℕ)). option_and_then (part_behind c) (option_and_then (part_behind b) o)) e

  pub no_second : (x : List ℕ) → part_behind a line ≡ Some x → part_behind b x ≡ None → part_behind (a ++ b ++ c) line ≡ None
  no_second x e d = after_first_part x e ∙ ap (option_and_then (part_behind c)) d

  pub after_both : (x y : List ℕ) → part_behind a line ≡ Some x → part_behind b x ≡ Some y → part_behind (a ++ b ++ c) line ≡ part_behind c y
  after_both x y e d = after_first_part x e ∙ ap (option_and_then (part_behind c)) d

pub ruleset behind_laws = (no_first, no_second, after_both)

-- ---- numbers up to a parenthesis

abbrev is_comma : ℕ → Bool
is_comma b = b == 44

abbrev is_end : ℕ → Bool
is_end b = b == 41

-- the commas before the parenthesis
abbrev pub commas : List ℕ → ℕ
commas text = count_by is_comma (before_first is_end text)

commas_ended : (b : ℕ) (text : List ℕ) → (b == 41) ≡ true → commas (b ∷ text) ≡ 0
commas_ended b text e = ap (λ (t : Bool). count_by is_comma (take (cond (not t) (1 + position_or_len is_end text) 0) (b ∷ text))) e

one_more : (n : ℕ) (b : ℕ) (text : List ℕ) → count_by is_comma (take (1 + n) (b ∷ text)) ≡ cond (b == 44) 1 0 + count_by is_comma (take n text)
one_more n b text =
    let e : 1 + n ≡ suc n = omega arith in
    ap (λ (k : ℕ). count_by is_comma (take k (b ∷ text))) e ∙ sum_by-cons (λ (x : ℕ). cond (is_comma x) 1 0) b (take n text)

commas_more : (b : ℕ) (text : List ℕ) → (b == 41) ≡ false → commas (b ∷ text) ≡ cond (b == 44) 1 0 + commas text
commas_more b text e =
    ap (λ (t : Bool). count_by is_comma (take (cond (not t) (1 + position_or_len is_end text) 0) (b ∷ text))) e ∙ one_more (position_or_len is_end text) b text

module _ (xs : List ℕ) (i : ℕ) (h : i < length xs) where
  pub end_reached : get_or xs i 0 ≡ 41 → commas (drop i xs) ≡ 0
  end_reached is = ap commas (drop_more xs i 0 h) ∙ commas_ended (get_or xs i 0) (drop (i + 1) xs) (ap (λ (b : ℕ). b == 41) is)

  commas_here : (get_or xs i 0 == 41) ≡ false → commas (drop i xs) ≡ cond (get_or xs i 0 == 44) 1 0 + commas (drop (i + 1) xs)
  commas_here e = ap commas (drop_more xs i 0 h) ∙ commas_more (get_or xs i 0) (drop (i + 1) xs) e

  pub comma_passed : get_or xs i 0 ≡ 44 → commas (drop i xs) ≡ 1 + commas (drop (i + 1) xs)
  comma_passed is = commas_here (ap (λ (b : ℕ). b == 41) is) ∙ ap (λ (b : ℕ). cond (b == 44) 1 0 + commas (drop (i + 1) xs)) is

  pub other_passed : (get_or xs i 0 ≡ 41 → ⊥) → (get_or xs i 0 ≡ 44 → ⊥) → commas (drop i xs) ≡ commas (drop (i + 1) xs)
  other_passed no_end no_comma =
      let none : 0 + commas (drop (i + 1) xs) ≡ commas (drop (i + 1) xs) = omega arith in
      commas_here (ne_eqb (get_or xs i 0) 41 no_end) ∙ ap (λ (t : Bool). cond t 1 0 + commas (drop (i + 1) xs)) (ne_eqb (get_or xs i 0) 44 no_comma) ∙ none

-- ---- the first line of a statement, behind the line of its nest

pub listed_none : (s line : List ℕ) (ls : List (List ℕ)) → loops_listed s line ≡ None → first_listed s (line ∷ ls) ≡ first_listed s ls
listed_none s line ls e = ap (λ (o : Option ℕ). unwrap_or (slice_get (cons_option o (filter_map (loops_listed s) ls)) 0) 0) e

pub listed_some : (s line : List ℕ) (ls : List (List ℕ)) (n : ℕ) → loops_listed s line ≡ Some n → first_listed s (line ∷ ls) ≡ n
listed_some s line ls n e = ap (λ (o : Option ℕ). unwrap_or (slice_get (cons_option o (filter_map (loops_listed s) ls)) 0) 0) e

module _ (p : List ℕ → Bool) (x : List ℕ) (xs : List (List ℕ)) where
  after_none : p x ≡ false → after_first p (x ∷ xs) ≡ after_first p xs
  after_none e =
      let n = position_or_len p xs in
      let k : 1 + n + 1 ≡ suc (n + 1) = omega arith in
      ap (λ (t : Bool). drop (cond (not t) (1 + n) 0 + 1) (x ∷ xs)) e ∙ ap (λ (m : ℕ). drop m (x ∷ xs)) k

  after_some : p x ≡ true → after_first p (x ∷ xs) ≡ xs
  after_some e = ap (λ (t : Bool). drop (cond (not t) (1 + position_or_len p xs) 0 + 1) (x ∷ xs)) e

abbrev pub nest_front : List ℕ → List ℕ
nest_front nest = codes "!G NEST " ++ nest ++ codes " LINE "

pub round_none : (nest s line : List ℕ) (ls : List (List ℕ)) → begins (nest_front nest) line ≡ false → loops_round (line ∷ ls) nest s ≡ loops_round ls nest s
unfolding loops_round
round_none nest s line ls e = ap (first_listed s) (after_none (begins (nest_front nest)) line ls e)

pub round_some : (nest s line : List ℕ) (ls : List (List ℕ)) → begins (nest_front nest) line ≡ true → loops_round (line ∷ ls) nest s ≡ first_listed s ls
unfolding loops_round
round_some nest s line ls e = ap (first_listed s) (after_some (begins (nest_front nest)) line ls e)

pub round_nowhere : (nest s : List ℕ) → loops_round [] nest s ≡ 0
unfolding loops_round
round_nowhere nest s = refl

pub ruleset round_laws = (round_none, round_some, round_nowhere)

-- ---- what is no number

none_of : (a : Bool) (b c d : Bool) (n : ℕ) → a ≡ false → cond (a && b && c && d) (Some n) None ≡ None
none_of true b c d n e = absurd (cc)
none_of false b c d n e = refl

a_digit : (d : ℕ) → is_ascii_digit d ≡ true → d < 128
a_digit d e = grind (arith, nat_tests)

digits_are_ascii : (ds : List ℕ) → list_all is_ascii_digit ds ≡ true → IsAscii ds
digits_are_ascii [] e = IsAscii-nil
digits_are_ascii (d ∷ ds) e =
    let p = and_parts (is_ascii_digit d) (list_all is_ascii_digit ds) e in
    IsAscii-cons d ds (a_digit d p.0) (digits_are_ascii ds p.1)

digits_are_text : (ds : List ℕ) → list_all is_ascii_digit ds ≡ true → IsUtf8 ds
digits_are_text ds e = IsUtf8-from_ascii ds (digits_are_ascii ds e)

pub no_number : (ds : List ℕ) → (IsUtf8 ds → ⊥) → number_of_word ds ≡ None
no_number ds h = by (list_all is_ascii_digit ds) refl
  where
    by : (t : Bool) → list_all is_ascii_digit ds ≡ t → number_of_word ds ≡ None
    by true e = absurd (h (digits_are_text ds e))
    by false e = none_of (list_all is_ascii_digit ds) _ _ _ _ e

-- ---- what is cut at the first blank

-- the place that is found is that of the first
found : (p : ℕ → Bool) (xs : List ℕ) (at : ℕ) → position p xs ≡ Some at → (position_or_len p xs ≡ at) × (at < length xs)
found p xs at e =
    let s = cond_some (nat_lt (position_or_len p xs) (length xs)) (position_or_len p xs) at e in
    let within : position_or_len p xs < length xs = ltb-true (position_or_len p xs) (length xs) s.0 in
    (s.1, omega arith)

-- where none is found, there is none
not_found : (p : ℕ → Bool) (xs : List ℕ) → position p xs ≡ None → length xs ≤ position_or_len p xs
not_found p xs e = by (nat_lt (position_or_len p xs) (length xs)) refl
  where
    by : (t : Bool) → nat_lt (position_or_len p xs) (length xs) ≡ t → length xs ≤ position_or_len p xs
    by true d = let s : ◌≡◌ {A = Option ℕ} (Some (position_or_len p xs)) None = ap (λ (t : Bool). cond t (Some (position_or_len p xs)) None) (sym d) ∙ e in absurd (cc)
    by false d = ltb-false (position_or_len p xs) (length xs) d

-- what stands before it, and what stands behind it
pub cut_found : (p : ℕ → Bool) (xs : List ℕ) (at : ℕ) → position p xs ≡ Some at
    → (take at xs ≡ before_first p xs) × (take (length xs - (at + 1)) (drop (at + 1) xs) ≡ after_first p xs)
cut_found p xs at e =
    let here : position_or_len p xs ≡ at = (found p xs at e).0 in
    (ap (λ (n : ℕ). take n xs) (sym here), take_rest xs (at + 1) ∙ ap (λ (n : ℕ). drop (n + 1) xs) (sym here))

pub cut_missed : (p : ℕ → Bool) (xs : List ℕ) → position p xs ≡ None → (xs ≡ before_first p xs) × (◌≡◌ {A = List ℕ} [] (after_first p xs))
cut_missed p xs e =
    let all : length xs ≤ position_or_len p xs = not_found p xs e in
    (sym (take_all (position_or_len p xs) xs all), sym (drop_all (position_or_len p xs + 1) xs (omega arith)))

-- ---- counting line by line

pub counted_yes : (p : List ℕ → Bool) (text line rest : List ℕ) → lines_of text ≡ line ∷ lines_of rest → p line ≡ true → count_by p (lines_of text) ≡ 1 + count_by p (lines_of rest)
counted_yes p text line rest e t =
    ap (count_by p) e ∙ sum_by-cons (λ (l : List ℕ). cond (p l) 1 0) line (lines_of rest) ∙ ap (λ (b : Bool). cond b 1 0 + count_by p (lines_of rest)) t

pub counted_no : (p : List ℕ → Bool) (text line rest : List ℕ) → lines_of text ≡ line ∷ lines_of rest → p line ≡ false → count_by p (lines_of text) ≡ count_by p (lines_of rest)
counted_no p text line rest e t =
    let zero_more : 0 + count_by p (lines_of rest) ≡ count_by p (lines_of rest) = omega arith in
    ap (count_by p) e ∙ sum_by-cons (λ (l : List ℕ). cond (p l) 1 0) line (lines_of rest) ∙ ap (λ (b : Bool). cond b 1 0 + count_by p (lines_of rest)) t ∙ zero_more
