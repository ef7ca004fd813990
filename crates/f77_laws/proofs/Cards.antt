-- The cards of a source have characters from 32 to 126, labels of at most five digits, and rising lines.
use Rattle.std.proofs.Common.{◌≡◌, ℕ, ◌^◌, ◌<◌, ◌≤◌, Bool, true, false, cond, List, [], ◌∷◌, length, filter, map, refl, sym, subst, arith, flat_map}
use Rattle.std.specs.Prelude.{nat_le}
use Rattle.std.specs.Option.{IfSome}
use Rattle.std.specs.Char.{is_ascii_digit, digit_value}
use Rattle.std.specs.List.{AllByRecursion}
use Rattle.std.specs.Str.Lines.{lines}
use Rattle.std.specs.Str.Parse.{AllDigits}
use Rattle.std.proofs.lemmas.Bool.{and_parts, leb-true}
use Rattle.std.proofs.lemmas.List.{length-take}
use Rattle.std.proofs.lemmas.Str.{digit_value_digit}
use Rattle.f77_grammar.specs.Cards.{Line, StatementLines, PlainCard, all_lines, card_in, label_field, label_in_field, number_in, statement_lines}
use Rattle.f77_grammar.proofs.CardLaws.{unrefused, unrefused_short}
use Rattle.f77_grammar.proofs.FirstLine.{lines-le}
use Rattle.f77_laws.specs.Source.{IsSourceLabel}
use Rattle.f77_laws.proofs.Lists.{all_left, all_right, all_weaker}
use Rattle.f77_laws.specs.SourceCards.{IsCard, AreRisingCards, HasCards, ReadSourceHasCards}
use Rattle.f77_laws.proofs.CardLines.{HasCardColumns, AreRisingLines, IsNumbered, rising_right, card_columns, fields, lines_numbered}

-- ---- labels

digit_below : (c : ℕ) → is_ascii_digit c ≡ true → digit_value c < 10
digit_below c h = let p = and_parts (nat_le 48 c) (nat_le c 57) h in omega (arith, digit_value_digit c (leb-true 48 c p.0, leb-true c 57 p.1), leb-true c 57 p.1)

digits_by : (b : Bool) (c : ℕ) (ds : List ℕ) → is_ascii_digit c ≡ b → AllDigits 10 ds → AllDigits 10 (cond b (c ∷ ds) ds)
digits_by true c ds e h = (digit_below c e, h)
digits_by false c ds e h = h

all_digits : (cs : List ℕ) → AllDigits 10 (filter is_ascii_digit cs)
all_digits [] = tt
all_digits (c ∷ cs) = digits_by (is_ascii_digit c) c (filter is_ascii_digit cs) refl (all_digits cs)

fewer_by : (b : Bool) (c : ℕ) (cs ds : List ℕ) → length ds ≤ length cs → length (cond b (c ∷ ds) ds) ≤ length (c ∷ cs)
fewer_by true c cs ds h = omega (arith, h)
fewer_by false c cs ds h = omega (arith, h)

fewer : (cs : List ℕ) → length (filter is_ascii_digit cs) ≤ length cs
fewer [] = omega arith
fewer (c ∷ cs) = fewer_by (is_ascii_digit c) c cs (filter is_ascii_digit cs) (fewer cs)

short_number : (digits : List ℕ) → AllDigits 10 digits → length digits ≤ 5 → IfSome (number_in digits) IsSourceLabel
short_number [] h l = tt
short_number (a ∷ []) h l = let p = h.0 in omega (arith, p)
short_number (a ∷ b ∷ []) h l = let p = h.0 in let q = h.1.0 in omega (arith, p, q)
short_number (a ∷ b ∷ c ∷ []) h l = let p = h.0 in let q = h.1.0 in let r = h.1.1.0 in omega (arith, p, q, r)
short_number (a ∷ b ∷ c ∷ d ∷ []) h l = let p = h.0 in let q = h.1.0 in let r = h.1.1.0 in let s = h.1.1.1.0 in omega (arith, p, q, r, s)
short_number (a ∷ b ∷ c ∷ d ∷ e ∷ []) h l =
    let p = h.0 in let q = h.1.0 in let r = h.1.1.0 in let s = h.1.1.1.0 in let t = h.1.1.1.1.0 in omega (arith, p, q, r, s, t)
short_number (a ∷ b ∷ c ∷ d ∷ e ∷ f ∷ digits) h l = absurd (omega (arith, l))

field_label : (field : List ℕ) → length field ≤ 5 → IfSome (label_in_field field) IsSourceLabel
unfolding label_in_field
field_label field l =
    let digits = filter is_ascii_digit field in
    short_number digits (all_digits field) (omega (arith, l, fewer field))

line_label : (line : Line) → IfSome (label_in_field (label_field line)) IsSourceLabel
line_label line = field_label (label_field line) (omega (arith, length-take 5 line.columns))

-- ---- a card

-- the lines of a source of at most 2^20 bytes
abbrev IsCardLine : Line → Type 0
IsCardLine line = HasCardColumns line × (1 ≤ line.number) × (line.number ≤ 2 ^ 20)

card : (s : StatementLines) → AllByRecursion IsCardLine (all_lines s) → IsCard (card_in s)
unfolding card_in
card s h = record {
  characters = fields (all_lines s) (all_weaker IsCardLine HasCardColumns (λ l k. k.0) (all_lines s) h);
  label = line_label s.initial;
  first = h.0.1;
  last = h.0.2;
}

cards : (ss : List StatementLines) → AllByRecursion IsCardLine (flat_map all_lines ss) → AllByRecursion IsCard (map card_in ss)
cards [] h = tt
cards (s ∷ ss) h = (card s (all_left IsCardLine (all_lines s) (flat_map all_lines ss) h), cards ss (all_right IsCardLine (all_lines s) (flat_map all_lines ss) h))

-- ---- their lines rise

behind : (n : ℕ) (ss : List StatementLines) → AllByRecursion (λ (l : Line). n < l.number) (flat_map all_lines ss) → AllByRecursion (λ (c : PlainCard). n < c.line) (map card_in ss)
unfolding card_in
behind n [] h = tt
behind n (s ∷ ss) h = (h.0, behind n ss (all_right (λ (l : Line). n < l.number) (all_lines s) (flat_map all_lines ss) h))

rising : (ss : List StatementLines) → AreRisingLines (flat_map all_lines ss) → AreRisingCards (map card_in ss)
unfolding card_in
rising [] h = tt
rising (s ∷ ss) h = (
  behind s.initial.number ss (all_right (λ (l : Line). s.initial.number < l.number) s.continuations (flat_map all_lines ss) h.0),
  rising ss (rising_right (all_lines s) (flat_map all_lines ss) h),
)

-- ---- the cards of a source

both : (ls : List Line) (count : ℕ) → count ≤ 2 ^ 20 → AllByRecursion HasCardColumns ls → AllByRecursion (IsNumbered 1 count) ls → AllByRecursion IsCardLine ls
both [] count l h k = tt
both (x ∷ xs) count l h k = ((h.0, k.0.0, (let b = k.0.1 in omega (arith, b, l))), both xs count l h.1 k.1)

pub read_source_has_cards : ReadSourceHasCards
read_source_has_cards text cs h =
    let few : length (lines text) ≤ 2 ^ 20 = omega (arith, lines-le text, unrefused_short text (unrefused text cs h)) in
    let numbers = lines_numbered text in
    let each = both (statement_lines text) (length (lines text)) few (card_columns text h.unrefused) numbers.each in
    let ss = h.are_cards.statements in
    let made : HasCards (map card_in ss) = record {
      each = cards ss (subst (AllByRecursion IsCardLine) h.are_cards.in_order each);
      rising = rising ss (subst AreRisingLines h.are_cards.in_order numbers.rising);
    } in
    subst HasCards (sym h.are_cards.cards_are) made
