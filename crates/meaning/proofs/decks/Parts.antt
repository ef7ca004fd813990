-- The source and the input of a deck, found line by line.
use Rattle.std.proofs.Common.{◌≡◌, ◌≤◌, ◌+◌, ◌-◌, ℕ, List, [], ◌∷◌, ◌++◌, length, take, refl, ap, sym, ◌∙◌, arith, Bool, true, false, cond, append-nil, append_assoc, length-append}
use Rattle.std.specs.Prelude.{◌==◌}
use Rattle.std.specs.Str.{bytes_eq}
use Rattle.std.proofs.lemmas.Bool.{cond-true, cond-false, eqb-true}
use Rattle.std.proofs.Math.Seq.{take-append_seam}
use Rattle.meaning.specs.Deck.{whole_lines, onto_first, is_line, text_of_lines, lines_before, lines_after, has_line, source_of, input_of, has_data}
use Rattle.meaning.specs.declared.decks.lines.DataLine.{DataLine}
use Rattle.meaning.specs.decks.FirstLine.{IsFirstLine, characters}

joined_first : (b : ℕ) (ls : List (List ℕ)) → text_of_lines (onto_first b ls) ≡ b ∷ text_of_lines ls
joined_first b [] = refl
joined_first b (l ∷ ls) = refl

joined_one : (b : ℕ) (text : List ℕ) (e : Bool) → (b == 10) ≡ e → text_of_lines (whole_lines text) ≡ text
    → text_of_lines (cond e ((10 ∷ []) ∷ whole_lines text) (onto_first b (whole_lines text))) ≡ b ∷ text
joined_one b text true e rest = ap (λ t. 10 ∷ t) rest ∙ ap (λ c. c ∷ text) (sym (eqb-true b 10 e))
joined_one b text false e rest = joined_first b (whole_lines text) ∙ ap (λ t. b ∷ t) rest

-- the lines with their ends are the whole text
pub joined_lines : (text : List ℕ) → text_of_lines (whole_lines text) ≡ text
joined_lines [] = refl
joined_lines (b ∷ text) = joined_one b text (b == 10) refl (joined_lines text)

-- what stands before the rest belongs to the source
pub record IsPassed (d : DataLine) (deck rest : List ℕ) : Type 0 where
  pub front : List ℕ
  pub text_is : deck ≡ front ++ rest
  pub source : source_of (characters d) deck ≡ front ++ source_of (characters d) rest
  pub input : input_of (characters d) deck ≡ input_of (characters d) rest
  pub there : has_data (characters d) deck ≡ has_data (characters d) rest

pub none_passed : (d : DataLine) (deck : List ℕ) → IsPassed d deck deck
none_passed d deck = record { front = []; text_is = refl; source = refl; input = refl; there = refl }

-- the first line of the rest is no data line
pub line_passed : (d : DataLine) (deck rest line after : List ℕ) → IsPassed d deck rest → IsFirstLine rest line after → bytes_eq line (characters d) ≡ false → IsPassed d deck after
line_passed d deck rest line after p l e =
    let m : List ℕ = characters d in
    let other : is_line m l.whole ≡ false = l.is_data d ∙ e in
    record {
      front = p.front ++ l.whole;
      text_is = p.text_is ∙ ap (λ t. p.front ++ t) l.text_is ∙ sym (append_assoc p.front l.whole after);
      source =
          p.source ∙ ap (λ t. p.front ++ t)
          (ap (λ ls. text_of_lines (lines_before m ls)) l.whole_lines_are
          ∙ ap text_of_lines (cond-false (is_line m l.whole) [] (l.whole ∷ lines_before m (whole_lines after)) other))
          ∙ sym (append_assoc p.front l.whole (source_of m after));
      input =
          p.input ∙ ap (λ ls. text_of_lines (lines_after m ls)) l.whole_lines_are
          ∙ ap text_of_lines (cond-false (is_line m l.whole) (whole_lines after) (lines_after m (whole_lines after)) other);
      there =
          p.there ∙ ap (has_line m) l.whole_lines_are ∙ cond-false (is_line m l.whole) true (has_line m (whole_lines after)) other;
    }

pub rest_is_shorter : (d : DataLine) (deck rest : List ℕ) → IsPassed d deck rest → length rest ≤ length deck
rest_is_shorter d deck rest p = omega (arith, ap length p.text_is, length-append p.front rest)

-- it is a data line: the source stands before it, and the input after it
pub source_at_data : (d : DataLine) (deck rest line after : List ℕ) → IsPassed d deck rest → IsFirstLine rest line after → bytes_eq line (characters d) ≡ true
    → take (length deck - length rest) deck ≡ source_of (characters d) deck
source_at_data d deck rest line after p l e =
    let m : List ℕ = characters d in
    let sizes : length deck ≡ length p.front + length rest = ap length p.text_is ∙ length-append p.front rest in
    let cut : length deck - length rest ≡ length p.front = omega (arith, sizes) in
    let none : source_of m rest ≡ [] =
    ap (λ ls. text_of_lines (lines_before m ls)) l.whole_lines_are
    ∙ ap text_of_lines (cond-true (is_line m l.whole) [] (l.whole ∷ lines_before m (whole_lines after)) (l.is_data d ∙ e)) in
    ap (λ n. take n deck) cut ∙ ap (take (length p.front)) p.text_is ∙ take-append_seam p.front rest
    ∙ sym (p.source ∙ ap (λ t. p.front ++ t) none ∙ append-nil p.front)

pub input_at_data : (d : DataLine) (deck rest line after : List ℕ) → IsPassed d deck rest → IsFirstLine rest line after → bytes_eq line (characters d) ≡ true
    → after ≡ input_of (characters d) deck
input_at_data d deck rest line after p l e =
    let m : List ℕ = characters d in sym (
    p.input ∙ ap (λ ls. text_of_lines (lines_after m ls)) l.whole_lines_are
    ∙ ap text_of_lines (cond-true (is_line m l.whole) (whole_lines after) (lines_after m (whole_lines after)) (l.is_data d ∙ e))
    ∙ joined_lines after)

pub there_at_data : (d : DataLine) (deck rest line after : List ℕ) → IsPassed d deck rest → IsFirstLine rest line after → bytes_eq line (characters d) ≡ true
    → true ≡ has_data (characters d) deck
there_at_data d deck rest line after p l e =
    let m : List ℕ = characters d in sym (
    p.there ∙ ap (has_line m) l.whole_lines_are
    ∙ cond-true (is_line m l.whole) true (has_line m (whole_lines after)) (l.is_data d ∙ e))

-- all lines are passed
pub source_at_end : (d : DataLine) (deck rest : List ℕ) → IsPassed d deck rest → rest ≡ [] → deck ≡ source_of (characters d) deck
source_at_end d deck rest p e = p.text_is ∙ ap (λ t. p.front ++ t) e ∙ sym (p.source ∙ ap (λ t. p.front ++ source_of (characters d) t) e)

pub input_at_end : (d : DataLine) (deck rest : List ℕ) → IsPassed d deck rest → rest ≡ [] → [] ≡ input_of (characters d) deck
input_at_end d deck rest p e = sym (p.input ∙ ap (input_of (characters d)) e)

pub there_at_end : (d : DataLine) (deck rest : List ℕ) → IsPassed d deck rest → rest ≡ [] → false ≡ has_data (characters d) deck
there_at_end d deck rest p e = sym (p.there ∙ ap (has_data (characters d)) e)

-- what `source_and_input` leaves to be shown
pub ruleset part_laws = (none_passed, source_at_end, input_at_end, there_at_end)
