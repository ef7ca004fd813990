-- Fixed form (ANSI X3.9-1978, section 3): the statements that the lines of a source are, and the refusals of lines.
-- Bytes are named by their codes: 9 is a tab, 32 a blank and 48 the digit 0.
use Rattle.std.specs.Prelude.{◌≡◌, ℕ, ◌+◌, ◌<◌, Bool, not, ◌&&◌, ◌||◌, ◌==◌, nat_lt, IsTrue, List, [], ◌∷◌}
use Rattle.std.specs.Prelude.{◌++◌, length, take, drop, replicate, map, filter, slice_index, codes, Option, None, Some}
use Rattle.std.specs.Char.{is_ascii_digit}
use Rattle.std.specs.List.{list_any, list_all, flat_map}
use Rattle.std.specs.Str.Lines.{lines}
use Rattle.std.specs.Str.Parse.{digits_value}
use Rattle.tree.specs.Causes.{refusal_at}
use Rattle.tree.specs.Limits.{source_bytes, continuation_lines}
use Rattle.tree.specs.declared.refusals.Cause.{Cause}
use Rattle.tree.specs.declared.refusals.Cause.TheVariants as causes
use Rattle.tree.specs.declared.refusals.Refusal.{Refusal}
use Rattle.reading.specs.Characters.{is_blank}
use Rattle.reading.specs.refusal_order.Answered.{IsAnswered}

-- ---- lines

-- columns 1 to 72 of a line: a short line is padded with blanks, and what stands from column 73 on is dropped
unfoldable pub columns_of : List ℕ → List ℕ
columns_of line = take 72 (line ++ replicate 72 32)

-- a comment line has C, c or * in column 1, or is blank
unfoldable pub is_comment : List ℕ → Bool
is_comment columns = list_any (λ c. slice_index columns 0 == c) (codes "Cc*") || list_all is_blank columns

-- A line that is no comment line: its number, from 1, and its columns 1 to 72.
pub record Line : Type 0 where
  pub number : ℕ
  pub columns : List ℕ

-- columns 1 to 5
abbrev pub label_field : Line → List ℕ
label_field line = take 5 line.columns

-- columns 7 to 72
abbrev pub statement_field : Line → List ℕ
statement_field line = drop 6 line.columns

-- an initial line has a blank or a 0 in column 6
unfoldable pub is_initial : Line → Bool
is_initial line = is_blank (slice_index line.columns 5) || (slice_index line.columns 5 == 48)

abbrev pub is_continuation : Line → Bool
is_continuation line = not (is_initial line)

abbrev pub numbered_lines : ℕ → List (List ℕ) → List Line
numbered_lines n [] = []
numbered_lines n (line ∷ more) = record { number = n; columns = columns_of line } ∷ numbered_lines (n + 1) more

-- The lines of a text that are no comment lines, where its first line has the number n. A line is ended by LF or by the
-- end of the bytes, and a CR just before an LF is dropped; std's `lines` says so.
unfoldable pub statement_lines_from : ℕ → List ℕ → List Line
statement_lines_from n text = filter (λ line. not (is_comment line.columns)) (numbered_lines n (lines text))

abbrev pub statement_lines : List ℕ → List Line
statement_lines text = statement_lines_from 1 text

-- ---- statements

-- A statement as it stands, without the comment lines: its initial line, and its continuation lines in order.
pub record StatementLines : Type 0 where
  pub initial : Line
  pub continuations : List Line

abbrev pub is_statement : StatementLines → Bool
is_statement s = is_initial s.initial && list_all is_continuation s.continuations

abbrev pub all_lines : StatementLines → List Line
all_lines s = s.initial ∷ s.continuations

-- A statement by its label, its line and its characters.
pub record PlainCard : Type 0 where
  pub label : Option ℕ
  pub line : ℕ
  pub chars : List ℕ

-- the number that digits write, if there are any
abbrev pub number_in : List ℕ → Option ℕ
number_in [] = None
number_in (d ∷ digits) = Some (digits_value 10 (d ∷ digits))

-- a label is the digits of its field, wherever they stand in it
unfoldable pub label_in_field : List ℕ → Option ℕ
label_in_field field = number_in (filter is_ascii_digit field)

-- its label is that of its initial line, its line the number of that, and its characters are the statement fields of
-- its lines
unfoldable pub card_in : StatementLines → PlainCard
card_in s =
    record {
      label = label_in_field (label_field s.initial);
      line = s.initial.number;
      chars = flat_map statement_field (all_lines s);
    }

-- The cards are the statements of the source: the lines that are no comment lines are those of statements, one after
-- another.
pub record AreCards (text : List ℕ) (cards : List PlainCard) : Type 0 where
  pub statements : List StatementLines
  pub each : IsTrue (list_all is_statement statements)
  pub in_order : statement_lines text ≡ flat_map all_lines statements
  pub cards_are : cards ≡ map card_in statements

-- ---- refusals

-- a byte outside 32 to 126, other than a tab
unfoldable pub is_bad_byte77 : ℕ → Bool
is_bad_byte77 b = not (b == 9) && (nat_lt b 32 || nat_lt 126 b)

abbrev pub is_tab : ℕ → Bool
is_tab b = b == 9

unfoldable pub is_label_character : ℕ → Bool
is_label_character c = is_blank c || is_ascii_digit c

-- What may be wrong with a line.
pub data LineCause : Type 0 where
  BadByte Tab LineForm ManyLines : LineCause

abbrev pub cause_of_line : LineCause → Cause
cause_of_line BadByte = causes.BadByte
cause_of_line Tab = causes.Tab
cause_of_line LineForm = causes.LineForm
cause_of_line ManyLines = causes.ManyLines

-- What is wrong with a line, where `before` are the lines before it that are no comment lines.
pub data IsWrong (before : List Line) (line : Line) : LineCause → Type 0 where
  HoldsBadByte : IsTrue (list_any is_bad_byte77 line.columns) → IsWrong before line BadByte
  HoldsTab : IsTrue (list_any is_tab line.columns) → IsWrong before line Tab
  -- a continuation line that no initial line comes before
  HasNoInitialLine : IsTrue (is_continuation line) → IsTrue (list_all is_continuation before)
      → IsWrong before line LineForm
  -- a continuation line with something in its label field
  HasLabelField : IsTrue (is_continuation line) → IsTrue (not (list_all is_blank (label_field line)))
      → IsWrong before line LineForm
  -- an initial line whose label field holds something other than digits and blanks
  HasNoLabel : IsTrue (is_initial line) → IsTrue (not (list_all is_label_character (label_field line)))
      → IsWrong before line LineForm
  -- an initial line without a statement
  HasNoStatement : IsTrue (is_initial line) → IsTrue (list_all is_blank (statement_field line))
      → IsWrong before line LineForm
  -- the twentieth continuation line of a statement
  IsTwentieth : (front : List Line) (initial : Line) (others : List Line) → before ≡ front ++ initial ∷ others
      → IsTrue (is_initial initial)
      → IsTrue (list_all is_continuation others) → length others ≡ continuation_lines → IsTrue (is_continuation line)
      → IsWrong before line ManyLines

-- A cause that holds, with its line: the source is too long, or something is wrong with a line.
pub data HasCardCause (text : List ℕ) : Refusal → Type 0 where
  TooLong : source_bytes < length text → HasCardCause text (refusal_at causes.TooLong 0)
  AtLine : (cause : LineCause) (before : List Line) (line : Line) (after : List Line)
      → statement_lines text ≡ before ++ line ∷ after
      → IsWrong before line cause → HasCardCause text (refusal_at (cause_of_line cause) line.number)

abbrev pub RefusedCards : List ℕ → Refusal → Type 0
RefusedCards text = IsAnswered (HasCardCause text)

-- The source is read as these cards: they are its statements, and no cause of a refusal holds.
pub record ReadsCards (text : List ℕ) (cards : List PlainCard) : Type 0 where
  pub are_cards : AreCards text cards
  pub unrefused : (r : Refusal) → HasCardCause text r → ⊥
