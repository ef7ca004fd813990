-- The part of a statement that a line is.
use Rattle.std.specs.Prelude.{◌≡◌, ℕ, ◌-◌, ◌<◌, ◌≤◌, ◌==◌, Bool, true, false, not, ◌&&◌, if◌then◌else◌}
use Rattle.std.specs.Prelude.{List, [], ◌∷◌, ◌++◌, length, drop, slice_index}
use Rattle.std.specs.List.{list_all}
use Rattle.f90_grammar.specs.FreeForm.{ends_with, ampersand}
use Rattle.reading.specs.Characters.{is_blank}

-- whether an ampersand stands before the characters, and one behind them
pub record LinePart : Type 0 where
  pub is_pulled : Bool
  pub is_continued : Bool
  pub chars : List ℕ

abbrev pub part : Bool → Bool → List ℕ → LinePart
part pulled continued cs = record { is_pulled = pulled; is_continued = continued; chars = cs }

-- whether a constant is open behind the character
abbrev pub turned : Bool → ℕ → Bool
turned o c = if c == 39 then not o else o

abbrev pub without_comment : Bool → List ℕ → List ℕ
without_comment o [] = []
without_comment o (c ∷ cs) = if not o && c == 33 then [] else c ∷ without_comment (turned o c) cs

-- from the first character that is no blank
abbrev pub after_blanks : List ℕ → List ℕ
after_blanks [] = []
after_blanks (c ∷ cs) = if is_blank c then after_blanks cs else c ∷ cs

-- what stands before the last character that is no blank
abbrev pub before_last : List ℕ → List ℕ
before_last [] = []
before_last (c ∷ cs) = if list_all is_blank cs then [] else c ∷ before_last cs

-- where all behind a place are blanks, and the character before it is none
pub record IsEnd (text : List ℕ) (n : ℕ) : Type 0 where
  pub within : n ≤ length text
  pub blanks : list_all is_blank (drop n text) ≡ true
  pub last : 0 < n → is_blank (slice_index text (n - 1)) ≡ false

abbrev pub ended : Bool → List ℕ → LinePart
ended pulled text = if ends_with 38 text then part pulled true (before_last text) else part pulled false text

-- behind a leading ampersand, which may be the final one too
abbrev pub pulled_part : List ℕ → LinePart
pulled_part text = if list_all is_blank text then part true true [] else ended true text

abbrev pub part_by : List ℕ → List ℕ → LinePart
part_by front [] = ended false front
part_by front (c ∷ cs) = if c == 38 then pulled_part cs else ended false front

abbrev pub part_of : Bool → List ℕ → LinePart
part_of o line = part_by (without_comment o line) (after_blanks (without_comment o line))

abbrev pub first_chars : LinePart → List ℕ
first_chars p = ampersand p.is_pulled ++ p.chars

abbrev pub further_chars : LinePart → List ℕ
further_chars p = if p.is_pulled then p.chars else 10 ∷ p.chars
