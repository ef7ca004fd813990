-- Where a text stands behind its first lines, and the first of its lines that hold a bad byte, or are too long.
use Rattle.std.specs.Prelude.{ℕ, ◌+◌, nat_lt, Bool, not, ◌&&◌, if◌then◌else◌, Option, Some, None, List, [], ◌∷◌, length}
use Rattle.std.specs.List.{list_any}
use Rattle.f90_grammar.specs.FreeForm.{is_comment_line, is_open_behind}
use Rattle.f90_grammar.specs.LineCauses.{LineState, Between, Within, is_in_constant, initial_line, is_bad_byte90}
use Rattle.f90_grammar.specs.LineCauses.{line_characters}
use Rattle.f90_lines.specs.Parts.{LinePart, part_of}

abbrev pub behind_part : ℕ → LineState → LinePart → LineState
behind_part n s p =
    if p.is_continued then Within (initial_line n s) (is_open_behind (is_in_constant s) p.chars) else Between

-- behind line n
abbrev pub behind_line : ℕ → LineState → List ℕ → LineState
behind_line n s line = if is_comment_line line then s else behind_part n s (part_of (is_in_constant s) line)

-- behind these lines, which follow line n
abbrev pub behind_lines : ℕ → LineState → List (List ℕ) → LineState
behind_lines n s [] = s
behind_lines n s (l ∷ ls) = behind_lines (n + 1) (behind_line (n + 1) s l) ls

-- a byte outside comments is no printable character
abbrev pub has_bad_byte : LineState → List ℕ → Bool
has_bad_byte s line = not (is_comment_line line) && list_any is_bad_byte90 (part_of (is_in_constant s) line).chars

abbrev pub first_bad : ℕ → LineState → List (List ℕ) → Option ℕ
first_bad n s [] = None
first_bad n s (l ∷ ls) = if has_bad_byte s l then Some (n + 1) else first_bad (n + 1) (behind_line (n + 1) s l) ls

abbrev pub is_long : List ℕ → Bool
is_long line = nat_lt line_characters (length line)

abbrev pub first_long : ℕ → List (List ℕ) → Option ℕ
first_long n [] = None
first_long n (l ∷ ls) = if is_long l then Some (n + 1) else first_long (n + 1) ls

-- the line in which the statement began that is continued there
abbrev pub initial_of : LineState → Option ℕ
initial_of Between = None
initial_of (Within initial o) = Some initial
