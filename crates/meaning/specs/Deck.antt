-- A deck: its lines, its source and its input.
use Rattle.std.specs.Prelude.{ℕ, Bool, true, false, List, [], ◌∷◌, ◌++◌, ◌||◌, ◌==◌, if◌then◌else◌, codes}
use Rattle.std.specs.Str.{bytes_eq}
use Rattle.std.specs.Str.Lines.{lines}

-- The lines, each ended by LF (10) or by the end of the bytes. A CR (13) just before an LF is dropped.
abbrev pub lines_of : List ℕ → List (List ℕ)
lines_of bytes = lines bytes

-- ---- the lines with their ends

abbrev pub onto_first : ℕ → List (List ℕ) → List (List ℕ)
onto_first b [] = (b ∷ []) ∷ []
onto_first b (line ∷ more) = (b ∷ line) ∷ more

abbrev pub whole_lines : List ℕ → List (List ℕ)
whole_lines [] = []
whole_lines (b ∷ bytes) = if b == 10 then (10 ∷ []) ∷ whole_lines bytes else onto_first b (whole_lines bytes)

-- a line that has these characters, and then LF, CR and LF, or the end of the bytes
abbrev pub is_line : List ℕ → List ℕ → Bool
is_line text line = bytes_eq line text || (bytes_eq line (text ++ 10 ∷ []) || bytes_eq line (text ++ 13 ∷ 10 ∷ []))

-- ---- source and input

-- the line between source and input, in FORTRAN 77 and in Fortran 90
abbrev pub data_line77 : List ℕ
data_line77 = codes "*DATA"

abbrev pub data_line90 : List ℕ
data_line90 = codes "!DATA"

abbrev pub text_of_lines : List (List ℕ) → List ℕ
text_of_lines [] = []
text_of_lines (line ∷ more) = line ++ text_of_lines more

abbrev pub lines_before : List ℕ → List (List ℕ) → List (List ℕ)
lines_before mark [] = []
lines_before mark (line ∷ more) = if is_line mark line then [] else line ∷ lines_before mark more

abbrev pub lines_after : List ℕ → List (List ℕ) → List (List ℕ)
lines_after mark [] = []
lines_after mark (line ∷ more) = if is_line mark line then more else lines_after mark more

abbrev pub has_line : List ℕ → List (List ℕ) → Bool
has_line mark [] = false
has_line mark (line ∷ more) = if is_line mark line then true else has_line mark more

-- what stands before the first data line, or all
abbrev pub source_of : List ℕ → List ℕ → List ℕ
source_of mark bytes = text_of_lines (lines_before mark (whole_lines bytes))

-- what stands after it, or nothing
abbrev pub input_of : List ℕ → List ℕ → List ℕ
input_of mark bytes = text_of_lines (lines_after mark (whole_lines bytes))

abbrev pub has_data : List ℕ → List ℕ → Bool
has_data mark bytes = has_line mark (whole_lines bytes)
