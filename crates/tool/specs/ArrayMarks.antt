-- Which marks of a translation are those of array statements, by the lines of its text.
use Rattle.std.specs.Prelude.{ℕ, ◌+◌, Bool, false, List, [], ◌∷◌, ◌++◌, codes, ◌==◌, nat_le, count_by, filter_map}
use Rattle.std.specs.Prelude.{slice_get, Option, None, Some, is_some, unwrap_or, if◌then◌else◌}
use Rattle.std.specs.List.{before_first, after_first}
use Rattle.std.specs.Option.{option_map}
use Rattle.tool.specs.commands.Command.{number_of_word}
use Rattle.reading.specs.Characters.{is_blank}

-- what stands behind these characters, where a line begins with them
abbrev pub part_behind : List ℕ → List ℕ → Option (List ℕ)
part_behind [] line = Some line
part_behind (c ∷ front) [] = None
part_behind (c ∷ front) (b ∷ line) = if b == c then part_behind front line else None

abbrev pub begins : List ℕ → List ℕ → Bool
begins front line = is_some (part_behind front line)

-- ---- how many loops stand round a statement, by the listing

-- numbers with a comma before each but the first, up to a parenthesis
abbrev pub numbers_listed : List ℕ → ℕ
numbers_listed text = count_by (λ b. b == 44) (before_first (λ b. b == 41) text) + 1

-- a line `!G STMT S1 (2,3) ..` has the numbers of the loops round the statement 1
abbrev pub loops_listed : List ℕ → List ℕ → Option ℕ
loops_listed statement line =
    option_map numbers_listed (part_behind (codes "!G STMT S" ++ statement ++ codes " (") line)

-- the first of such lines tells of the statement
abbrev pub first_listed : List ℕ → List (List ℕ) → ℕ
first_listed statement lines = unwrap_or (slice_get (filter_map (loops_listed statement) lines) 0) 0

-- a line `!G NEST 1 LINE ..` tells of the nest 1, and what stands behind it of its statements
unfoldable pub loops_round : List (List ℕ) → List ℕ → List ℕ → ℕ
loops_round lines nest statement =
    first_listed statement (after_first (begins (codes "!G NEST " ++ nest ++ codes " LINE ")) lines)

-- ---- marks

abbrev pub is_at_most : Option ℕ → ℕ → Bool
is_at_most None most = false
is_at_most (Some n) most = nat_le n most

-- Behind `!S ` stand the numbers of a nest and of a statement of it, and a level, which for an array statement isn't
-- above the number of loops round the statement
abbrev pub marks_array : List (List ℕ) → Option (List ℕ) → Bool
marks_array lines None = false
marks_array lines (Some mark) =
    is_at_most (number_of_word (after_first is_blank (after_first is_blank mark)))
    (loops_round lines (before_first is_blank mark) (before_first is_blank (after_first is_blank mark)))

-- the line is the mark of an array statement
unfoldable pub is_array_mark : List (List ℕ) → List ℕ → Bool
is_array_mark lines line = marks_array lines (part_behind (codes "!S ") line)
