-- What the line of a mark says, part by part.
use Rattle.std.specs.Prelude.{ℕ, ◌+◌, ◌^◌, ◌==◌, nat_lt, nat_le, Bool, ◌&&◌, if◌then◌else◌}
use Rattle.std.specs.Prelude.{Option, Some, None, List, ◌∷◌, length, take, drop, position}
use Rattle.std.specs.List.{list_all}
use Rattle.std.specs.Char.{is_ascii_digit}
use Rattle.std.specs.Str.Parse.{digits_value}
use Rattle.tree.specs.declared.stmts.Mark.{Mark}
use Rattle.reading.specs.Characters.{is_blank}

-- one to ten digits that write a number below 2^32
abbrev pub is_number : List ℕ → Bool
is_number text = nat_lt 0 (length text) && (nat_le (length text) 10 && (list_all is_ascii_digit text
    && nat_lt (digits_value 10 text) (2 ^ 32)))

abbrev pub number_in : List ℕ → Option ℕ
number_in text = if is_number text then Some (digits_value 10 text) else None

abbrev pub with_level : ℕ → ℕ → Option ℕ → Option Mark
with_level a b (Some c) = Some (record { nest = a; stmt = b; level = c })
with_level a b None = None

-- behind the second blank
abbrev pub with_stmt : ℕ → Option ℕ → List ℕ → Option Mark
with_stmt a (Some b) rest = with_level a b (number_in rest)
with_stmt a None rest = None

abbrev pub behind_second : ℕ → List ℕ → Option ℕ → Option Mark
behind_second a text (Some i) = with_stmt a (number_in (take i text)) (drop (i + 1) text)
behind_second a text None = None

abbrev pub with_nest : Option ℕ → List ℕ → Option Mark
with_nest (Some a) rest = behind_second a rest (position is_blank rest)
with_nest None rest = None

abbrev pub behind_first : List ℕ → Option ℕ → Option Mark
behind_first text (Some i) = with_nest (number_in (take i text)) (drop (i + 1) text)
behind_first text None = None

-- behind `!S `
abbrev pub numbers_in : List ℕ → Option Mark
numbers_in text = behind_first text (position is_blank text)

abbrev pub mark_in : List ℕ → Option Mark
mark_in (a ∷ b ∷ c ∷ cs) = if (a == 33) && ((b == 83) && (c == 32)) then numbers_in cs else None
mark_in line = None
