-- The lines of a final store: those of a name, element by element.
use Rattle.std.specs.Prelude.{ℕ, ◌/◌, ◌%◌, ℤ, pos, ◌+ℤ◌, List, [], ◌∷◌, ◌++◌, get_or}
use lib.Chars.{codes}
use Rattle.std.specs.Fmt.{signed_decimal}
use Rattle.tree.specs.declared.ops.Value.{Value}
use Rattle.tree.specs.declared.ops.Value.TheVariants.{Int}
use Rattle.meaning.specs.Store.{Store, Cell, size_of}
use Rattle.meaning.specs.Texts.{value_text, final_line}

-- the subscripts of the element at a place among those of its array: the first one runs fastest
abbrev pub subscripts_at : List (ℤ × ℤ) → ℕ → List ℤ
subscripts_at [] k = []
subscripts_at (b ∷ bs) k = (b.0 +ℤ pos (k % size_of b)) ∷ subscripts_at bs (k / size_of b)

abbrev pub element : List ℕ → List (ℤ × ℤ) → ℕ → Cell
element x bs k = record { name = x; subscripts = subscripts_at bs k }

abbrev pub element_line : List ℕ → List (ℤ × ℤ) → Store → ℕ → List ℕ
element_line x bs s k = final_line (element x bs k) (s.held (element x bs k))

-- the same, where the values of the array's elements are these
abbrev pub value_line : List ℕ → List (ℤ × ℤ) → List Value → ℕ → List ℕ
value_line x bs vs k = final_line (element x bs k) (get_or vs k (Int (pos 0)))

-- subscripts, each behind a comma
abbrev pub behind_commas : List ℤ → List ℕ
behind_commas [] = []
behind_commas (i ∷ is) = 44 ∷ (signed_decimal i ++ behind_commas is)

-- what a line has behind the cell
abbrev pub held_text : Value → List ℕ
held_text v = codes " = " ++ value_text v ++ 10 ∷ []
