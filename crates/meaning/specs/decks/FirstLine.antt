-- The first line of a text, and the lines between the source and the input of a deck.
use Rattle.std.specs.Prelude.{ℕ, ◌≡◌, ◌<◌, List, ◌∷◌, ◌++◌, length, Option, None, Some}
use Rattle.std.specs.Str.{bytes_eq}
use Rattle.meaning.specs.Deck.{lines_of, whole_lines, is_line, data_line77, data_line90}
use Rattle.meaning.specs.declared.decks.lines.DataLine.{DataLine}
use Rattle.meaning.specs.declared.decks.lines.DataLine.TheVariants.{Fortran77, Fortran90}

abbrev pub characters : DataLine → List ℕ
characters Fortran77 = data_line77
characters Fortran90 = data_line90

-- a text is this line, without its end, and then the lines of the rest
pub record IsFirstLine (text line rest : List ℕ) : Type 0 where
  pub lines : lines_of text ≡ line ∷ lines_of rest
  pub whole : List ℕ
  pub text_is : text ≡ whole ++ rest
  pub whole_lines_are : whole_lines text ≡ whole ∷ whole_lines rest
  pub is_data : (d : DataLine) → is_line (characters d) whole ≡ bytes_eq line (characters d)
  pub shorter : length rest < length text

-- what stands before a byte, the byte, and what stands after it
abbrev pub joined_at : ℕ → List ℕ → Option (List ℕ) → List ℕ
joined_at c front None = front
joined_at c front (Some rest) = front ++ c ∷ rest
