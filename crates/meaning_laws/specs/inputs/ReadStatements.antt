-- The words that a READ takes (ANSI X3.9-1978, section 12.8).
use Rattle.std.specs.Prelude.{◌≡◌, ℕ, true, false, List, ◌++◌}
use Rattle.meaning.specs.Run.{State, Act, Going, begins_line, is_empty, takes_word}
use Rattle.meaning_laws.specs.inputs.Words.{IsSeparation, IsWord, EndsWord}

-- a READ begins at a line of the input, and has had no value yet
abbrev pub FirstWordOfRead : Type 0
FirstWordOfRead = (line : ℕ) (s : State)
    → s.way ≡ Going → is_empty s.input ≡ false → begins_line line s ≡ record s { had_value = false }

-- the next word is taken from behind what separates it; before the first one no comma may stand, and before any other
-- one may
abbrev pub ReadTakesWord : Type 0
ReadTakesWord = (line : ℕ) (k : List ℕ → Act) (s : State) (before word more : List ℕ)
    → s.way ≡ Going → s.input ≡ before ++ (word ++ more)
    → IsSeparation s.had_value before → IsWord word → EndsWord more
    → takes_word line k s ≡ k word (record s { input = more; had_value = true })
