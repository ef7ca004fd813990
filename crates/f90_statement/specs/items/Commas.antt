-- Which parentheses have a comma in them that stands in no further parenthesis.
use Rattle.std.specs.Prelude.{◌≡◌, ℕ, zero, suc, Bool, true, false, List, [], ◌∷◌}
use Rattle.f90_grammar.specs.Words as words
use Rattle.f90_grammar.specs.Words.{Word90}

-- a comma stands in the innermost parenthesis but n of those that are open, before it is closed
abbrev pub has_comma : List Word90 → ℕ → Bool
has_comma [] n = false
has_comma (words.Head x ∷ ws) n = has_comma ws (suc n)
has_comma (words.Open ∷ ws) n = has_comma ws (suc n)
has_comma (words.OpenList ∷ ws) n = has_comma ws (suc n)
has_comma (words.Close ∷ ws) zero = false
has_comma (words.Close ∷ ws) (suc n) = has_comma ws n
has_comma (words.CloseList ∷ ws) zero = false
has_comma (words.CloseList ∷ ws) (suc n) = has_comma ws n
has_comma (words.Comma ∷ ws) zero = true
has_comma (words.Comma ∷ ws) (suc n) = has_comma ws (suc n)
has_comma (w ∷ ws) n = has_comma ws n

-- at each word whether there is one in the parenthesis that the word opens
abbrev pub comma_marks : List Word90 → List Bool
comma_marks [] = []
comma_marks (w ∷ ws) = has_comma ws 0 ∷ comma_marks ws

-- ---- the same from the last word back: what holds of the innermost parenthesis, the next one, and so on

abbrev pub level_of : List Bool → ℕ → Bool
level_of [] n = false
level_of (b ∷ bs) zero = b
level_of (b ∷ bs) (suc n) = level_of bs n

abbrev pub out_of : List Bool → List Bool
out_of [] = []
out_of (b ∷ bs) = bs

abbrev pub with_comma : List Bool → List Bool
with_comma bs = true ∷ out_of bs

abbrev pub before_word : Word90 → List Bool → List Bool
before_word (words.Head x) bs = out_of bs
before_word words.Open bs = out_of bs
before_word words.OpenList bs = out_of bs
before_word words.Close bs = false ∷ bs
before_word words.CloseList bs = false ∷ bs
before_word words.Comma bs = with_comma bs
before_word w bs = bs

abbrev pub AreLevels : List Bool → List Word90 → Type 0
AreLevels bs ws = (n : ℕ) → level_of bs n ≡ has_comma ws n
