-- How often pairs lead to a number.
use Rattle.std.specs.Prelude.{◌+◌, ℕ, Bool, true, false, nat_eq, if◌then◌else◌, List, [], ◌∷◌}

-- how often it stands in a list
abbrev pub times : ℕ → List ℕ → ℕ
times c [] = 0
times c (x ∷ xs) = (if nat_eq x c then 1 else 0) + times c xs

-- how many of the pairs lead to it
abbrev pub times_to : ℕ → List (ℕ × ℕ) → ℕ
times_to c [] = 0
times_to c (p ∷ pairs) = (if nat_eq p.1 c then 1 else 0) + times_to c pairs

-- how often it stands in the rows of those that aren't done
abbrev pub tally : List Bool → ℕ → List (List ℕ) → ℕ
tally done c [] = 0
tally [] c (r ∷ rows) = times c r + tally [] c rows
tally (false ∷ done) c (r ∷ rows) = times c r + tally done c rows
tally (true ∷ done) c (r ∷ rows) = tally done c rows
