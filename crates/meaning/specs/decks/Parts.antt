-- The input of a deck, if it has a data line.
use Rattle.std.specs.Prelude.{ℕ, Bool, true, false, List, [], Option, None, Some}

abbrev pub is_there : Option (List ℕ) → Bool
is_there None = false
is_there (Some bytes) = true

-- nothing where there is no input
abbrev pub bytes_in : Option (List ℕ) → List ℕ
bytes_in None = []
bytes_in (Some bytes) = bytes
