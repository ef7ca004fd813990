-- Names: of FORTRAN 77 (ANSI X3.9-1978, 2.2) and of Fortran 90 (ISO/IEC 1539:1991, 3.2.1).
use Rattle.std.specs.Prelude.{ℕ, ◌≤◌, ◌==◌, ◌||◌, Bool, false, IsTrue, List, [], ◌∷◌, length, Contains}
use Rattle.std.specs.List.{list_all}
use Rattle.std.specs.Char.{is_ascii_alphabetic, is_ascii_alphanumeric}

-- a letter, a digit or an underscore
abbrev pub is_name_byte : ℕ → Bool
is_name_byte c = is_ascii_alphanumeric c || c == 95

abbrev pub begins_with_letter : List ℕ → Bool
begins_with_letter [] = false
begins_with_letter (c ∷ cs) = is_ascii_alphabetic c

-- a letter, then letters, digits and underscores, at most 31 bytes in all
pub record IsName (text : List ℕ) : Type 0 where
  pub begins : IsTrue (begins_with_letter text)
  pub goes_on : IsTrue (list_all is_name_byte text)
  pub within : length text ≤ 31

-- a name that FORTRAN 77 has too: at most six bytes, and no underscore
pub record IsSourceName (text : List ℕ) : Type 0 where
  pub within : length text ≤ 6
  pub plain : ¬ Contains text 95
