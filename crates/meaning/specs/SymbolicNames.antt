-- Symbolic names (ANSI X3.9-1978, section 2.2; ISO/IEC 1539:1991, section 3.2.1).
use Rattle.std.specs.Prelude.{ℕ, ◌≤◌, nat_le, ◌==◌, Bool, ◌&&◌, ◌||◌, IsTrue, List, length}
use Rattle.std.specs.List.{list_all}
use Rattle.meaning.specs.Names.{begins_with}

abbrev pub is_letter : ℕ → Bool
is_letter c = nat_le 65 c && nat_le c 90

abbrev pub is_digit : ℕ → Bool
is_digit c = nat_le 48 c && nat_le c 57

-- a letter, then letters and digits, at most six in all, with its letters in upper case (section 2.2)
pub record IsSymbolicName (x : List ℕ) : Type 0 where
  pub begins : IsTrue (begins_with is_letter x)
  pub goes_on : IsTrue (list_all (λ c. is_letter c || is_digit c) x)
  pub within : length x ≤ 6

-- the same with underscores, at most 31 in all (ISO/IEC 1539:1991, section 3.2.1); in a tree all letters are in upper
-- case
pub record IsLongName (x : List ℕ) : Type 0 where
  pub begins : IsTrue (begins_with is_letter x)
  pub goes_on : IsTrue (list_all (λ c. is_letter c || is_digit c || c == 95) x)
  pub within : length x ≤ 31
