-- Whether an expression is a variable, an element, an array or a section, from its list.
use Rattle.std.specs.Prelude.{ℕ, ◌+◌, ◌-◌, ◌==◌, Bool, true, false, ◌&&◌, not, if◌then◌else◌, Option, None, Some}
use Rattle.std.specs.Prelude.{List, [], ◌∷◌}
use Rattle.f90_expressions.specs.Flat as flats
use Rattle.f90_expressions.specs.Flat.{Node}

abbrev pub names : Node → Bool
names (flats.Name x) = true
names (flats.Listed x) = true
names n = false

-- the last part of the list is a name, or a name with a list
abbrev pub is_named : List Node → Bool
is_named [] = false
is_named (n ∷ []) = names n
is_named (n ∷ (m ∷ ns)) = is_named (m ∷ ns)

-- how many lists are open behind a part, where so many were before; a section in the outermost list has no such number
abbrev pub open_behind : Node → ℕ → Option ℕ
open_behind flats.Begin n = Some (n + 1)
open_behind (flats.Listed x) n = Some (n - 1)
open_behind flats.Values n = Some (n - 1)
open_behind flats.Looped n = Some (n - 1)
open_behind flats.Bounds n = if n == 1 then None else Some n
open_behind flats.Stride n = if n == 1 then None else Some n
open_behind k n = Some n

abbrev pub or_section : Option ℕ → (ℕ → Bool) → Bool
or_section None rest = true
or_section (Some n) rest = rest n

-- a section stands in the outermost list, where n lists are open
abbrev pub has_section : List Node → ℕ → Bool
has_section [] n = false
has_section (k ∷ ns) n = or_section (open_behind k n) (has_section ns)

-- a name, or a name with a list, in which no section stands
abbrev pub is_plain : List Node → Bool
is_plain ns = is_named ns && not (has_section ns 0)
