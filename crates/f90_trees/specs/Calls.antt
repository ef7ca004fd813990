-- Whether each call of an expression has arguments that may stand there, found from its list with a stack.
use Rattle.std.specs.Prelude.{◌≡◌, ℕ, ◌+◌, nat_le, Bool, true, false, ◌&&◌, if◌then◌else◌, Option, Some, None, List, []}
use Rattle.std.specs.Prelude.{◌∷◌}
use Rattle.tree.specs.declared.functions.Intrinsic.{Intrinsic}
use Rattle.tree.specs.declared.functions.Intrinsic.TheVariants.{Spread, Reshape}
use Rattle.f90_grammar.specs.Phrases as phrases
use Rattle.f90_grammar.specs.Phrases.{Phrase90, SuitsCalls, length_of_values}
use Rattle.f90_expressions.specs.Flat as flats
use Rattle.f90_expressions.specs.Flat.{Node, flat}

-- a literal without sign or parentheses, a list of so many values, or another value
pub data Shape : Type 0 where
  Literal : Shape
  Listing : ℕ → Shape
  Other : Shape

abbrev pub shape_of : Phrase90 → Shape
shape_of (phrases.Literal t) = Literal
shape_of (phrases.Values ps) = Listing (length_of_values ps)
shape_of p = Other

-- what lies on the stack: a value, a part of a list, which is a value or a section, the beginning of a list, or a turn
pub data Entry : Type 0 where
  Value : Shape → Entry
  Part : Option Shape → Entry
  Mark : Entry
  Turn : Entry

-- the parts down to the beginning of their list, before those that were taken, and what lies under it
pub record Parts : Type 0 where
  pub parts : List (Option Shape)
  pub under : List Entry

abbrev pub parts_above : List Entry → List (Option Shape) → Option Parts
parts_above (Part s ∷ st) taken = parts_above st (s ∷ taken)
parts_above (Mark ∷ st) taken = Some (record { parts = taken; under = st })
parts_above st taken = None

-- the number of values down to it, with those that were counted
pub record Count : Type 0 where
  pub count : ℕ
  pub under : List Entry

abbrev pub count_above : List Entry → ℕ → Option Count
count_above (Value e ∷ st) n = count_above st (n + 1)
count_above (Mark ∷ st) n = Some (record { count = n; under = st })
count_above st n = None

abbrev pub counted : Option Count → Option (List Entry)
counted (Some c) = Some (Value (Listing c.count) ∷ c.under)
counted None = None

-- ---- arguments that may stand there

abbrev pub is_value : Option Shape → Bool
is_value (Some s) = true
is_value None = false

abbrev pub are_values : List (Option Shape) → Bool
are_values [] = true
are_values (s ∷ ss) = is_value s && are_values ss

abbrev pub is_literal : Option Shape → Bool
is_literal (Some Literal) = true
is_literal s = false

abbrev pub is_short_list : Option Shape → Bool
is_short_list (Some (Listing n)) = nat_le n 7
is_short_list s = false

-- the second of three
abbrev pub has_dimension : List (Option Shape) → Bool
has_dimension (a ∷ b ∷ c ∷ []) = is_literal b
has_dimension ss = true

-- the second of two
abbrev pub has_shape : List (Option Shape) → Bool
has_shape (a ∷ b ∷ []) = is_short_list b
has_shape ss = true

abbrev pub suits : Option Intrinsic → List (Option Shape) → Bool
suits None ss = true
suits (Some Spread) ss = are_values ss && has_dimension ss
suits (Some Reshape) ss = are_values ss && has_shape ss
suits (Some f) ss = are_values ss

-- ---- the value on top, the two values on top, and what lies under them

abbrev pub with_value : List Entry → (Shape → List Entry → Option (List Entry)) → Option (List Entry)
with_value (Value s ∷ st) on = on s st
with_value st on = None

abbrev pub with_two : List Entry → (List Entry → Option (List Entry)) → Option (List Entry)
with_two st on = with_value st (λ b more. with_value more (λ a under. on under))

abbrev pub with_turn : List Entry → (List Entry → Option (List Entry)) → Option (List Entry)
with_turn (Turn ∷ st) on = on st
with_turn st on = None

abbrev pub with_mark : List Entry → (List Entry → Option (List Entry)) → Option (List Entry)
with_mark (Mark ∷ st) on = on st
with_mark st on = None

-- ---- what one part of the list does; nothing is left where a call has other arguments

abbrev pub valued : Shape → List Entry → Option (List Entry)
valued s st = Some (Value s ∷ st)

abbrev pub enclosed : List Entry → Option (List Entry)
enclosed st = with_value st (λ s under. valued Other under)

abbrev pub infixed : List Entry → Option (List Entry)
infixed st = with_two st (λ under. valued Other under)

abbrev pub single : List Entry → Option (List Entry)
single st = with_value st (λ s under. Some (Part (Some s) ∷ under))

abbrev pub bounded : List Entry → Option (List Entry)
bounded st = with_two st (λ under. Some (Part None ∷ under))

abbrev pub strided : List Entry → Option (List Entry)
strided st = with_value st (λ s more. with_two more (λ under. Some (Part None ∷ under)))

abbrev pub turned : List Entry → Option (List Entry)
turned st = with_two st (λ more. with_value more (λ s under. Some (Turn ∷ under)))

abbrev pub turned_round : List Entry → Option (List Entry)
turned_round st = with_two st (λ more. with_turn more (λ under. Some (Turn ∷ under)))

abbrev pub looped : List Entry → Option (List Entry)
looped st = with_turn st (λ more. with_mark more (λ under. valued Other under))

abbrev pub listed : Option Intrinsic → Option Parts → Option (List Entry)
listed f (Some p) = if suits f p.parts then valued Other p.under else None
listed f None = None

module _ (function : List ℕ → Option Intrinsic) where
  abbrev pub check : Node → List Entry → Option (List Entry)
  check (flats.Digits t) st = valued Literal st
  check (flats.Truth b) st = valued Other st
  check (flats.Name x) st = valued Other st
  check flats.Parenthesis st = enclosed st
  check (flats.Prefix o) st = enclosed st
  check (flats.Infix o) st = infixed st
  check flats.One st = single st
  check flats.Bounds st = bounded st
  check flats.Stride st = strided st
  check flats.Begin st = Some (Mark ∷ st)
  check (flats.Listed x) st = listed (function x) (parts_above st [])
  check flats.Values st = counted (count_above st 0)
  check (flats.Inner x) st = turned st
  check (flats.Outer x) st = turned_round st
  check flats.Looped st = looped st

  abbrev pub checked_on : Option (List Entry) → (List Entry → Option (List Entry)) → Option (List Entry)
  checked_on (Some st) on = on st
  checked_on None on = None

  abbrev pub check_all : List Node → List Entry → Option (List Entry)
  check_all [] st = Some st
  check_all (n ∷ ns) st = checked_on (check n st) (check_all ns)

-- the list tells whether the calls of an expression have arguments that may stand there
pub record TellsCalls (function : List ℕ → Option Intrinsic) (p : Phrase90) : Type 0 where
  pub suit : SuitsCalls function p → check_all function (flat p) [] ≡ Some (Value (shape_of p) ∷ [])
  pub others : (SuitsCalls function p → ⊥) → check_all function (flat p) [] ≡ None

abbrev pub ListTellsCalls : Type 0
ListTellsCalls = (function : List ℕ → Option Intrinsic) (p : Phrase90) → TellsCalls function p
