-- What the code holds while it looks at calls, as what lies on the stack.
use Rattle.std.specs.Prelude.{◌≡◌, ℕ, Bool, true, false, List, [], ◌∷◌, map, reverse}
use Rattle.std.specs.Prelude.{Option, Some, None, Result, Ok, Err, is_some}
use Rattle.tree.specs.declared.lists.Memory.{Memory}
use Rattle.f90_trees.specs.declared.calls.Shape.{Shape}
use Rattle.f90_trees.specs.declared.calls.Shape.TheVariants as shapes
use Rattle.f90_trees.specs.declared.calls.Entry.{Entry}
use Rattle.f90_trees.specs.declared.calls.Entry.TheVariants.{Value, Part, Mark, Turn}
use Rattle.f90_trees.specs.Calls as calls

abbrev pub shape_seen : Shape → calls.Shape
shape_seen shapes.Literal = calls.Literal
shape_seen (shapes.Listing n) = calls.Listing n
shape_seen shapes.Other = calls.Other

abbrev pub part_seen : Option Shape → Option calls.Shape
part_seen (Some s) = Some (shape_seen s)
part_seen None = None

abbrev pub entry_seen : Entry → calls.Entry
entry_seen (Value s) = calls.Value (shape_seen s)
entry_seen (Part s) = calls.Part (part_seen s)
entry_seen Mark = calls.Mark
entry_seen Turn = calls.Turn

-- the last one lies on top
abbrev pub stack : List Entry → List calls.Entry
stack entries = reverse (map entry_seen entries)

abbrev pub parts_seen : List (Option Shape) → List (Option calls.Shape)
parts_seen parts = reverse (map part_seen parts)

-- ---- what functions return, unless memory ran out

abbrev pub TakesValue : Option Shape → List calls.Entry → List calls.Entry → Type 0
TakesValue (Some s) old new = old ≡ calls.Value (shape_seen s) ∷ new
TakesValue None old new =
    (on : calls.Shape → List calls.Entry → Option (List calls.Entry)) → calls.with_value old on ≡ None

abbrev pub TakesTwo : Bool → List calls.Entry → List calls.Entry → Type 0
TakesTwo true old new =
    (on : List calls.Entry → Option (List calls.Entry)) → calls.with_two old on ≡ on new
TakesTwo false old new =
    (on : List calls.Entry → Option (List calls.Entry)) → calls.with_two old on ≡ None

abbrev pub TakesTurn : Bool → List calls.Entry → List calls.Entry → Type 0
TakesTurn true old new = old ≡ calls.Turn ∷ new
TakesTurn false old new = (on : List calls.Entry → Option (List calls.Entry)) → calls.with_turn old on ≡ None

abbrev pub TakesMark : Bool → List calls.Entry → List calls.Entry → Type 0
TakesMark true old new = old ≡ calls.Mark ∷ new
TakesMark false old new = (on : List calls.Entry → Option (List calls.Entry)) → calls.with_mark old on ≡ None

abbrev pub TakesParts : Result (Option (List (Option Shape))) Memory → List calls.Entry → List calls.Entry → Type 0
TakesParts (Ok (Some parts)) old new =
    calls.parts_above old [] ≡ Some (record { parts = map part_seen parts; under = new })
TakesParts (Ok None) old new = calls.parts_above old [] ≡ None
TakesParts (Err e) old new = Unit {0}

abbrev pub Counts : Option ℕ → List calls.Entry → List calls.Entry → Type 0
Counts (Some n) old new = calls.count_above old 0 ≡ Some (record { count = n; under = new })
Counts None old new = calls.count_above old 0 ≡ None

-- what a part of the list does, or whether it doesn't suit
abbrev pub Checks : Result Bool Memory → List Entry → Option (List calls.Entry) → Type 0
Checks (Ok true) entries step = step ≡ Some (stack entries)
Checks (Ok false) entries step = step ≡ None
Checks (Err e) entries step = Unit {0}

-- whether something is left
abbrev pub Tells : Result Bool Memory → Option (List calls.Entry) → Type 0
Tells (Ok b) left = b ≡ is_some left
Tells (Err e) left = Unit {0}
