-- What the code holds while it makes a tree, as what lies on the stack.
use Rattle.std.specs.Prelude.{◌≡◌, Bool, true, false, List, [], ◌∷◌, map, reverse, Option, Some, None, Result, Ok, Err}
use Rattle.tree.specs.declared.exprs.Expr.{Expr}
use Rattle.tree.specs.declared.exprs.Sub.{Sub}
use Rattle.tree.specs.declared.exprs.Turn as exprs
use Rattle.tree.specs.declared.lists.Memory.{Memory}
use Rattle.tree.specs.Plain.{Expression, Subscript}
use Rattle.tree.specs.View.{ConstructorLoop, expression_of, subscript_of, loop_of}
use Rattle.f90_trees.specs.declared.building.Entry.{Entry}
use Rattle.f90_trees.specs.declared.building.Entry.TheVariants.{Value, Part, Mark, Turn}
use Rattle.f90_trees.specs.Building as building

abbrev pub entry_seen : Entry → building.Entry
entry_seen (Value e) = building.Value (expression_of e)
entry_seen (Part s) = building.Part (subscript_of s)
entry_seen Mark = building.Mark
entry_seen (Turn e ls) = building.Turn (expression_of e) (map loop_of ls)

-- the last one lies on top
abbrev pub stack : List Entry → List building.Entry
stack entries = reverse (map entry_seen entries)

-- the items of a list were taken in reverse
abbrev pub parts_seen : List Sub → List Subscript
parts_seen subs = reverse (map subscript_of subs)

abbrev pub values_seen : List Expr → List Expression
values_seen exprs = reverse (map expression_of exprs)

-- ---- what functions return, unless memory ran out

-- what was on top, and what is left; or something else was on top
abbrev pub TakesValue : Option Expr → List building.Entry → List building.Entry → Type 0
TakesValue (Some e) old new = old ≡ building.Value (expression_of e) ∷ new
TakesValue None old new =
    (on : Expression → List building.Entry → Option (List building.Entry)) → building.with_value old on ≡ None

abbrev pub TakesTwo : Option (Expr × Expr) → List building.Entry → List building.Entry → Type 0
TakesTwo (Some r) old new = old ≡ building.Value (expression_of r.1) ∷ (building.Value (expression_of r.0) ∷ new)
TakesTwo None old new =
    (on : Expression → Expression → List building.Entry → Option (List building.Entry))
    → building.with_two old on ≡ None

abbrev pub TakesTurn : Option (Expr × List exprs.Turn) → List building.Entry → List building.Entry → Type 0
TakesTurn (Some r) old new = old ≡ building.Turn (expression_of r.0) (map loop_of r.1) ∷ new
TakesTurn None old new =
    (on : Expression → List ConstructorLoop → List building.Entry → Option (List building.Entry))
    → building.with_turn old on ≡ None

abbrev pub TakesMark : Bool → List building.Entry → List building.Entry → Type 0
TakesMark true old new = old ≡ building.Mark ∷ new
TakesMark false old new =
    (on : List building.Entry → Option (List building.Entry)) → building.with_mark old on ≡ None

abbrev pub TakesParts : Result (Option (List Sub)) Memory → List building.Entry → List building.Entry → Type 0
TakesParts (Ok (Some subs)) old new =
    building.parts_above old [] ≡ Some (record { parts = map subscript_of subs; under = new })
TakesParts (Ok None) old new = building.parts_above old [] ≡ None
TakesParts (Err e) old new = Unit {0}

abbrev pub TakesValues : Result (Option (List Expr)) Memory → List building.Entry → List building.Entry → Type 0
TakesValues (Ok (Some exprs)) old new =
    building.values_above old [] ≡ Some (record { values = map expression_of exprs; under = new })
TakesValues (Ok None) old new = building.values_above old [] ≡ None
TakesValues (Err e) old new = Unit {0}

-- what a part of the list does, or whether it suits no stack
abbrev pub Builds : Result Bool Memory → List Entry → Option (List building.Entry) → Type 0
Builds (Ok true) entries step = step ≡ Some (stack entries)
Builds (Ok false) entries step = step ≡ None
Builds (Err e) entries step = Unit {0}

abbrev pub IsSole : Option Expr → List building.Entry → Type 0
IsSole (Some e) st = st ≡ building.Value (expression_of e) ∷ []
IsSole None st = (e : Expression) → st ≡ building.Value e ∷ [] → ⊥

abbrev pub Makes : Result (Option Expr) Memory → Option (List building.Entry) → Type 0
Makes (Ok (Some e)) made = made ≡ Some (building.Value (expression_of e) ∷ [])
Makes (Ok None) made = (e : Expression) → made ≡ Some (building.Value e ∷ []) → ⊥
Makes (Err e) made = Unit {0}
