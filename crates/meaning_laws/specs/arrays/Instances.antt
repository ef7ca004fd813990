-- What stores at most one value, as an instance of a statement does or one element of an array assignment: one after
-- another, and all at once.
use Rattle.std.specs.Prelude.{◌≡◌, ◌↔◌, Result, Ok, Option, Some, None, List, [], ◌∷◌, ◌++◌, map, All, Contains}
use Rattle.std.specs.Prelude.{flat_map, option_to_list}
use Rattle.std.specs.List.{AllByRecursion}
use Rattle.tree.specs.Steps.{◌>>=◌}
use Rattle.tree.specs.declared.ops.Fault.{Fault}
use Rattle.tree.specs.declared.ops.Value.{Value}
use Rattle.meaning.specs.ArrayValues.{each}
use Rattle.meaning.specs.Store.{Store, Cell, put}

-- in a store: the value that it stores and the cell that it stores it in, nothing, or its fault; and the cells that it
-- reads
pub record Instance : Type 0 where
  pub effect : Store → Result (Option (Cell × Value)) Fault
  pub reads : Store → List Cell

-- in two stores with the same bounds in which the cells that it reads hold the same values, it has one effect
pub record ComesFromReads (i : Instance) : Type 0 where
  pub same : (s t : Store) → s.bounds ≡ t.bounds → All (λ c. s.held c ≡ t.held c) (i.reads s) → i.effect s ≡ i.effect t

-- ---- stores

abbrev pub after : Option (Cell × Value) → Store → Store
after None s = s
after (Some w) s = put w.0 w.1 s

-- one write after the other
abbrev pub puts : List (Cell × Value) → Store → Store
puts [] s = s
puts (w ∷ ws) s = puts ws (put w.0 w.1 s)

abbrev pub writes_in : List (Option (Cell × Value)) → List (Cell × Value)
writes_in effects = flat_map option_to_list effects

-- each instance in the store that those before have left
abbrev pub in_turn : List Instance → Store → Result Store Fault
in_turn [] s = Ok s
in_turn (i ∷ is) s = do
  w ← i.effect s
  in_turn is (after w s)

-- all instances in the store s, before the first value is stored
abbrev pub at_once : List Instance → Store → Result Store Fault
at_once is s = do
  ws ← each (λ (i : Instance). i.effect s) is
  Ok (puts (writes_in ws) s)

-- ---- which cells they read

abbrev pub cell_of : Option (Cell × Value) → List Cell
cell_of w = map (λ (v : Cell × Value). v.0) (option_to_list w)

-- from the store s on, when the cells `written` have been written, none reads a cell that has been written
abbrev pub NoneReadsWritten : List Cell → List Instance → Store → Type 0
NoneReadsWritten written [] s = Unit {0}
NoneReadsWritten written (i ∷ is) s =
    ((c : Cell) → Contains written c → ¬ Contains (i.reads s) c)
    × ((w : Option (Cell × Value)) → i.effect s ≡ Ok w → NoneReadsWritten (cell_of w ++ written) is (after w s))

-- in the store s, j doesn't read the cell that i stores in
abbrev pub Spares : Store → Instance → Instance → Type 0
Spares s i j = (c : Cell) (v : Value) → i.effect s ≡ Ok (Some (c, v)) → ¬ Contains (j.reads s) c

-- in one store s, none reads the cell that an earlier one stores in
abbrev pub AreApart : Store → List Instance → Type 0
AreApart s [] = Unit {0}
AreApart s (i ∷ is) = AllByRecursion (Spares s i) is × AreApart s is

-- ---- laws

-- Where none reads what an earlier one has written, they store one by one what they store all at once, or meet the same
-- first fault
abbrev pub InTurnIsAtOnce : Type 0
InTurnIsAtOnce = (is : List Instance) (s : Store)
    → AllByRecursion ComesFromReads is → NoneReadsWritten [] is s → in_turn is s ≡ at_once is s

-- the same, where all are looked at in the first store
abbrev pub ApartIsAtOnce : Type 0
ApartIsAtOnce = (is : List Instance) (s : Store)
    → AllByRecursion ComesFromReads is → AreApart s is → in_turn is s ≡ at_once is s

-- no cell gets two values
abbrev pub OneValueEach : List (Cell × Value) → Type 0
OneValueEach ws = (c : Cell) (v w : Value) → Contains ws (c, v) → Contains ws (c, w) → v ≡ w

-- the same writes in another order leave the same store, where no cell gets two values
abbrev pub WritesInAnyOrder : Type 0
WritesInAnyOrder = (us ws : List (Cell × Value)) (s : Store)
    → ((w : Cell × Value) → Contains us w ↔ Contains ws w) → OneValueEach ws → puts us s ≡ puts ws s
