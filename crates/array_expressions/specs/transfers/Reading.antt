-- READ, cell by cell.
use Rattle.std.specs.Prelude.{Result, ℕ, List, [], ◌∷◌}
use Rattle.std.specs.List.{AllByRecursion}
use Rattle.meaning.specs.Dialect.{fortran90}
use Rattle.tree.specs.declared.width.Width.{Width}
use Rattle.meaning.specs.Store.{Cell}
use Rattle.meaning.specs.Run.{reads_into}
use Rattle.machine.specs.declared.progress.Halt.{Halt}
use Rattle.machine.specs.Statements.{DoesOver}
use Rattle.array_values.specs.declared.storage.slots.Slot.{Slot}
use Rattle.array_values.specs.declared.storage.slots.Place.{Place}
use Rattle.array_values.specs.declared.storage.targets.Target.{Target}
use Rattle.array_values.specs.storage.Slots.{IsWithin}
use Rattle.array_values.specs.storage.Targets.{place_of}
use Rattle.array_expressions.specs.declared.assignments.moment.Moment.{Moment}
use Rattle.array_expressions.specs.assignments.Moments.{seen, slots_of}
use Rattle.array_expressions.specs.assignments.Placing.{IsAt}

-- the next value of the input was stored at the place, which is that of a cell
abbrev pub ReadsAt : (width : Width) → List ℕ → ℕ → Place → Moment → Moment → Result (Unit {0}) Halt → Type 0
ReadsAt width input line p old new r = (c : Cell) → IsAt (slots_of old) c p
    → DoesOver input (λ limit. reads_into (fortran90 width) limit line c) (seen old) (seen new) r

-- the cells are those at these places of a name's
abbrev pub StandAt : List Slot → ℕ → List Cell → List ℕ → Type 0
StandAt vs slot [] [] = Unit {0}
StandAt vs slot (c ∷ cs) (k ∷ ks) = IsAt vs c (place_of slot k) × StandAt vs slot cs ks
StandAt vs slot cs ks = ⊥

-- a value stands at each of the target's places
abbrev pub AreWithin : List Slot → Target → Type 0
AreWithin vs t = AllByRecursion (λ k. IsWithin vs (place_of t.slot k)) t.selected.places
