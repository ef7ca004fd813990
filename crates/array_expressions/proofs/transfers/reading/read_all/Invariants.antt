use Rattle.std.proofs.Common.{ℕ, List, drop, Option, Result}
use Rattle.meaning.specs.Dialect.{fortran90}
use Rattle.meaning.specs.Store.{Cell}
use Rattle.machine.specs.Moments.{Seen}
use Rattle.machine.specs.declared.progress.Left.{Left}
use Rattle.machine.specs.Acts.{Runs}
use Rattle.machine.proofs.ReadLaws.{left_of_cells}
use Rattle.array_values.specs.storage.Slots.{SamePlaces}
use Rattle.array_expressions.specs.assignments.Moments.{seen, slots_of}
use Rattle.array_expressions.specs.transfers.Reading.{StandAt}
use Rattle.array_expressions.proofs.transfers.reading.read_all.Given as goal

-- the places are the same, and what is read into the elements that are left is read into all
abbrev pub invariant-loop-k : goal.invariant-loop-k
invariant-loop-k l =
    SamePlaces (slots_of l.fn.moment) (slots_of l.moment)
    × ((cs : List Cell) → StandAt (slots_of l.fn.moment) l.fn.target.slot cs l.fn.target.selected.places → (bytes : Option (List ℕ)) (last : Seen) (r : Result (Unit {0}) Left)
    → Runs (left_of_cells (fortran90 l.width) l.line (drop l.k cs)) l.input (seen l.moment) bytes last bytes r
    → Runs (left_of_cells (fortran90 l.width) l.line cs) l.input (seen l.fn.moment) bytes last bytes r)
