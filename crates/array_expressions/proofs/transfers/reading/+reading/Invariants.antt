use Rattle.std.proofs.Common.{ℕ, ◌-◌, List, Option, Result, drop}
use Rattle.tree.specs.View.{item_of}
use Rattle.meaning.specs.Dialect.{fortran90}
use Rattle.meaning.specs.Run.{repeated, turn, reads_item, reads_items}
use Rattle.machine.specs.Moments.{Seen}
use Rattle.machine.specs.declared.progress.Left.{Left}
use Rattle.machine.specs.Acts.{Runs}
use Rattle.machine.specs.Printing.{plain_items}
use Rattle.machine.proofs.ReadLaws.{left_of_items}
use Rattle.array_expressions.specs.assignments.Moments.{seen}
use Rattle.array_expressions.proofs.transfers.reading.+reading.Given as goal

-- what is done with the turns or the items that are left is done with all
abbrev pub invariant-read_item-loop : goal.invariant-read_item-loop
invariant-read_item-loop l =
    (bytes : Option (List ℕ)) (last : Seen) (r : Result (Unit {0}) Left)
    → Runs (λ limit. repeated (l.end - l.counter) (turn (fortran90 l.width) limit l.line l.name l.turns.step (reads_items (fortran90 l.width) limit (plain_items l.items) l.line))) l.input (seen l.moment) bytes last bytes r
    → Runs (λ limit. reads_item (fortran90 l.width) limit (item_of l.fn.item) l.line) l.input (seen l.fn.moment) bytes last bytes r

abbrev pub invariant-read_items-loop-item : goal.invariant-read_items-loop-item
invariant-read_items-loop-item l =
    (bytes : Option (List ℕ)) (last : Seen) (r : Result (Unit {0}) Left)
    → Runs (left_of_items (fortran90 l.width) l.line (drop l.item-index l.item-items)) l.input (seen l.moment) bytes last bytes r
    → Runs (left_of_items (fortran90 l.width) l.line l.items) l.input (seen l.fn.moment) bytes last bytes r
