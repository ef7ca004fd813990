use Rattle.std.proofs.Common.{◌≡◌, ℕ, ◌-◌, List, Option, Result, drop}
use Rattle.tree.specs.View.{item_of}
use Rattle.meaning.specs.Dialect.{fortran90}
use Rattle.meaning.specs.Run.{repeated, turn, prints_item, prints_items}
use Rattle.machine.specs.Moments.{Seen}
use Rattle.machine.specs.declared.progress.Left.{Left}
use Rattle.machine.specs.Acts.{Runs}
use Rattle.machine.specs.Printing.{plain_items}
use Rattle.array_expressions.specs.assignments.Moments.{seen}
use Rattle.machine.specs.Told.{IsTold}
use Rattle.array_expressions.proofs.transfers.printing.+printing.Given as goal

-- what is done with the turns or the items that are left is done with all
abbrev pub invariant-print_item-loop : goal.invariant-print_item-loop
invariant-print_item-loop g l =
    ((input : List ℕ) (now : Option (List ℕ)) (last : Seen) (r : Result (Unit {0}) Left)
    → Runs (λ limit. repeated (l.end - l.counter) (turn (fortran90 l.width) limit l.line l.name l.turns.step (prints_items (fortran90 l.width) limit (plain_items l.items) l.line))) input (seen l.moment) (g.K.Sink.taken l.out) last now r
    → Runs (λ limit. prints_item (fortran90 l.width) limit (item_of l.fn.item) l.line) input (seen l.fn.moment) (g.K.Sink.taken l.fn.out) last now r)
    × (g.K.Sink.faults l.out ≡ g.K.Sink.faults l.fn.out)
    × ((input bytes : List ℕ) → IsTold (λ before mid. (now : Option (List ℕ)) (last : Seen) (r : Result (Unit {0}) Left)
    → Runs (λ limit. repeated (l.end - l.counter) (turn (fortran90 l.width) limit l.line l.name l.turns.step (prints_items (fortran90 l.width) limit (plain_items l.items) l.line))) input (seen l.moment) mid last now r
    → Runs (λ limit. prints_item (fortran90 l.width) limit (item_of l.fn.item) l.line) input (seen l.fn.moment) before last now r) (l.out ≡ l.fn.out) bytes)

abbrev pub invariant-print_items-loop-item : goal.invariant-print_items-loop-item
invariant-print_items-loop-item g l =
    ((input : List ℕ) (now : Option (List ℕ)) (last : Seen) (r : Result (Unit {0}) Left)
    → Runs (λ limit. prints_items (fortran90 l.width) limit (plain_items (drop l.item-index l.item-items)) l.line) input (seen l.moment) (g.K.Sink.taken l.out) last now r
    → Runs (λ limit. prints_items (fortran90 l.width) limit (plain_items l.items) l.line) input (seen l.fn.moment) (g.K.Sink.taken l.fn.out) last now r)
    × (g.K.Sink.faults l.out ≡ g.K.Sink.faults l.fn.out)
    × ((input bytes : List ℕ) → IsTold (λ before mid. (now : Option (List ℕ)) (last : Seen) (r : Result (Unit {0}) Left)
    → Runs (λ limit. prints_items (fortran90 l.width) limit (plain_items (drop l.item-index l.item-items)) l.line) input (seen l.moment) mid last now r
    → Runs (λ limit. prints_items (fortran90 l.width) limit (plain_items l.items) l.line) input (seen l.fn.moment) before last now r) (l.out ≡ l.fn.out) bytes)
