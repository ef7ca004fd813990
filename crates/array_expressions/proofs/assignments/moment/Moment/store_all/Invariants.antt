use Rattle.std.proofs.Common.{ℕ, List, drop, Option, Result}
use Rattle.tree.specs.declared.ops.Value.{Value}
use Rattle.tree.specs.declared.width.Width.{Width}
use Rattle.meaning.specs.Store.{Cell}
use Rattle.machine.specs.Moments.{Seen}
use Rattle.machine.specs.declared.progress.Left.{Left}
use Rattle.machine.specs.Acts.{Runs}
use Rattle.array_values.specs.storage.Slots.{SamePlaces}
use Rattle.array_expressions.specs.assignments.Moments.{seen, slots_of}
use Rattle.array_expressions.specs.assignments.Planning.{Stores}
use Rattle.array_expressions.proofs.assignments.Storing.{left_of}
use Rattle.array_expressions.proofs.assignments.moment.Moment.store_all.Given as goal

-- the places are the same, and what is stored with the elements that are left is stored with all
abbrev pub invariant-loop-at : goal.invariant-loop-at
invariant-loop-at l =
    SamePlaces (slots_of l.fn.self) (slots_of l.self)
    × ((w : Width) (ws : List (Cell × Value)) → Stores (slots_of l.fn.self) ws l.fn.plan → (input : List ℕ) (bytes : Option (List ℕ)) (last : Seen) (r : Result (Unit {0}) Left)
    → Runs (left_of w (drop l.at ws)) input (seen l.self) bytes last bytes r
    → Runs (left_of w ws) input (seen l.fn.self) bytes last bytes r)
