use Rattle.std.proofs.Common.{length}
use Rattle.f90_trees.specs.Hiding.{function_in}
use Rattle.f90_names.proofs.calls.FormlessLaws.{SuitedSoFar}
use Rattle.f90_names.proofs.calls.placing.first_formless.Given as goal

abbrev pub invariant-loop-written : goal.invariant-loop-written
invariant-loop-written l =
    (goal.iterator-loop-written).can_next l.written-iterator
    × (goal.iterator-loop-written).is_finite l.written-iterator
    × SuitedSoFar (function_in l.functions) l.statements l.forms (length l.yielded)
