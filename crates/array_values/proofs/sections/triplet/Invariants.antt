use Rattle.std.proofs.Common.{◌≡◌, true, length}
use Rattle.std.specs.Prelude.{IfSome}
use Rattle.tree.specs.View.{bounds_of}
use Rattle.meaning.specs.ArrayValues.{each}
use Rattle.meaning.specs.Sections.{triplet_numbers}
use Rattle.array_values.specs.Selections.{bounded, goes_on}
use Rattle.array_values.proofs.Steps.{left_of}
use Rattle.array_values.proofs.Triplets.{left_numbers}
use Rattle.array_values.proofs.sections.triplet.Given as goal

abbrev pub invariant-loop-next : goal.invariant-loop-next
invariant-loop-next l = record {
  so_far : each (bounded (bounds_of l.dim)) (triplet_numbers l.lower l.upper l.stride)
      ≡ left_of (bounded (bounds_of l.dim)) l.selected (left_numbers l.next l.upper l.stride);
  goes : IfSome l.next (λ z. goes_on z l.upper l.stride ≡ true);
}

abbrev pub decreases-loop-next : goal.decreases-loop-next
decreases-loop-next l = length (left_numbers l.next l.upper l.stride)
