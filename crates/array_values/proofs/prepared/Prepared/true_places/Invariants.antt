use Rattle.std.proofs.Common.{◌≡◌, ◌-◌, ◌<◌}
use Rattle.std.specs.Prelude.{All}
use Rattle.meaning.specs.ArrayValues.{size, counted}
use Rattle.array_values.specs.Arrays.{elements_in}
use Rattle.array_values.specs.Masks.{true_places}
use Rattle.array_values.proofs.Masks.{left_true}
use Rattle.array_values.proofs.prepared.Prepared.true_places.Given as goal

abbrev pub invariant-loop-place : goal.invariant-loop-place
invariant-loop-place l = record {
  so_far : true_places (elements_in l.self) l.extents ≡ left_true (elements_in l.self) l.extents l.places (counted l.place (l.count - l.place));
  within : All (λ k. k < size l.extents) l.places;
}
