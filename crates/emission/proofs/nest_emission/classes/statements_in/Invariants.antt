-- The statements in the places so far.
use Rattle.std.proofs.Common.{◌≡◌, map, take}
use Rattle.std.specs.Prelude.{slice_index}
use Rattle.emission.proofs.nest_emission.classes.statements_in.Given as goal

abbrev pub invariant-loop-place : goal.invariant-loop-place
invariant-loop-place l = l.class ≡ map (slice_index l.part) (take l.place-index l.places)
