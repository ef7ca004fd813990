-- The classes so far.
use Rattle.std.proofs.Common.{◌≡◌, take}
use Rattle.components.specs.Emission.{statements_of_classes}
use Rattle.emission.proofs.nest_emission.classes.statements_of.Given as goal

abbrev pub invariant-loop-places : goal.invariant-loop-places
invariant-loop-places l = l.classes ≡ statements_of_classes l.part (take l.places-index l.order)
