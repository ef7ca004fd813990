-- The numbers of the loops so far.
use Rattle.std.proofs.Common.{◌≡◌, map, take}
use Rattle.nest.specs.View.{loop_of}
use Rattle.listing.specs.graphs.Listing.{loop_numbers}
use Rattle.listing.proofs.graphs.statements.loop_numbers.Given as goal

abbrev pub invariant-loop-turns : goal.invariant-loop-turns
invariant-loop-turns l = l.numbers ≡ loop_numbers (map loop_of (take l.turns-index l.turns-items))
