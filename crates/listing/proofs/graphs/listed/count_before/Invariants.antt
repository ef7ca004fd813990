-- All drops so far come before the edge.
use Rattle.std.proofs.Common.{◌≡◌, ◌≤◌, ◌++◌, ◌-◌, length, take, drop}
use Rattle.listing.specs.graphs.Order.{before, not_before}
use Rattle.listing.proofs.graphs.listed.count_before.Given as goal

abbrev pub invariant-counting : goal.invariant-counting
invariant-counting l =
    (l.count ≤ length l.drops) × ((before l.edge l.drops ≡ take l.count l.drops ++ before l.edge (drop l.count l.drops))
    × (not_before l.edge l.drops ≡ not_before l.edge (drop l.count l.drops)))

abbrev pub decreases-counting : goal.decreases-counting
decreases-counting l = length l.drops - l.count
