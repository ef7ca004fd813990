-- The cycles of the classes so far. A level deeper less is left; a class comes after its part, and its loop after it.
use Rattle.std.proofs.Common.{◌+◌, ◌-◌, ◌*◌, take}
use Rattle.emission.specs.nest_emission.Cycles.{AddCycles, AreCyclesForAll}
use Rattle.emission.specs.nest_emission.Given.{nest_in}
use Rattle.emission.proofs.nest_emission.source.ListedNest.+cycles.Given as goal

abbrev pub decreases-add_of_part : goal.decreases-add_of_part
decreases-add_of_part l = 3 * (9 - l.level) + 2

abbrev pub decreases-add_of_class : goal.decreases-add_of_class
decreases-add_of_class l = 3 * (9 - l.level) + 1

abbrev pub decreases-add_of_loop : goal.decreases-add_of_loop
decreases-add_of_loop l = 3 * (9 - l.level)

abbrev pub invariant-add_of_part-loop-class : goal.invariant-add_of_part-loop-class
invariant-add_of_part-loop-class l =
    AddCycles (AreCyclesForAll (nest_in l.self) l.self.edges.now l.self.holds.now l.level (take l.class-index l.class-items)) l.fn.cycles l.cycles
