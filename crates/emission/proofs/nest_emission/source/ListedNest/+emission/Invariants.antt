-- What is emitted for the classes so far. A level deeper less is left; a class comes after its part, and its loop after
-- it.
use Rattle.std.proofs.Common.{◌+◌, ◌-◌, ◌*◌, map, take}
use Rattle.tree.specs.Plain.{block}
use Rattle.tree.specs.View.{statement_of}
use Rattle.emission.specs.nest_emission.Blocks.{IsBlockForAll}
use Rattle.emission.specs.nest_emission.Given.{nest_in}
use Rattle.emission.proofs.nest_emission.source.ListedNest.+emission.Given as goal

abbrev pub decreases-part_block : goal.decreases-part_block
decreases-part_block l = 3 * (9 - l.level) + 2

abbrev pub decreases-class_block : goal.decreases-class_block
decreases-class_block l = 3 * (9 - l.level) + 1

abbrev pub decreases-turning_block : goal.decreases-turning_block
decreases-turning_block l = 3 * (9 - l.level)

abbrev pub invariant-part_block-loop-class : goal.invariant-part_block-loop-class
invariant-part_block-loop-class l =
    IsBlockForAll (nest_in l.self) l.self.edges.now l.self.holds.now l.level (take l.class-index l.class-items) (block (map statement_of l.stmts.items))
