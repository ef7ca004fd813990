-- What was made so far stands in the place of the statements so far.
use Rattle.std.proofs.Common.{◌≡◌, map}
use Rattle.tree.specs.View.{statement_of, tested_of}
use Rattle.find_nests.specs.nest_parts.Lists.{after_each, after_list}
use Rattle.translation.specs.loop_placing.Placing.{blocks_of, placed_each, placed_list}
use Rattle.translation.proofs.loop_placing.placing.Placing.+placing.Given as goal

abbrev pub invariant-stmts-loop-stmt : goal.invariant-stmts-loop-stmt
invariant-stmts-loop-stmt l = record {
  made : map statement_of l.made ≡ placed_list (blocks_of l.self.blocks.now) l.initial.loops (map statement_of l.yielded);
  loops : l.loops ≡ after_list l.initial.loops (map statement_of l.yielded);
}

abbrev pub invariant-arms-loop-arm : goal.invariant-arms-loop-arm
invariant-arms-loop-arm l = record {
  made : map tested_of l.made ≡ placed_each (blocks_of l.self.blocks.now) l.initial.loops (map tested_of l.yielded);
  loops : l.loops ≡ after_each l.initial.loops (map tested_of l.yielded);
}
