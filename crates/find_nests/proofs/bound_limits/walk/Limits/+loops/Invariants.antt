use Rattle.std.proofs.Common.{◌≡◌, map, take}
use Rattle.std.specs.List.{list_any}
use Rattle.tree.specs.View.{tested_of, statement_of}
use Rattle.find_nests.specs.bound_limits.Walks.{any_leaves}
use Rattle.find_nests.specs.bound_limits.Arms.{any_leaves_arm}
use Rattle.find_nests.specs.bound_limits.View.{outer_of}
use Rattle.find_nests.proofs.bound_limits.walk.Limits.+loops.Given as goal

abbrev pub invariant-any_in_arms-loop-arm : goal.invariant-any_in_arms-loop-arm
invariant-any_in_arms-loop-arm l =
    record {
      found : l.found ≡ list_any (any_leaves_arm l.self.symbols (map outer_of l.initial.around.items)) (map tested_of (take l.arm-index l.arm-items));
      kept : l.around.items ≡ l.initial.around.items;
    }

abbrev pub invariant-any_in_stmts-loop-stmt : goal.invariant-any_in_stmts-loop-stmt
invariant-any_in_stmts-loop-stmt l =
    record {
      found : l.found ≡ list_any (any_leaves l.self.symbols (map outer_of l.initial.around.items)) (map statement_of (take l.stmt-index l.stmt-items));
      kept : l.around.items ≡ l.initial.around.items;
    }
