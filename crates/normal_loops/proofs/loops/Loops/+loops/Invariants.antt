-- The loops of the parts so far were added.
use Rattle.std.proofs.Common.{◌≡◌, ◌++◌, All, map, take}
use Rattle.std.specs.List.{flat_map}
use Rattle.nest.specs.View.{branch_of, part_of}
use Rattle.last_values.specs.Nested.{IsNested}
use Rattle.normal_loops.specs.Loops.{nested_loops}
use Rattle.normal_loops.specs.Arms.{nested_in_branch}
use Rattle.normal_loops.proofs.loops.Loops.+loops.Given as goal

abbrev pub invariant-add_parts-loop-part : goal.invariant-add_parts-loop-part
invariant-add_parts-loop-part l =
    record {
      list : l.self.list ≡ l.initial.self.list ++ flat_map (nested_loops l.symbols l.round) (map part_of (take l.part-index l.part-items));
      nested : All IsNested l.self.list;
    }

abbrev pub invariant-add_arms-loop-arm : goal.invariant-add_arms-loop-arm
invariant-add_arms-loop-arm l =
    record {
      list : l.self.list ≡ l.initial.self.list ++ flat_map (nested_in_branch l.symbols l.round) (map branch_of (take l.arm-index l.arm-items));
      nested : All IsNested l.self.list;
    }
