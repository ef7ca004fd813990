use Rattle.std.proofs.Common.{◌≡◌, map, take}
use Rattle.std.specs.List.{flat_map}
use Rattle.tree.specs.View.{statement_of}
use Rattle.nest.specs.View.{part_of}
use Rattle.last_values.specs.ValuesBehind as behind
use Rattle.last_values.proofs.behind.values_behind.Given as goal

abbrev pub invariant-loop-nested : goal.invariant-loop-nested
invariant-loop-nested l =
    map statement_of l.stmts.items ≡ flat_map (behind.left_behind l.symbols l.line l.loops (part_of l.body)) (take l.nested-index l.nested-items)
