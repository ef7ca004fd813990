use Rattle.std.proofs.Common.{◌≡◌, ◌++◌, map, take}
use Rattle.std.specs.List.{flat_map}
use Rattle.tree.specs.View.{tested_of, statement_of}
use Rattle.nest_reasons.specs.Marks.{own_marks}
use Rattle.nest_reasons.specs.Arms.{marks_in_arm}
use Rattle.nest_reasons.proofs.marks.Marks.+marks.Given as goal

abbrev pub invariant-add_arms-loop-arm : goal.invariant-add_arms-loop-arm
invariant-add_arms-loop-arm l = l.self.list ≡ l.initial.self.list ++ flat_map marks_in_arm (map tested_of (take l.arm-index l.arm-items))

abbrev pub invariant-add_stmts-loop-stmt : goal.invariant-add_stmts-loop-stmt
invariant-add_stmts-loop-stmt l = l.self.list ≡ l.initial.self.list ++ flat_map (own_marks l.in_if) (map statement_of (take l.stmt-index l.stmt-items))
