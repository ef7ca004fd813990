use Rattle.std.proofs.Common.{◌≡◌, map, take}
use Rattle.std.specs.List.{list_any}
use Rattle.tree.specs.View.{tested_of, statement_of}
use Rattle.nest_reasons.specs.Loops.{has_flaw}
use Rattle.nest_reasons.specs.Walks.{any_loop}
use Rattle.nest_reasons.specs.Arms.{any_in_arm}
use Rattle.nest_reasons.proofs.loops.Check.+loops.Given as goal

abbrev pub invariant-any_in_arms-loop-arm : goal.invariant-any_in_arms-loop-arm
invariant-any_in_arms-loop-arm l = l.found ≡ list_any (any_in_arm (has_flaw l.self.flaw l.self.symbols) l.around) (map tested_of (take l.arm-index l.arm-items))

abbrev pub invariant-any_in_stmts-loop-stmt : goal.invariant-any_in_stmts-loop-stmt
invariant-any_in_stmts-loop-stmt l = l.found ≡ list_any (any_loop (has_flaw l.self.flaw l.self.symbols) l.around) (map statement_of (take l.stmt-index l.stmt-items))
