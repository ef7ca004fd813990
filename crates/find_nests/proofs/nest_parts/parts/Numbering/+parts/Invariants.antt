use Rattle.std.proofs.Common.{map}
use Rattle.nest.specs.View.{part_of, branch_of}
use Rattle.find_nests.proofs.NestParts.PartLaws.{Between, BetweenArms}
use Rattle.find_nests.proofs.nest_parts.parts.Numbering.+parts.Given as goal

abbrev pub invariant-stmts-loop-stmt : goal.invariant-stmts-loop-stmt
invariant-stmts-loop-stmt l = Between l.stmt-items l.initial.self.loops l.self.loops l.stmt-index (map part_of l.parts)

abbrev pub invariant-arms-loop-arm : goal.invariant-arms-loop-arm
invariant-arms-loop-arm l = BetweenArms l.arm-items l.initial.self.loops l.self.loops l.arm-index (map branch_of l.branches)
