use Rattle.std.proofs.Common.{map}
use Rattle.tree.specs.View.{program_of}
use Rattle.find_nests.specs.View.{found_of}
use Rattle.find_nests.proofs.SearchLaws.{Between, BetweenArms}
use Rattle.find_nests.proofs.search.Search.+search.Given as goal

abbrev pub invariant-stmts-loop-stmt : goal.invariant-stmts-loop-stmt
invariant-stmts-loop-stmt l =
    Between (program_of l.program) l.stmt-items l.initial.self.loops.loops l.initial.self.nests (map found_of l.initial.self.found)
    l.stmt-index l.self.loops.loops l.self.nests (map found_of l.self.found)

abbrev pub invariant-arms-loop-arm : goal.invariant-arms-loop-arm
invariant-arms-loop-arm l =
    BetweenArms (program_of l.program) l.arm-items l.initial.self.loops.loops l.initial.self.nests (map found_of l.initial.self.found)
    l.arm-index l.self.loops.loops l.self.nests (map found_of l.self.found)
