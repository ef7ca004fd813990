-- The statements so far stand behind the others.
use Rattle.std.proofs.Common.{◌≡◌, ◌++◌, map}
use Rattle.tree.specs.View.{statement_of}
use Rattle.translation.proofs.loop_placing.placing.append.Given as goal

abbrev pub invariant-loop-stmt : goal.invariant-loop-stmt
invariant-loop-stmt l = map statement_of l.made ≡ map statement_of l.initial.made ++ map statement_of l.yielded
