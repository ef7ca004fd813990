use Rattle.std.proofs.Common.{◌≡◌, vec_len}
use Rattle.f77_expressions.specs.Reader as reader
use Rattle.f77_expressions.specs.Views.{operand_of, stack}
use Rattle.f77_expressions.proofs.reader.close.Given as goal

abbrev pub invariant-closing : goal.invariant-closing
invariant-closing l =
    reader.close l.level (stack l.initial.frames.items) (operand_of l.initial.operand) ≡ reader.close l.level (stack l.frames.items) (operand_of l.operand)

abbrev pub decreases-closing : goal.decreases-closing
decreases-closing l = vec_len l.frames
