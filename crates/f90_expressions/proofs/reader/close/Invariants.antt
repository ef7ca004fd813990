use Rattle.std.proofs.Common.{◌≡◌, vec_len}
use Rattle.f90_expressions.specs.Machine as machine
use Rattle.f90_expressions.specs.Views.{info_seen, stack, nodes_seen}
use Rattle.f90_expressions.proofs.reader.close.Given as goal

abbrev pub invariant-closing : goal.invariant-closing
invariant-closing l =
    machine.close l.level (stack l.initial.frames.items) (info_seen l.initial.operand) (nodes_seen l.initial.nodes.items)
    ≡ machine.close l.level (stack l.frames.items) (info_seen l.operand) (nodes_seen l.nodes.items)

abbrev pub decreases-closing : goal.decreases-closing
decreases-closing l = vec_len l.frames
