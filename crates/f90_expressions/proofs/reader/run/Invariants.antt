use Rattle.std.proofs.Common.{◌≡◌, [], drop}
use Rattle.f90_expressions.specs.words.Tokens.{words_of}
use Rattle.f90_expressions.specs.Machine.{run, Wants}
use Rattle.f90_expressions.specs.Views.{state_in, stack, nodes_seen}
use Rattle.f90_expressions.proofs.reader.run.Given as goal

abbrev pub invariant-reading : goal.invariant-reading
invariant-reading l =
    run (words_of l.tokens) (Wants []) (nodes_seen l.initial.nodes.items)
    ≡ run (words_of (drop l.i l.tokens)) (state_in l.state (stack l.frames.items)) (nodes_seen l.nodes.items)
