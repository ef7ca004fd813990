use Rattle.std.proofs.Common.{◌≡◌, [], drop}
use Rattle.f77_expressions.specs.Reader.{run, Wants}
use Rattle.f77_expressions.specs.Views.{state_of, words_of}
use Rattle.f77_expressions.proofs.reader.run.Given as goal

abbrev pub invariant-reading : goal.invariant-reading
invariant-reading l = run (words_of l.tokens) (Wants []) ≡ run (words_of (drop l.i l.tokens)) (state_of l.frames.items l.held)
