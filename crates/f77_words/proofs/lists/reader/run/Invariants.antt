use Rattle.std.proofs.Common.{length}
use Rattle.f77_expressions.specs.Views.{words_of}
use Rattle.f77_words.specs.lists.Reader.{Path, start}
use Rattle.f77_words.specs.lists.Views.{state_of}
use Rattle.f77_words.proofs.lists.reader.run.Given as goal

abbrev pub invariant-reading : goal.invariant-reading
invariant-reading l = Path l.direction (start (words_of l.tokens)) (state_of l.is_due l.lists.items (words_of l.rest))

abbrev pub decreases-reading : goal.decreases-reading
decreases-reading l = length l.rest
