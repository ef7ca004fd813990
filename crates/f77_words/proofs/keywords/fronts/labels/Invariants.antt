use Rattle.std.proofs.Common.{◌+◌, ◌≤◌, length}
use Rattle.f77_expressions.specs.Symbols.{symbols_of}
use Rattle.f77_words.proofs.keywords.LabelLists.{HasLabels}
use Rattle.f77_words.proofs.keywords.fronts.labels.Given as goal

abbrev pub invariant-labels : goal.invariant-labels
invariant-labels l = (l.others + length l.rest ≤ length l.text) × HasLabels (symbols_of l.text) (symbols_of l.rest) l.others

abbrev pub decreases-labels : goal.decreases-labels
decreases-labels l = length l.rest
