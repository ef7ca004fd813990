use Rattle.std.proofs.Common.{◌≡◌, ℕ}
use Rattle.f77_grammar.specs.program.Text.{label_stands_in}
use Rattle.f77_structure.specs.Labels.{has}
use Rattle.f77_grammar.specs.syntax.Views.{text_of}
use Rattle.f77_grammar.specs.syntax.Walk.{passed}
use Rattle.f77_structure.proofs.labels_check.labels_of.Given as goal

abbrev pub invariant-loop-statement : goal.invariant-loop-statement
invariant-loop-statement l = record { labels : (n : ℕ) → has l.labels n ≡ label_stands_in (passed (text_of l.text) l.statement-index) n }
