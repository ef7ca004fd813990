use Rattle.std.proofs.Common.{◌≡◌, ℕ}
use Rattle.f77_grammar.specs.program.Text.{label_stands_in}
use Rattle.f77_grammar.specs.program.Labels.{has_wrong_label}
use Rattle.f77_structure.specs.Labels.{has}
use Rattle.f77_grammar.specs.syntax.Views.{text_of}
use Rattle.f77_grammar.specs.syntax.Walk.{passed, IsSearched}
use Rattle.f77_structure.proofs.labels_check.wrong_label.Given as goal

abbrev pub invariant-loop-i : goal.invariant-loop-i
invariant-loop-i l = record {
  searched : IsSearched (has_wrong_label (text_of l.text)) (text_of l.text) l.i;
  earlier : (n : ℕ) → has l.earlier n ≡ label_stands_in (passed (text_of l.text) l.i) n;
}
