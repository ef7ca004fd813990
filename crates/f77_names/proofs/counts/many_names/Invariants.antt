use Rattle.f77_grammar.specs.program.Uses as plain
use Rattle.f77_grammar.specs.program.Limits.{has_many_names}
use Rattle.f77_grammar.specs.syntax.Views.{text_of}
use Rattle.f77_grammar.specs.syntax.Walk.{passed, IsSearched}
use Rattle.f77_names.specs.Counted.{counted_in, Holds}
use Rattle.f77_names.proofs.counts.many_names.Given as goal

abbrev pub invariant-loop-i : goal.invariant-loop-i
invariant-loop-i l = record {
  searched : IsSearched (has_many_names (plain.uses_in_text (text_of l.text))) (text_of l.text) l.i;
  holds : Holds l.counted (counted_in (plain.uses_in_text (text_of l.text)) (plain.uses_in_text (passed (text_of l.text) l.i)));
}
