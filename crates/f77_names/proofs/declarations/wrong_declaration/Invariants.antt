use Rattle.f77_grammar.specs.program.Uses as plain
use Rattle.f77_grammar.specs.program.Declarations.{is_declared_wrongly}
use Rattle.f77_grammar.specs.syntax.Views.{text_of}
use Rattle.f77_grammar.specs.syntax.Walk.{passed, IsSearched}
use Rattle.f77_names.specs.Seen.{HaveSeen}
use Rattle.f77_names.proofs.declarations.wrong_declaration.Given as goal

abbrev pub invariant-loop-i : goal.invariant-loop-i
invariant-loop-i l = record {
  searched : IsSearched (is_declared_wrongly (plain.uses_in_text (text_of l.text))) (text_of l.text) l.i;
  seen : HaveSeen l.before (plain.uses_in_text (passed (text_of l.text) l.i));
}
