use Rattle.f77_grammar.specs.program.Uses as plain
use Rattle.f77_grammar.specs.program.Declarations.{has_name, is_real}
use Rattle.f77_grammar.specs.syntax.Views.{text_of}
use Rattle.f77_grammar.specs.syntax.Walk.{IsSearched}
use Rattle.f77_names.proofs.real_names.real_use.Given as goal

abbrev pub invariant-loop-i : goal.invariant-loop-i
invariant-loop-i l = IsSearched (has_name (is_real (plain.uses_in_text (text_of l.text)))) (text_of l.text) l.i
