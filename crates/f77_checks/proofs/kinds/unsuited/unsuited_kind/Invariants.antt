use Rattle.f77_grammar.specs.program.Uses as plain
use Rattle.f77_grammar.specs.program.Kinds.{has_unsuited_kind}
use Rattle.f77_grammar.specs.syntax.Views.{text_of}
use Rattle.f77_grammar.specs.syntax.Walk.{IsSearched}
use Rattle.f77_checks.proofs.kinds.unsuited.unsuited_kind.Given as goal

abbrev pub invariant-loop-i : goal.invariant-loop-i
invariant-loop-i l = IsSearched (has_unsuited_kind (plain.uses_in_text (text_of l.text))) (text_of l.text) l.i
