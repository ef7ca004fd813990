use Rattle.f77_grammar.specs.program.Order.{is_ended_wrongly}
use Rattle.f77_grammar.specs.syntax.Views.{text_of}
use Rattle.f77_grammar.specs.syntax.Walk.{IsSearched}
use Rattle.f77_structure.proofs.order.wrong_end.Given as goal

abbrev pub invariant-loop-i : goal.invariant-loop-i
invariant-loop-i l = IsSearched is_ended_wrongly (text_of l.text) l.i
