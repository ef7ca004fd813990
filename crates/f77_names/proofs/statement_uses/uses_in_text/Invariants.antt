use Rattle.std.proofs.Common.{◌≡◌, take}
use Rattle.f77_grammar.specs.program.Uses as plain
use Rattle.f77_names.specs.UsesView.{listed}
use Rattle.f77_grammar.specs.syntax.Views.{text_of}
use Rattle.f77_names.proofs.statement_uses.uses_in_text.Given as goal

abbrev pub invariant-loop-statement : goal.invariant-loop-statement
invariant-loop-statement l = listed l.uses ≡ plain.uses_in_text (take l.statement-index (text_of l.text))
