use Rattle.std.proofs.Common.{◌≡◌, drop}
use Rattle.f77_grammar.specs.program.Limits.{bounds_of_name}
use Rattle.f77_grammar.specs.syntax.Views.{text_of}
use Rattle.f77_names.proofs.constants.declarations.bounds_of_name.Given as goal

abbrev pub invariant-loop-statement : goal.invariant-loop-statement
invariant-loop-statement l = bounds_of_name (text_of l.text) l.name ≡ bounds_of_name (drop l.statement-index (text_of l.text)) l.name
