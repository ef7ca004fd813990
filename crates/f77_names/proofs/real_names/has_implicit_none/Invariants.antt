use Rattle.std.proofs.Common.{◌≡◌, drop}
use Rattle.f77_grammar.specs.program.Declarations.{has_implicit_none}
use Rattle.f77_grammar.specs.syntax.Views.{text_of}
use Rattle.f77_names.proofs.real_names.has_implicit_none.Given as goal

-- none has stood so far
abbrev pub invariant-loop-statement : goal.invariant-loop-statement
invariant-loop-statement l = has_implicit_none (text_of l.text) ≡ has_implicit_none (drop l.statement-index (text_of l.text))
