use Rattle.std.proofs.Common.{◌≤◌}
use Rattle.f77_expressions.specs.Symbols.{symbols_of}
use Rattle.f77_words.proofs.keywords.Cutting.{IsCutTo}
use Rattle.f77_words.proofs.keywords.parentheses.cut_at_close.Given as goal

abbrev pub invariant-cutting : goal.invariant-cutting
invariant-cutting l = (l.opened ≤ l.i) × IsCutTo (symbols_of l.text) l.i l.opened
