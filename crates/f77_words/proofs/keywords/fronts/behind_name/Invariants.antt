use Rattle.std.proofs.Common.{◌≤◌, length}
use Rattle.f77_grammar.specs.expressions.Spelling.{is_letter_or_digit}
use Rattle.f77_expressions.specs.Symbols.{symbols_of}
use Rattle.f77_words.proofs.keywords.FrontLaws.{IsReadTo}
use Rattle.f77_words.proofs.keywords.fronts.behind_name.Given as goal

abbrev pub invariant-letters : goal.invariant-letters
invariant-letters l = (l.len ≤ 6) × IsReadTo is_letter_or_digit (symbols_of l.text) (symbols_of l.rest) l.len

abbrev pub decreases-letters : goal.decreases-letters
decreases-letters l = length l.rest
