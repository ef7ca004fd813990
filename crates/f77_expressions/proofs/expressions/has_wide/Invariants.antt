use Rattle.std.proofs.Common.{◌≡◌, drop}
use Rattle.std.specs.List.{list_any}
use Rattle.f77_grammar.specs.expressions.Words.{is_wide_word}
use Rattle.f77_expressions.specs.Views.{words_of}
use Rattle.f77_expressions.proofs.expressions.has_wide.Given as goal

abbrev pub invariant-loop-token : goal.invariant-loop-token
invariant-loop-token l = list_any is_wide_word (words_of l.tokens) ≡ list_any is_wide_word (words_of (drop l.token-index l.tokens))
