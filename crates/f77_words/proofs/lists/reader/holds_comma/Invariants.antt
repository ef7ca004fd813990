use Rattle.std.proofs.Common.{◌≡◌, ◌≤◌, drop}
use Rattle.f77_expressions.specs.Views.{words_of}
use Rattle.f77_words.specs.lists.Reader.{holds_comma}
use Rattle.f77_words.proofs.lists.reader.holds_comma.Given as goal

abbrev pub invariant-scanning : goal.invariant-scanning
invariant-scanning l = (l.open ≤ l.token-index) × (holds_comma 0 (words_of l.tokens) ≡ holds_comma l.open (words_of (drop l.token-index l.tokens)))
