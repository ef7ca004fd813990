use Rattle.std.proofs.Common.{◌≡◌, ◌≤◌, length, drop}
use Rattle.std.specs.Prelude.{reverse}
use Rattle.f90_expressions.specs.words.Tokens.{words_of}
use Rattle.f90_statement.specs.items.Commas.{comma_marks, AreLevels}
use Rattle.f90_statement.proofs.items.commas.commas.Given as goal

abbrev pub invariant-back : goal.invariant-back
invariant-back l = record {
  within : l.i ≤ length l.tokens;
  levels : AreLevels (reverse l.levels.items) (words_of (drop l.i l.tokens));
  marks : reverse l.marks.items ≡ comma_marks (words_of (drop l.i l.tokens));
}

abbrev pub decreases-back : goal.decreases-back
decreases-back l = l.i
