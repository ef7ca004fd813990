use Rattle.std.proofs.Common.{◌≡◌}
use Rattle.f77_grammar.specs.program.Limits.{declared_elements, has_many_elements}
use Rattle.f77_grammar.specs.syntax.Views.{text_of}
use Rattle.f77_grammar.specs.syntax.Walk.{passed, IsSearched}
use Rattle.f77_names.specs.constants.Constants.{store_of}
use Rattle.meaning.specs.element_counts.Counts.{capped}
use Rattle.meaning.specs.Dialect.{fortran77}
use Rattle.f77_names.proofs.constants.checks.many_elements.Given as goal

abbrev pub invariant-loop-i : goal.invariant-loop-i
invariant-loop-i l = record {
  searched : IsSearched (has_many_elements (fortran77 l.constants.width) (store_of l.constants)) (text_of l.text) l.i;
  count : l.count ≡ capped (declared_elements (fortran77 l.constants.width) (store_of l.constants) (passed (text_of l.text) l.i));
}
