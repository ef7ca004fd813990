use Rattle.f77_grammar.specs.program.Limits.{has_bad_constant}
use Rattle.f77_grammar.specs.syntax.Views.{text_of}
use Rattle.f77_grammar.specs.syntax.Walk.{IsSearched}
use Rattle.f77_names.specs.constants.Constants.{store_of}
use Rattle.meaning.specs.Dialect.{fortran77}
use Rattle.f77_names.proofs.constants.checks.bad_constant.Given as goal

abbrev pub invariant-loop-i : goal.invariant-loop-i
invariant-loop-i l = IsSearched (has_bad_constant (fortran77 l.constants.width) (store_of l.constants)) (text_of l.text) l.i
