use Rattle.std.proofs.Common.{sym, subst}
use Rattle.tree.specs.declared.width.Width.{Width}
use Rattle.meaning.specs.Dialect.{fortran77}
use Rattle.f77_grammar.specs.program.Limits.{constants_of}
use Rattle.f77_grammar.specs.syntax.Views.{text_of}
use Rattle.f77_names.specs.constants.Constants.{AreValues}
use Rattle.f77_checks.proofs.known.Known.of_text.Goals as goal

pub returns-clause-known : goal.returns-clause-known
returns-clause-known c = record {
  names = c.in_ok-names.ensures;
  ends = c.in_ok-ends.ensures;
  constants = subst (λ (w : Width). AreValues c.in_ok-constants.constants (constants_of (fortran77 w) (text_of c.args.text.now))) (sym c.in_ok-constants.ensures.width) c.in_ok-constants.ensures.values;
}
