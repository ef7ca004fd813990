use Rattle.std.proofs.Common.{◌≡◌, subst, ◌∙◌, map, arith}
use Rattle.f77_grammar.specs.syntax.Views.{constant_of}
use Rattle.f77_names.specs.constants.Constants.{store_of}
use Rattle.f77_names.proofs.constants.StoreLaws.{text_more, text_end}
use Rattle.tree.specs.declared.width.Width.{Width}
use Rattle.meaning.specs.Dialect.{fortran77}
use Rattle.f77_grammar.specs.program.Limits.{with_constants}
use Rattle.f77_names.proofs.constants.constants.constants_of.Goals as goal

pub loop-statement-preserved : goal.loop-statement-preserved
loop-statement-preserved c = (
  text_more c.args.width c.args.text.now c.loop-statement.statement-index c.statement-item.result (store_of c.loop-statement.constants) (store_of c.define_all.new.self)
      (map constant_of c.definitions.result.now) (omega arith) c.statement-item.is c.definitions.ensures
      (subst (λ (w : Width). store_of c.define_all.new.self ≡ with_constants (fortran77 w) (map constant_of c.definitions.result.now) (store_of c.loop-statement.constants)) c.loop-statement.invariant.1 c.in_ok-define_all.ensures.values) c.loop-statement.invariant.0,
  c.define_all.ensures.width ∙ c.loop-statement.invariant.1,
)

pub returns-clause-values : goal.returns-clause-values
returns-clause-values c = text_end c.args.width c.args.text.now c.loop-statement.statement-index c.loop-statement.constants (omega arith) c.loop-statement.invariant.0
