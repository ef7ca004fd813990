use Rattle.tree.specs.declared.refusals.Cause.TheVariants.{WideLiteral90}
use Rattle.f90_grammar.specs.Refusals.{HoldsAt}
use Rattle.f90_read.proofs.CheckLaws.{literals, first_refused}
use Rattle.f90_read.proofs.causes.check_literals.Goals as goal

pub returns : goal.returns
returns c source ps t clear =
    literals source ps t.of_text c.refuse.result clear
    (first_refused ps WideLiteral90 (HoldsAt WideLiteral90 ps) c.first_wide.result c.refuse.result
    (c.refuse.ensures ps t.are) (c.first_wide.ensures ps t.are))
