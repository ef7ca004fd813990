use Rattle.tree.specs.declared.refusals.Cause.TheVariants.{Deep90}
use Rattle.f90_grammar.specs.Refusals.{HoldsAt}
use Rattle.f90_read.proofs.CheckLaws.{depth, first_refused}
use Rattle.f90_read.proofs.causes.check_depth.Goals as goal

pub returns : goal.returns
returns c source ps t clear =
    depth source ps t.of_text c.refuse.result clear
    (first_refused ps Deep90 (HoldsAt Deep90 ps) c.first_deep.result c.refuse.result (c.refuse.ensures ps t.are)
    (c.first_deep.ensures ps t.are))
