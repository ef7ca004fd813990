use Rattle.run77.proofs.ItemLaws.{whole_case, element_case}
use Rattle.run77.proofs.printing.whole_name.Goals as goal

pub returns-in-None : goal.returns-in-None
returns-in-None c = whole_case c.args.expr.now c.in-Item.item c.as_slice.result.now c.in-Item.is c.as_slice.ensures c.in-None.ensures.value

pub returns-in-Some : goal.returns-in-Some
returns-in-Some c = element_case c.args.expr.now c.in-Item.item c.in-Some.field-0.now c.as_slice.result.now c.in-Item.is c.as_slice.ensures c.in-Some.ensures.value
