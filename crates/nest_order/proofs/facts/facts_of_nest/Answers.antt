use Rattle.nest_order.proofs.facts.Facts.{facts_suffice}
use Rattle.nest_order.proofs.facts.facts_of_nest.Goals as goal

pub returns : goal.returns
returns c = facts_suffice
