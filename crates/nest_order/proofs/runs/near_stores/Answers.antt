use Rattle.nest_order.proofs.runs.Variables.{near_stores_agree}
use Rattle.nest_order.proofs.runs.near_stores.Goals as goal

pub returns : goal.returns
returns c = near_stores_agree
