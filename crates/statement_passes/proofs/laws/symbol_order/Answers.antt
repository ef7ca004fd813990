use Rattle.statement_passes.proofs.Names.{names_stay_in_order}
use Rattle.statement_passes.proofs.laws.symbol_order.Goals as goal

pub returns : goal.returns
returns c = names_stay_in_order
