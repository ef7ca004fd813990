use Rattle.prepared_passes.proofs.SymbolsAnew.Prepared.{prepared_nest_is_prepared_anew}
use Rattle.prepared_passes.proofs.symbols.prepared_nest_is_prepared_anew.Goals as goal

pub returns : goal.returns
returns c = prepared_nest_is_prepared_anew
