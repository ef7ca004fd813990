use Rattle.prepared_passes.proofs.SymbolsAnew.Runs.{nest_with_symbols_runs_alike}
use Rattle.prepared_passes.proofs.symbols.nest_with_symbols_runs_alike.Goals as goal

pub returns : goal.returns
returns c = nest_with_symbols_runs_alike
