use Rattle.prepared_passes.proofs.SymbolsAnew.Sources.{found_nest_is_of_source}
use Rattle.prepared_passes.proofs.symbols.found_nest_is_of_source.Goals as goal

pub returns : goal.returns
returns c = found_nest_is_of_source
