use Rattle.prepared_passes.proofs.SymbolsAnew.Same.{symbols_are_found_with_anything_behind}
use Rattle.prepared_passes.proofs.symbols.symbols_are_found_with_anything_behind.Goals as goal

pub returns : goal.returns
returns c = symbols_are_found_with_anything_behind
