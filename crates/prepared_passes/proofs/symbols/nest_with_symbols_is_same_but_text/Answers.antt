use Rattle.prepared_passes.proofs.SymbolsAnew.Same.{nest_with_symbols_is_same_but_text}
use Rattle.prepared_passes.proofs.symbols.nest_with_symbols_is_same_but_text.Goals as goal

pub returns : goal.returns
returns c = nest_with_symbols_is_same_but_text
