use Rattle.std.proofs.Common.{length}
use Rattle.statement_passes.proofs.symbols.+with_symbols.Given as goal

abbrev pub decreases-with_symbols : goal.decreases-with_symbols
decreases-with_symbols l = length l.names.now
