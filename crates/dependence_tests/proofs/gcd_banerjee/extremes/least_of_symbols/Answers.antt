use Rattle.dependence_tests.proofs.gcd_banerjee.SymbolValues.{least_if_cancel, open_if_not}
use Rattle.std.proofs.lemmas.Bool.{both_ways}
use Rattle.dependence_tests.proofs.gcd_banerjee.extremes.least_of_symbols.Goals as goal

pub returns-then-symbols_cancel-clause-least : goal.returns-then-symbols_cancel-clause-least
returns-then-symbols_cancel-clause-least c = λ o. least_if_cancel c.args.p.now o (c.symbols_cancel.ensures.0 c.if-symbols_cancel.true)

pub returns-else-symbols_cancel-clause-least : goal.returns-else-symbols_cancel-clause-least
returns-else-symbols_cancel-clause-least c = λ o. open_if_not c.args.p.now o (λ h. both_ways c.symbols_cancel.result c.if-symbols_cancel.false (c.symbols_cancel.ensures.1 h))
