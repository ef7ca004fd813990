use Rattle.std.proofs.Common.{sym, ◌∙◌}
use Rattle.std.proofs.lemmas.Bool.{false≢true}
use Rattle.subscripts.proofs.SymbolPlaces.{symbols_are, only_symbols}
use Rattle.subscripts.proofs.shapes.are_symbols.Goals as goal

pub returns-then-are_rising : goal.returns-then-are_rising
returns-then-are_rising c =
    let used = c.used_places-used in (
      λ t. symbols_are c.args.symbols.now used.result used.ensures.within used.ensures.used (c.are_rising.ensures.0 c.if-are_rising.true) (c.are_unused.ensures.0 t),
      λ h. c.are_unused.ensures.1 (only_symbols c.args.symbols.now used.result used.ensures.within used.ensures.used used.ensures.ended h).1,
    )

pub returns-else-are_rising : goal.returns-else-are_rising
returns-else-are_rising c =
    let used = c.used_places-used in (
      λ t. absurd (false≢true (sym c.if-are_rising.false ∙ t)),
      λ h. c.are_rising.ensures.1 (only_symbols c.args.symbols.now used.result used.ensures.within used.ensures.used used.ensures.ended h).0,
    )
