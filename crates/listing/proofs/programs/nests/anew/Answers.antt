use Rattle.nest.specs.View.{nest_of}
use Rattle.listing.proofs.programs.Sources.{symbols_found}
use Rattle.listing.proofs.programs.nests.anew.Goals as goal

pub returns : goal.returns
returns c =
    symbols_found c.args.masks (nest_of c.args.normal.now) (nest_of c.in_ok-converted.converted.value) c.find_symbols.result
    (λ new. nest_of new.value) c.in_ok-converted.ensures c.find_symbols.ensures
