use Rattle.std.proofs.Common.{◌≡◌, ◌++◌, map, drop}
use Rattle.tree.specs.View as view
use Rattle.f77_grammar.specs.syntax.Views.{bounds_of}
use Rattle.f77_names.specs.constants.Constants.{store_of}
use Rattle.f77_names.specs.constants.Declarations.{narrow, dimensions}
use Rattle.f77_names.proofs.constants.constants.Constants.dims.Given as goal

abbrev pub invariant-loop-pair : goal.invariant-loop-pair
invariant-loop-pair l =
    map narrow (dimensions l.self.width (store_of l.self) (map bounds_of l.bounds))
    ≡ map view.bounds_of l.dims ++ map narrow (dimensions l.self.width (store_of l.self) (map bounds_of (drop l.pair-index l.bounds)))
