use Rattle.std.proofs.Common.{◌≡◌, map, drop}
use Rattle.f77_grammar.specs.syntax.Views.{bounds_of}
use Rattle.f77_names.specs.constants.Constants.{store_of}
use Rattle.f77_names.specs.constants.Bounds.{has_reversed}
use Rattle.f77_names.proofs.constants.constants.Constants.has_reversed.Given as goal

abbrev pub invariant-loop-bounds : goal.invariant-loop-bounds
invariant-loop-bounds l = has_reversed l.self.width (store_of l.self) (map bounds_of l.dims) ≡ has_reversed l.self.width (store_of l.self) (map bounds_of (drop l.bounds-index l.dims))
