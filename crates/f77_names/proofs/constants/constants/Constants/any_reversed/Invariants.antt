use Rattle.std.proofs.Common.{◌≡◌, map, drop}
use Rattle.std.specs.List.{list_any}
use Rattle.f77_grammar.specs.syntax.Views.{entity_of}
use Rattle.f77_names.specs.constants.Constants.{store_of}
use Rattle.f77_names.specs.constants.Bounds.{has_reversed, bounds_in}
use Rattle.f77_names.proofs.constants.constants.Constants.any_reversed.Given as goal

abbrev pub invariant-loop-entity : goal.invariant-loop-entity
invariant-loop-entity l =
    list_any (has_reversed l.self.width (store_of l.self)) (bounds_in (map entity_of l.entities))
    ≡ list_any (has_reversed l.self.width (store_of l.self)) (bounds_in (map entity_of (drop l.entity-index l.entities)))
