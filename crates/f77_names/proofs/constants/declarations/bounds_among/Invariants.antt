use Rattle.std.proofs.Common.{◌≡◌, map, drop}
use Rattle.f77_grammar.specs.program.Limits.{bounds_among}
use Rattle.f77_grammar.specs.syntax.Views.{entity_of}
use Rattle.f77_names.proofs.constants.declarations.bounds_among.Given as goal

abbrev pub invariant-loop-entity : goal.invariant-loop-entity
invariant-loop-entity l = bounds_among (map entity_of l.entities) l.name ≡ bounds_among (map entity_of (drop l.entity-index l.entities)) l.name
