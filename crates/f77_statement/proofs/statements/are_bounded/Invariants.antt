use Rattle.std.proofs.Common.{◌≡◌, map, drop}
use Rattle.std.specs.List.{list_all}
use Rattle.f77_grammar.specs.syntax.Views.{entity_of}
use Rattle.f77_statement.specs.Formed.{has_bounds}
use Rattle.f77_statement.proofs.statements.are_bounded.Given as goal

abbrev pub invariant-loop-entity : goal.invariant-loop-entity
invariant-loop-entity l = list_all has_bounds (map entity_of l.entities) ≡ list_all has_bounds (map entity_of (drop l.entity-index l.entities))
