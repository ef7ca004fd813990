use Rattle.std.proofs.Common.{◌≡◌, ◌++◌, map, take}
use Rattle.f77_grammar.specs.program.Declarations.{bounds_of_entities}
use Rattle.f77_grammar.specs.syntax.Views.{entity_of}
use Rattle.f77_names.specs.UsesView.{listed}
use Rattle.f77_names.proofs.uses.Uses.add_all_bounds.Given as goal

abbrev pub invariant-loop-entity : goal.invariant-loop-entity
invariant-loop-entity l = listed l.self ≡ listed l.initial.self ++ bounds_of_entities (map entity_of (take l.entity-index l.entities))
