use Rattle.std.proofs.Common.{◌≡◌, ◌++◌, map, take}
use Rattle.std.specs.List.{flat_map}
use Rattle.f77_grammar.specs.program.Uses as plain
use Rattle.f77_names.specs.UsesView.{listed}
use Rattle.f77_grammar.specs.syntax.Views.{entity_of}
use Rattle.f77_names.proofs.uses.Uses.add_dimensioned.Given as goal

abbrev pub invariant-loop-entity : goal.invariant-loop-entity
invariant-loop-entity l = listed l.self ≡ listed l.initial.self ++ flat_map plain.dimensioned_uses (map entity_of (take l.entity-index l.entity-items))
