use Rattle.std.proofs.Common.{map, take, ◌+◌, arith}
use Rattle.f77_grammar.specs.program.Uses as plain
use Rattle.f77_grammar.specs.program.Declarations.{bounds_of_entities}
use Rattle.f77_names.specs.UsesView.{listed}
use Rattle.f77_grammar.specs.syntax.Views.{entity_of, bounds_of}
use Rattle.f77_names.proofs.UseLaws.{added}
use Rattle.f77_names.proofs.DeclarationLaws.{entities_more}
use Rattle.f77_names.proofs.uses.Uses.add_all_bounds.Goals as goal

pub loop-entity-preserved : goal.loop-entity-preserved
loop-entity-preserved c =
    added (listed c.args.self.now) (listed c.loop-entity.self) (listed c.add_bounds.new.self)
    (bounds_of_entities (map entity_of (take c.loop-entity.entity-index c.args.entities.now)))
    (plain.uses_in_bounds (map bounds_of c.entity-item.result.dims))
    (bounds_of_entities (map entity_of (take (c.loop-entity.entity-index + 1) c.args.entities.now)))
    c.loop-entity.invariant c.in_ok-add_bounds.ensures
    (entities_more c.args.entities.now c.loop-entity.entity-index c.entity-item.result (omega arith) c.entity-item.is)
