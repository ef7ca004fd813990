use Rattle.std.proofs.Common.{map, take, ◌+◌, arith}
use Rattle.std.specs.List.{flat_map}
use Rattle.f77_grammar.specs.program.Uses as plain
use Rattle.f77_names.specs.UsesView.{listed}
use Rattle.f77_grammar.specs.syntax.Views.{entity_of}
use Rattle.f77_names.proofs.UseLaws.{added}
use Rattle.f77_names.proofs.StatementUseLaws.{flat_more}
use Rattle.f77_names.proofs.uses.Uses.add_typed.Goals as goal

pub loop-entity-preserved : goal.loop-entity-preserved
loop-entity-preserved c =
    added (listed c.args.self.now) (listed c.loop-entity.self) (listed c.add_typed_entity.new.self)
    (flat_map (plain.typed_uses c.args.kind) (map entity_of (take c.loop-entity.entity-index c.as_slice-entity-items.result.now)))
    (plain.typed_uses c.args.kind (entity_of c.entity-item.result))
    (flat_map (plain.typed_uses c.args.kind) (map entity_of (take (c.loop-entity.entity-index + 1) c.as_slice-entity-items.result.now)))
    c.loop-entity.invariant c.in_ok-add_typed_entity.ensures
    (flat_more (plain.typed_uses c.args.kind) entity_of c.as_slice-entity-items.result.now c.loop-entity.entity-index c.entity-item.result (omega arith) c.entity-item.is)
