use Rattle.std.proofs.Common.{map, take, ◌+◌, arith}
use Rattle.std.specs.List.{flat_map}
use Rattle.f77_grammar.specs.program.Uses as plain
use Rattle.f77_names.specs.UsesView.{listed}
use Rattle.f77_grammar.specs.syntax.Views.{constant_of}
use Rattle.f77_names.proofs.UseLaws.{added}
use Rattle.f77_names.proofs.StatementUseLaws.{flat_more}
use Rattle.f77_names.proofs.uses.Uses.add_constants.Goals as goal

pub loop-constant-preserved : goal.loop-constant-preserved
loop-constant-preserved c =
    added (listed c.args.self.now) (listed c.loop-constant.self) (listed c.add_constant.new.self)
    (flat_map plain.defined_uses (map constant_of (take c.loop-constant.constant-index c.as_slice-constant-items.result.now)))
    (plain.defined_uses (constant_of c.constant-item.result))
    (flat_map plain.defined_uses (map constant_of (take (c.loop-constant.constant-index + 1) c.as_slice-constant-items.result.now)))
    c.loop-constant.invariant c.in_ok-add_constant.ensures
    (flat_more plain.defined_uses constant_of c.as_slice-constant-items.result.now c.loop-constant.constant-index c.constant-item.result (omega arith) c.constant-item.is)
