use Rattle.std.proofs.Common.{◌++◌, map, take, ◌+◌, arith}
use Rattle.tree.specs.View.{expression_of}
use Rattle.f77_grammar.specs.program.Uses as plain
use Rattle.f77_names.specs.UsesView.{listed}
use Rattle.f77_grammar.specs.syntax.Views.{bounds_of}
use Rattle.f77_names.proofs.UseLaws.{added}
use Rattle.f77_names.proofs.StatementUseLaws.{bounds_more}
use Rattle.f77_names.proofs.uses.Uses.add_bounds.Goals as goal

pub loop-bound-preserved : goal.loop-bound-preserved
loop-bound-preserved c =
    added (listed c.args.self.now) (listed c.loop-bound.self) (listed c.add_bound.new.self)
    (plain.uses_in_bounds (map bounds_of (take c.loop-bound.bound-index c.as_slice-bound-items.result.now)))
    (plain.uses77_in (expression_of c.bound-item.result.0) ++ plain.uses77_in (expression_of c.bound-item.result.1))
    (plain.uses_in_bounds (map bounds_of (take (c.loop-bound.bound-index + 1) c.as_slice-bound-items.result.now)))
    c.loop-bound.invariant c.in_ok-add_bound.ensures
    (bounds_more c.as_slice-bound-items.result.now c.loop-bound.bound-index c.bound-item.result (omega arith) c.bound-item.is)
