use Rattle.std.proofs.Common.{arith, sym, ◌∙◌}
use Rattle.nest.specs.View.{part_of}
use Rattle.last_values.specs.ValuesBehind as behind
use Rattle.last_values.proofs.LoopLaws.{statements_more, block_behind, values_behind_is}
use Rattle.last_values.proofs.behind.values_behind.Goals as goal

pub loop-nested-preserved : goal.loop-nested-preserved
loop-nested-preserved c =
    statements_more (behind.left_behind c.args.symbols.now c.args.line c.args.loops.now (part_of c.args.body.now)) c.as_slice-nested-items.result.now c.loop-nested.nested-index c.nested-item.result
    c.loop-nested.stmts.items c.append.new.self.items c.in_ok-left.left.items
    (omega arith) c.nested-item.is c.loop-nested.invariant c.in_ok-left.ensures c.in_ok-append.ensures.items

pub returns : goal.returns
returns c =
    block_behind (behind.left_behind c.args.symbols.now c.args.line c.args.loops.now (part_of c.args.body.now)) c.as_slice-nested-items.result.now c.args.loops.now c.loop-nested.nested-index
    c.loop-nested.stmts.items c.from_vec.result c.as_slice-nested-items.ensures (omega arith) c.loop-nested.invariant c.from_vec.ensures
    ∙ sym (values_behind_is c.args.symbols.now c.args.line c.args.loops.now (part_of c.args.body.now))
