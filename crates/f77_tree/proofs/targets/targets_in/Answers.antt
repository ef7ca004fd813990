use Rattle.std.proofs.Common.{ap, ◌∙◌, arith}
use Rattle.std.specs.Option.{option_to_list}
use Rattle.f77_grammar.specs.program.Tree as tree
use Rattle.f77_tree.proofs.TargetLaws.{targets_more, targets_end}
use Rattle.f77_tree.proofs.targets.targets_in.Goals as goal

pub loop-statement-preserved : goal.loop-statement-preserved
loop-statement-preserved c =
    targets_more c.args.text.now c.loop-statement.statement-index c.statement-item.result c.loop-statement.list.items c.note.new.list.items (option_to_list c.target.result)
    (omega arith) c.statement-item.is (c.target.ensures ∙ ap tree.target c.action.ensures) c.in_ok-note.ensures c.loop-statement.invariant

pub returns : goal.returns
returns c = targets_end c.args.text.now c.loop-statement.statement-index c.loop-statement.list.items (omega arith) c.loop-statement.invariant
