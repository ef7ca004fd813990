use Rattle.std.proofs.Common.{arith}
use Rattle.f77_structure.specs.Labels.{has}
use Rattle.f77_structure.proofs.LabelLaws.{labels_more, labels_all}
use Rattle.f77_structure.proofs.labels_check.labels_of.Goals as goal

pub loop-statement-preserved : goal.loop-statement-preserved
loop-statement-preserved c = record {
  labels = labels_more (has c.loop-statement.labels) (has c.note.new.self) c.args.text.now c.loop-statement.statement-index c.statement-item.result
      (omega arith) c.statement-item.is c.loop-statement.invariant.labels c.in_ok-note.ensures.ok;
}

pub returns : goal.returns
returns c = labels_all (has c.loop-statement.labels) c.args.text.now c.loop-statement.statement-index (omega arith) c.loop-statement.invariant.labels
