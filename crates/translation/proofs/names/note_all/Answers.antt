use Rattle.std.proofs.Common.{arith}
use Rattle.translation.proofs.MadeNames.{all_noted, one_name_more}
use Rattle.translation.proofs.names.note_all.Goals as goal

pub loop-name-preserved : goal.loop-name-preserved
loop-name-preserved c =
    one_name_more c.args.names.now.keys c.loop-name.names.keys c.note.new.names.keys
    c.args.all.now c.loop-name.name-index c.name-item.result
    (omega arith) c.name-item.is c.loop-name.invariant c.in_ok-note.ensures

pub returns : goal.returns
returns c =
    all_noted c.args.names.now.keys c.loop-name.names.keys c.args.all.now c.loop-name.name-index
    (omega arith) c.loop-name.invariant
