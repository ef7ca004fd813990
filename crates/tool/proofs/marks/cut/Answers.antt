use Rattle.std.proofs.Common.{sym}
use Rattle.reading.specs.Characters.{is_blank}
use Rattle.tool.proofs.MarkLaws.{cut_found, cut_missed}
use Rattle.tool.proofs.marks.cut.Goals as goal

pub returns-in-Some-clause-before : goal.returns-in-Some-clause-before
returns-in-Some-clause-before c = (cut_found is_blank c.args.text.now c.in-Some.at (sym c.in-Some.ensures)).0

pub returns-in-Some-clause-after : goal.returns-in-Some-clause-after
returns-in-Some-clause-after c = (cut_found is_blank c.args.text.now c.in-Some.at (sym c.in-Some.ensures)).1

pub returns-in-None-clause-before : goal.returns-in-None-clause-before
returns-in-None-clause-before c = (cut_missed is_blank c.args.text.now (sym c.in-None.ensures)).0

pub returns-in-None-clause-after : goal.returns-in-None-clause-after
returns-in-None-clause-after c = (cut_missed is_blank c.args.text.now (sym c.in-None.ensures)).1
