use Rattle.tree.specs.OperatorTable.{spelling77_of}
use Rattle.tree.specs.declared.ops.TheConstants.{OPERATORS}
use Rattle.tree.proofs.Table.{find-IsSpelled}
use Rattle.tree.proofs.ops.Op.read77.Goals as goal

pub returns-clause-spelled : goal.returns-clause-spelled
returns-clause-spelled c = find-IsSpelled spelling77_of c.args.text.now c.args.between OPERATORS c.find77.result c.find77.ensures
