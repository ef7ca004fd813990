use Rattle.tree.specs.OperatorTable.{spelling90_of}
use Rattle.tree.specs.declared.ops.TheConstants.{OPERATORS}
use Rattle.tree.proofs.Table.{find-IsSpelled}
use Rattle.tree.proofs.ops.Op.read90.Goals as goal

pub returns-clause-spelled : goal.returns-clause-spelled
returns-clause-spelled c = find-IsSpelled spelling90_of c.args.text.now c.args.between OPERATORS c.find90.result c.find90.ensures
