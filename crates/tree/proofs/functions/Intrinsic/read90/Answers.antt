use Rattle.tree.proofs.Table.{intrinsic_named-named, intrinsic_named-every}
use Rattle.tree.proofs.functions.Intrinsic.read90.Goals as goal

pub returns-clause-named : goal.returns-clause-named
returns-clause-named c = intrinsic_named-named c.args.name.now c.find90.result c.find90.ensures

pub returns-clause-every : goal.returns-clause-every
returns-clause-every c = intrinsic_named-every c.args.name.now c.find90.result c.find90.ensures
