use Rattle.machine.specs.Stored.{names_in, store_in}
use Rattle.run77.proofs.moment.Moment.count_step.Goals as goal

pub returns-clause-counted : goal.returns-clause-counted
returns-clause-counted c = c.count_step.ensures (names_in c.args.self.now.storage) (store_in c.args.self.now.storage)
