use Rattle.array_values.proofs.storage.PartLaws.{bare_is}
use Rattle.array_values.proofs.storage.slots.Slot.is_scalar.Goals as goal

pub returns-then-self : goal.returns-then-self
returns-then-self c = bare_is c.args.self.now c.is_scalar.result c.if-self.true c.is_scalar.ensures
