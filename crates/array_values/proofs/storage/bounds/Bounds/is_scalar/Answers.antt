use Rattle.array_values.proofs.storage.HeldBounds.{filled_scalar, empty_scalar}
use Rattle.array_values.proofs.storage.bounds.Bounds.is_scalar.Goals as goal

pub returns-in-Filled : goal.returns-in-Filled
returns-in-Filled c = filled_scalar c.args.self.now c.in-Filled.dims c.is_empty.result c.in-Filled.is c.is_empty.ensures

pub returns-in-Empty : goal.returns-in-Empty
returns-in-Empty c = empty_scalar c.args.self.now c.in-Empty.field-0 c.in-Empty.is
