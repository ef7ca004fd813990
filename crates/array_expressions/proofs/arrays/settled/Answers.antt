use Rattle.std.proofs.Common.{ap, ◌∙◌}
use Rattle.meaning.specs.ArrayValues.{Array, settled}
use Rattle.array_values.proofs.Equations.{known_is}
use Rattle.array_expressions.proofs.arrays.settled.Goals as goal

pub returns : goal.returns
returns c = known_is c.in_ok-scalar.field-0 ∙ ap (λ (a : Array). settled a) c.in_ok-scalar.ensures
