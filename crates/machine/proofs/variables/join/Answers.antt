use Rattle.std.proofs.Common.{arith}
use Rattle.std.proofs.lemmas.Int.{ints, to_z-of_z}
use Rattle.std.proofs.lemmas.Grind.{common_steps}
use Rattle.machine.proofs.variables.join.Goals as goal

pub overflow_mul-result : goal.overflow_mul-result
overflow_mul-result c = grind (arith, c.requires.few, c.size.ensures)

pub overflow_add-result : goal.overflow_add-result
overflow_add-result c = grind (arith, ints, to_z-of_z, c.requires.few, c.size.ensures)

pub returns : goal.returns
returns c = grind (arith, ints, to_z-of_z, common_steps)

pub overflow_cast-result : goal.overflow_cast-result
overflow_cast-result c = (grind (arith, ints, to_z-of_z), grind (arith, ints, to_z-of_z))
