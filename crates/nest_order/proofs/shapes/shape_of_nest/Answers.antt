use Rattle.nest_order.proofs.shapes.Shapes.{statement_is_of_shape, shape_is_nest}
use Rattle.nest_order.proofs.shapes.shape_of_nest.Goals as goal

pub returns-clause-statement : goal.returns-clause-statement
returns-clause-statement c = statement_is_of_shape

pub returns-clause-nest : goal.returns-clause-nest
returns-clause-nest c = shape_is_nest
