use Rattle.split_laws.proofs.Points.{zero_points_part, crossing_point_parts}
use Rattle.split_laws.proofs.pieces.points_part.Goals as goal

pub returns-clause-zero : goal.returns-clause-zero
returns-clause-zero c = zero_points_part

pub returns-clause-crossing : goal.returns-clause-crossing
returns-clause-crossing c = crossing_point_parts
