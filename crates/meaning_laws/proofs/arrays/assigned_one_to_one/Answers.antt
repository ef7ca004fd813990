use Rattle.meaning_laws.proofs.arrays.OneToOne.{triplet_selects_once, dimension_selects_once, positions_are_one_to_one, no_cell_twice}
use Rattle.meaning_laws.proofs.arrays.assigned_one_to_one.Goals as goal

pub returns-clause-triplet : goal.returns-clause-triplet
returns-clause-triplet c = triplet_selects_once

pub returns-clause-dimension : goal.returns-clause-dimension
returns-clause-dimension c = dimension_selects_once

pub returns-clause-positions : goal.returns-clause-positions
returns-clause-positions c = positions_are_one_to_one

pub returns-clause-writes : goal.returns-clause-writes
returns-clause-writes c = no_cell_twice
