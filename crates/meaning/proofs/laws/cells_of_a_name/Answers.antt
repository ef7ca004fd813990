use Rattle.meaning.proofs.Exchanges.{same_cell_decides}
use Rattle.meaning.proofs.Columns.{cells_are_within}
use Rattle.meaning.proofs.laws.cells_of_a_name.Goals as goal

pub returns-clause-same : goal.returns-clause-same
returns-clause-same c = same_cell_decides

pub returns-clause-cells : goal.returns-clause-cells
returns-clause-cells c = cells_are_within
