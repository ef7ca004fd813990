use Rattle.meaning.proofs.AgreeingValues.{value_from_names}
use Rattle.meaning.proofs.CellFrame.{value_from_cells, array_from_cells}
use Rattle.meaning.proofs.laws.value_from_cells.Goals as goal

pub returns-clause-cells : goal.returns-clause-cells
returns-clause-cells c = value_from_cells

pub returns-clause-arrays : goal.returns-clause-arrays
returns-clause-arrays c = array_from_cells

pub returns-clause-names : goal.returns-clause-names
returns-clause-names c = value_from_names
