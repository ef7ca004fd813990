use Rattle.nest_order.proofs.runs.Arrays.{cell_is_kept, same_cells_are_read, subscripts_read_same, value_is_kept}
use Rattle.nest_order.proofs.runs.with_arrays.Goals as goal

pub returns-clause-value : goal.returns-clause-value
returns-clause-value c = value_is_kept

pub returns-clause-cell : goal.returns-clause-cell
returns-clause-cell c = cell_is_kept

pub returns-clause-reads : goal.returns-clause-reads
returns-clause-reads c = same_cells_are_read

pub returns-clause-subscripts : goal.returns-clause-subscripts
returns-clause-subscripts c = subscripts_read_same
