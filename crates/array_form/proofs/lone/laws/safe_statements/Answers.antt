use Rattle.array_form.proofs.lone.Giving.{cells_give_values}
use Rattle.array_form.proofs.lone.Safe.{run_names_cells, safe_statements_have_cells}
use Rattle.array_form.proofs.lone.laws.safe_statements.Goals as goal

pub returns-clause-run : goal.returns-clause-run
returns-clause-run c = run_names_cells

pub returns-clause-cells : goal.returns-clause-cells
returns-clause-cells c = safe_statements_have_cells

pub returns-clause-values : goal.returns-clause-values
returns-clause-values c = cells_give_values
