use Rattle.f77_statement.proofs.StatementLaws.{some_bounds}
use Rattle.f77_statement.proofs.statements.is_bounded.Goals as goal

pub returns : goal.returns
returns c = some_bounds c.is_empty.result c.args.entity.now.dims c.is_empty.ensures
