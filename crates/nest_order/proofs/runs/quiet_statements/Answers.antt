use Rattle.nest_order.proofs.runs.Quieting.{nests_are_quiet, quiet_statements_keep_lines}
use Rattle.nest_order.proofs.runs.quiet_statements.Goals as goal

pub returns-clause-lines : goal.returns-clause-lines
returns-clause-lines c = quiet_statements_keep_lines

pub returns-clause-nests : goal.returns-clause-nests
returns-clause-nests c = nests_are_quiet
