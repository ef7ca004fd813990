use Rattle.meaning_laws.proofs.dialects.Runs.{source_has_one_run, sequential_run_is_array_run}
use Rattle.meaning_laws.proofs.dialects.source_has_one_run.Goals as goal

pub returns-clause-dialects : goal.returns-clause-dialects
returns-clause-dialects c = source_has_one_run

pub returns-clause-sequential : goal.returns-clause-sequential
returns-clause-sequential c = sequential_run_is_array_run
