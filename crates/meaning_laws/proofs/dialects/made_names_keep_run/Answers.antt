use Rattle.meaning_laws.proofs.dialects.MadeNames.{made_names_keep_run, array_run_with_made_names}
use Rattle.meaning_laws.proofs.dialects.made_names_keep_run.Goals as goal

pub returns-clause-run : goal.returns-clause-run
returns-clause-run c = made_names_keep_run

pub returns-clause-array_run : goal.returns-clause-array_run
returns-clause-array_run c = array_run_with_made_names
