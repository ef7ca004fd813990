use Rattle.split_programs.proofs.SplitRuns.{meaning_is_handed_on, split_program_runs_as_source}
use Rattle.split_programs.proofs.runs.split_program_runs_as_source.Goals as goal

pub returns-clause-run : goal.returns-clause-run
returns-clause-run c = split_program_runs_as_source

pub returns-clause-meaning : goal.returns-clause-meaning
returns-clause-meaning c = meaning_is_handed_on
