use Rattle.meaning_laws.proofs.profiles.SourceRuns.{source_value_has_kind, source_value_fault_is_plain, source_run_fault_is_plain}
use Rattle.meaning_laws.proofs.profiles.source_faults_are_plain.Goals as goal

pub returns-clause-value : goal.returns-clause-value
returns-clause-value c = source_value_has_kind

pub returns-clause-value_fault : goal.returns-clause-value_fault
returns-clause-value_fault c = source_value_fault_is_plain

pub returns-clause-run : goal.returns-clause-run
returns-clause-run c = source_run_fault_is_plain
