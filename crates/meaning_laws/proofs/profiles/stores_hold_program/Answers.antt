use Rattle.meaning_laws.proofs.profiles.TargetRuns.{opening_store_holds, statements_keep_stores, run_holds, source_run_holds}
use Rattle.meaning_laws.proofs.profiles.stores_hold_program.Goals as goal

pub returns-clause-opening : goal.returns-clause-opening
returns-clause-opening c = opening_store_holds

pub returns-clause-statements : goal.returns-clause-statements
returns-clause-statements c = statements_keep_stores

pub returns-clause-run : goal.returns-clause-run
returns-clause-run c = run_holds

pub returns-clause-source : goal.returns-clause-source
returns-clause-source c = source_run_holds
