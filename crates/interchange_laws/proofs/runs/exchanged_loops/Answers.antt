use Rattle.interchange_laws.proofs.runs.Law.{exchanged_loops_give_store, exchanged_loops_keep_meaning}
use Rattle.interchange_laws.proofs.runs.exchanged_loops.Goals as goal

pub returns-clause-store : goal.returns-clause-store
returns-clause-store c = exchanged_loops_give_store

pub returns-clause-meaning : goal.returns-clause-meaning
returns-clause-meaning c = exchanged_loops_keep_meaning
