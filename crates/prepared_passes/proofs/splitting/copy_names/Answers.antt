use Rattle.prepared_passes.proofs.SplitNests.Names.{copy_names_are_apart, copy_names_are_their_own}
use Rattle.prepared_passes.proofs.SplitNests.Places.{split_nest_has_copies}
use Rattle.prepared_passes.proofs.splitting.copy_names.Goals as goal

pub returns-clause-numbered : goal.returns-clause-numbered
returns-clause-numbered c = split_nest_has_copies

pub returns-clause-apart : goal.returns-clause-apart
returns-clause-apart c = copy_names_are_apart

pub returns-clause-own : goal.returns-clause-own
returns-clause-own c = copy_names_are_their_own
