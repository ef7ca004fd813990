use Rattle.prepared_passes.proofs.SplitNests.Kept.{split_nest_keeps_loops, split_nest_keeps_rest, splits_with_anything_behind}
use Rattle.prepared_passes.proofs.splitting.split_nest_keeps_rest.Goals as goal

pub returns-clause-rest : goal.returns-clause-rest
returns-clause-rest c = split_nest_keeps_rest

pub returns-clause-loops : goal.returns-clause-loops
returns-clause-loops c = split_nest_keeps_loops

pub returns-clause-behind : goal.returns-clause-behind
returns-clause-behind c = splits_with_anything_behind
