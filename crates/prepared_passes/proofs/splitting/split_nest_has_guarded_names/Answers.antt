use Rattle.prepared_passes.proofs.SplitNests.Elements.{split_nest_has_elements}
use Rattle.prepared_passes.proofs.SplitNests.Guarded.{split_nest_has_guarded_names}
use Rattle.prepared_passes.proofs.splitting.split_nest_has_guarded_names.Goals as goal

pub returns-clause-elements : goal.returns-clause-elements
returns-clause-elements c = split_nest_has_elements

pub returns-clause-names : goal.returns-clause-names
returns-clause-names c = split_nest_has_guarded_names
