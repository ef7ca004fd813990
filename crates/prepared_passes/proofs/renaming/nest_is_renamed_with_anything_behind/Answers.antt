use Rattle.prepared_passes.proofs.RenamedNests.WithBehind.{nest_is_renamed_with_anything_behind}
use Rattle.prepared_passes.proofs.renaming.nest_is_renamed_with_anything_behind.Goals as goal

pub returns : goal.returns
returns c = nest_is_renamed_with_anything_behind
