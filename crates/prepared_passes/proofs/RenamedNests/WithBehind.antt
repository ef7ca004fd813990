-- Scalars are renamed whatever stands behind a nest.
use Rattle.std.proofs.Common.{◌≡◌, refl, List, [], ◌∷◌}
use Rattle.tree.specs.Plain.{Block}
use Rattle.nest.specs.Plain.{Nest}
use Rattle.scalar_rename.specs.Ranges.{webs_of}
use Rattle.scalar_rename.specs.Renamed.{renamed, with_names}
use Rattle.scalar_rename.specs.declared.ranges.Web.{Web}
use Rattle.prepared_passes.specs.renaming.Laws.{NestIsRenamedWithAnythingBehind}

with_behind : (m : Nest) (after : Block) (ws : List Web) → with_names (record m { after = after }) ws ≡ record (with_names m ws) { after = after }
with_behind m after [] = refl
with_behind m after (w ∷ ws) = refl

pub nest_is_renamed_with_anything_behind : NestIsRenamedWithAnythingBehind
unfolding renamed
nest_is_renamed_with_anything_behind m after = with_behind m after (webs_of m)
