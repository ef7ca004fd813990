-- Whether each loop of a nest has a form from 1 by 1, within the limits, under the loops round it.
use Rattle.std.specs.Prelude.{ℕ, Bool, true, is_some, ◌&&◌, List}
use Rattle.nest.specs.Plain.{Part, Run, Turns, Choice, Label, Jump, Parts, no_parts, part, Branches, no_branches}
use Rattle.nest.specs.Plain.{branch}
use Rattle.last_values.specs.normal_forms.NormalLoops.{normal_loop}
use Rattle.last_values.specs.declared.normal_forms.loops.NormalLoop.{NormalLoop}
use Rattle.normal_loops.specs.Loops.{with_loop}

module _ (symbols : List (List ℕ)) where
  -- each loop of a part under these loops has such a form, within the limits
  abbrev mutual
    pub is_normal : List NormalLoop → Part → Bool
    is_normal round (Run s) = true
    is_normal round (Turns l ps) =
        is_some (normal_loop symbols round l) && are_normal (with_loop round (normal_loop symbols round l)) ps
    is_normal round (Choice bs ps) = are_normal_branches round bs && are_normal round ps
    is_normal round (Label n) = true
    is_normal round (Jump n) = true

    pub are_normal : List NormalLoop → Parts → Bool
    are_normal round no_parts = true
    are_normal round (part p ps) = is_normal round p && are_normal round ps

    pub are_normal_branches : List NormalLoop → Branches → Bool
    are_normal_branches round no_branches = true
    are_normal_branches round (branch test ps bs) = are_normal round ps && are_normal_branches round bs
