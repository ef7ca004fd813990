-- The loops of a nest, each with its form from 1 by 1 under the loops round it.
use Rattle.std.specs.Prelude.{ℕ, Option, Some, None, List, [], ◌∷◌, ◌++◌}
use Rattle.nest.specs.Plain.{Part, Run, Turns, Choice, Label, Jump, Parts, no_parts, part, Branches, no_branches}
use Rattle.nest.specs.Plain.{branch}
use Rattle.last_values.specs.normal_forms.NormalLoops.{normal_loop}
use Rattle.last_values.specs.declared.normal_forms.loops.NormalLoop.{NormalLoop}
use Rattle.last_values.specs.declared.behind.NestedLoop.{NestedLoop}

-- one loop more round what stands in it
abbrev pub with_loop : List NormalLoop → Option NormalLoop → List NormalLoop
with_loop round None = round
with_loop round (Some r) = round ++ r ∷ []

abbrev pub nested : List NormalLoop → Option NormalLoop → List NestedLoop
nested round None = []
nested round (Some r) = record { round = round; turns = r } ∷ []

module _ (symbols : List (List ℕ)) where
  -- the loops of a part under these loops, each before those in it
  abbrev mutual
    pub nested_loops : List NormalLoop → Part → List NestedLoop
    nested_loops round (Run s) = []
    nested_loops round (Turns l ps) =
        nested round (normal_loop symbols round l)
        ++ nested_in_parts (with_loop round (normal_loop symbols round l)) ps
    nested_loops round (Choice bs ps) = nested_in_branches round bs ++ nested_in_parts round ps
    nested_loops round (Label n) = []
    nested_loops round (Jump n) = []

    pub nested_in_parts : List NormalLoop → Parts → List NestedLoop
    nested_in_parts round no_parts = []
    nested_in_parts round (part p ps) = nested_loops round p ++ nested_in_parts round ps

    pub nested_in_branches : List NormalLoop → Branches → List NestedLoop
    nested_in_branches round no_branches = []
    nested_in_branches round (branch test ps bs) = nested_in_parts round ps ++ nested_in_branches round bs
