-- The parts of a nest with loops from 1 by 1.
use Rattle.std.specs.Prelude.{Option, Some, None, if◌then◌else◌, List, [], ◌∷◌, ◌++◌, length}
use Rattle.nest.specs.Plain.{Loop, Part, Run, Turns, Choice, Label, Jump, Parts, no_parts, part, parts, Branches}
use Rattle.nest.specs.Plain.{no_branches, branch, Nest}
use Rattle.last_values.specs.normal_forms.NormalLoops.{normal_loop}
use Rattle.last_values.specs.declared.normal_forms.loops.NormalLoop.{NormalLoop}
use Rattle.last_values.specs.Behind.{stands_behind}
use Rattle.last_values.specs.PartsInPlace.{parts_before, parts_behind}
use Rattle.last_values.specs.declared.behind.NestedLoop.{NestedLoop}
use Rattle.normal_loops.specs.Loops.{with_loop}
use Rattle.normal_loops.specs.Values.{normal_statement}
use Rattle.normal_loops.specs.Tests.{normal_test}
use Rattle.normal_loops.specs.Counting.{counting}

-- of the nest n with these loops
module _ (n : Nest) (ls : List NestedLoop) where
  -- a loop, with its variable's last value where this stands in place
  abbrev pub placed_loop : List NormalLoop → NormalLoop → Part → List Part
  placed_loop round r p =
      if stands_behind (length n.symbols) ls n.body r.variable then p ∷ []
      else parts_before n.symbols n.line round r ++ p ∷ parts_behind n.symbols n.line round r

  -- a loop with these parts; one without a form from 1 by 1 stays
  abbrev pub normal_turns : List NormalLoop → Loop → Option NormalLoop → List Part → List Part
  normal_turns round l None ps = Turns l (parts ps) ∷ []
  normal_turns round l (Some r) ps = placed_loop round r (Turns (counting n.symbols round l r) (parts ps))

  -- what stands for a part under these loops
  abbrev mutual
    pub normal_part : List NormalLoop → Part → List Part
    normal_part round (Run s) = Run (normal_statement n.symbols round s) ∷ []
    normal_part round (Turns l ps) =
        normal_turns round l (normal_loop n.symbols round l)
        (normal_parts (with_loop round (normal_loop n.symbols round l)) ps)
    normal_part round (Choice bs ps) = Choice (normal_branches round bs) (parts (normal_parts round ps)) ∷ []
    normal_part round (Label k) = Label k ∷ []
    normal_part round (Jump k) = Jump k ∷ []

    pub normal_parts : List NormalLoop → Parts → List Part
    normal_parts round no_parts = []
    normal_parts round (part p ps) = normal_part round p ++ normal_parts round ps

    pub normal_branches : List NormalLoop → Branches → Branches
    normal_branches round no_branches = no_branches
    normal_branches round (branch test ps bs) =
        branch (normal_test n.symbols round test) (parts (normal_parts round ps)) (normal_branches round bs)
