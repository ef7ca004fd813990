-- What is asked of the arms of block IFs, as the program has them.
use Rattle.std.specs.Prelude.{ℕ, Bool, List}
use Rattle.nest.specs.View.{Branch}
use Rattle.last_values.specs.declared.normal_forms.loops.NormalLoop.{NormalLoop}
use Rattle.last_values.specs.declared.behind.NestedLoop.{NestedLoop}
use Rattle.normal_loops.specs.Loops.{nested_in_parts}
use Rattle.normal_loops.specs.Normal.{are_normal}
use Rattle.nest.specs.Plain.{parts, Nest}
use Rattle.normal_loops.specs.Tests.{normal_test}
use Rattle.normal_loops.specs.Bodies.{normal_parts}

module _ (symbols : List (List ℕ)) where
  abbrev pub is_normal_branch : List NormalLoop → Branch → Bool
  is_normal_branch round b = are_normal symbols round b.body

  abbrev pub nested_in_branch : List NormalLoop → Branch → List NestedLoop
  nested_in_branch round b = nested_in_parts symbols round b.body

-- of the nest n with these loops
module _ (n : Nest) (ls : List NestedLoop) where
  -- an arm of a block IF
  abbrev pub normal_branch : List NormalLoop → Branch → Branch
  normal_branch round b =
      record { test = normal_test n.symbols round b.test; body = parts (normal_parts n ls round b.body) }
