-- The conditions of the IFs of a nest, each in the loops round it.
use Rattle.std.specs.Prelude.{◌≡◌, ℕ, ◌≤◌, All, List, [], ◌∷◌, ◌++◌}
use Rattle.tree.specs.Plain.{Declaration, Expression}
use Rattle.tree.specs.declared.ops.Kind.TheVariants.{Logical}
use Rattle.meaning.specs.Depths.{depth_of}
use Rattle.meaning.specs.Reads.{names_in}
use Rattle.meaning.specs.Typed90.{IsScalar}
use Rattle.rewrite.specs.Making.{made}
use Rattle.linear_forms.specs.Canonical.{canonising}
use Rattle.nest.specs.Plain.{Loop, Part, Run, Turns, Choice, Label, Jump, Parts, no_parts, part}
use Rattle.nest.specs.Plain.{Branches, no_branches, branch}
use Rattle.nest_order.specs.runs.Touched.{IsPlain}
use Rattle.pass_laws.specs.prepared_nests.Loops.{variables_of_loops}
use Rattle.pass_laws.specs.prepared_nests.Statements.{IsOwn}

pub record StandingTest : Type 0 where
  pub loops : List Loop
  pub test : Expression

-- in the order of the text, under these loops
abbrev mutual
  pub tests_under : List Loop → Part → List StandingTest
  tests_under ls (Run s) = []
  tests_under ls (Turns l ps) = tests_in_parts (ls ++ l ∷ []) ps
  tests_under ls (Choice bs ps) = tests_in_branches ls bs ++ tests_in_parts ls ps
  tests_under ls (Label n) = []
  tests_under ls (Jump n) = []

  pub tests_in_parts : List Loop → Parts → List StandingTest
  tests_in_parts ls no_parts = []
  tests_in_parts ls (part p ps) = tests_under ls p ++ tests_in_parts ls ps

  pub tests_in_branches : List Loop → Branches → List StandingTest
  tests_in_branches ls no_branches = []
  tests_in_branches ls (branch test ps bs) =
      (record { loops = ls; test = test } ∷ tests_in_parts ls ps) ++ tests_in_branches ls bs

-- a scalar condition, which canonical text leaves as it is
pub record IsPreparedTest (es : List Declaration) (symbols : List (List ℕ)) (deepest : ℕ) (x : StandingTest)
    : Type 0 where
  pub plain : IsPlain x.test
  pub names : All (IsOwn x.loops) (names_in x.test)
  pub kind : IsScalar es x.test Logical
  pub deep : depth_of x.test ≤ deepest
  pub canonical : made (canonising (variables_of_loops x.loops) symbols) x.test ≡ x.test
