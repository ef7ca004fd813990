-- Conditions in loops from 1 by 1: in them the variables of the loops have become linear forms of the counters.
use Rattle.std.specs.Prelude.{ℕ, List, [], ◌∷◌, ◌++◌}
use Rattle.tree.specs.Plain.{Expression}
use Rattle.rewrite.specs.Making.{made}
use Rattle.last_values.specs.declared.normal_forms.loops.NormalLoop.{NormalLoop}
use Rattle.normal_loops.specs.Values.{in_text, with_value}

module _ (symbols : List (List ℕ)) where
  abbrev pub test_with_values : List NormalLoop → List NormalLoop → Expression → Expression
  test_with_values outer [] e = e
  test_with_values outer (r ∷ rs) e = test_with_values (outer ++ r ∷ []) rs (made (with_value symbols outer r) e)

  -- a condition of an IF in these loops
  unfoldable pub normal_test : List NormalLoop → Expression → Expression
  normal_test round e = made (in_text symbols round) (test_with_values [] round e)
