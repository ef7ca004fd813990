-- The least pair of iterations that a constraint leaves.
use Rattle.std.specs.Prelude.{ℤ, pos, Option, IfSome, ◌≤ℤ◌}
use Rattle.subscripts.specs.Iterations.{IsRelated}
use Rattle.subscripts.specs.declared.affine.Dir.{Dir}
use Rattle.dependence_tests.specs.loop_lines.line_points.Least.{IsWithin, IsAtMost}
use Rattle.dependence_tests.specs.declared.delta_test.constraint.Constraint.{Constraint}
use Rattle.dependence_tests.specs.delta_test.Constraints.{Allows}

abbrev pub IsNoneLeft : Constraint → ℤ → Dir → Type 0
IsNoneLeft c trip d = (i j : ℤ) → Allows c i j → IsWithin trip d i j → ⊥

-- none up to the last iteration, if that is known
abbrev pub IsNoneUpTo : Constraint → Option ℤ → Dir → Type 0
IsNoneUpTo c last d =
    (i j : ℤ) → Allows c i j → pos 1 ≤ℤ i → pos 1 ≤ℤ j → IfSome last (λ n. (i ≤ℤ n) × (j ≤ℤ n)) → IsRelated d i j → ⊥

pub record IsLeastLeft (c : Constraint) (trip : ℤ) (d : Dir) (i j : ℤ) : Type 0 where
  pub left : Allows c i j
  pub within : IsWithin trip d i j
  pub least : (i' j' : ℤ) → Allows c i' j' → IsWithin trip d i' j' → IsAtMost i j i' j'
