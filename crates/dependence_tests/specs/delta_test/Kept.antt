-- Pairs of iterations that keep the constraints on all loops.
use Rattle.std.specs.Prelude.{ℤ, List, All, slice_index_or}
use Rattle.subscripts.specs.Classes.{Loop, Shared, First, Second}
use Rattle.dependence_tests.specs.loop_lines.OneLoop.{first_at, second_at}
use Rattle.dependence_tests.specs.delta_test.Constraints.{Allows, IsConstraint}
use Rattle.dependence_tests.specs.declared.delta_test.constraint.Constraint.{Constraint}
use Rattle.dependence_tests.specs.declared.delta_test.constraint.Constraint.TheVariants.{Anywhere}
use Rattle.dependence_tests.specs.declared.delta_test.constraints.Constraints.{Constraints}

-- the constraint on a loop's two iterations
abbrev pub constraint_on : Constraints → Loop → Constraint
constraint_on c (Shared k) = slice_index_or c.shared k Anywhere
constraint_on c (First k) = slice_index_or c.first k Anywhere
constraint_on c (Second k) = slice_index_or c.second k Anywhere

-- iterations round either reference keep the constraint on each loop
abbrev pub AreKept : Constraints → List ℤ → List ℤ → Type 0
AreKept c x y = (l : Loop) → Allows (constraint_on c l) (first_at l x) (second_at l y)

-- constraints whose numbers are of the size that subscript pairs give
pub record AreConstraints (c : Constraints) : Type 0 where
  pub shared : All IsConstraint c.shared
  pub first : All IsConstraint c.first
  pub second : All IsConstraint c.second

-- where the constraints are kept, and so is one more on a loop, so are the others
abbrev pub IsKeptWith : Constraints → Loop → Constraint → Constraints → Type 0
IsKeptWith c l one more =
    (x y : List ℤ) → AreKept c x y → Allows one (first_at l x) (second_at l y) → AreKept more x y
