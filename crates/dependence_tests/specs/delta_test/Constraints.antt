-- Constraints on the two iterations of one loop.
use Rattle.std.specs.Prelude.{◌≡◌, ℤ, ◌+ℤ◌, ◌≤◌, ◌^◌, ◌↔◌, unsigned_abs}
use Rattle.dependence_tests.specs.loop_lines.line_points.Lines.{OnLine}
use Rattle.dependence_tests.specs.loop_lines.line_points.Crossings.{IsSmallLine}
use Rattle.dependence_tests.specs.declared.delta_test.constraint.Constraint.{Constraint}
use Rattle.dependence_tests.specs.declared.delta_test.constraint.Constraint.TheVariants.{Anywhere, AtPoint, AtDistance}
use Rattle.dependence_tests.specs.declared.delta_test.constraint.Constraint.TheVariants.{AlongLine, Nowhere}

-- the two iterations that a constraint leaves
abbrev pub Allows : Constraint → ℤ → ℤ → Type 0
Allows Anywhere i j = Unit {0}
Allows (AtPoint x y) i j = (i ≡ x) × (j ≡ y)
Allows (AtDistance d) i j = j ≡ i +ℤ d
Allows (AlongLine l) i j = OnLine l i j
Allows Nowhere i j = ⊥

-- a constraint whose numbers are of the size that subscript pairs give
abbrev pub IsConstraint : Constraint → Type 0
IsConstraint Anywhere = Unit {0}
IsConstraint (AtPoint x y) = (unsigned_abs x ≤ 2 ^ 83) × (unsigned_abs y ≤ 2 ^ 83)
IsConstraint (AtDistance d) = unsigned_abs d ≤ 2 ^ 41
IsConstraint (AlongLine l) = IsSmallLine l
IsConstraint Nowhere = Unit {0}

-- what is left is what both leave
abbrev pub IsMeet : Constraint → Constraint → Constraint → Type 0
IsMeet x y z = (i j : ℤ) → Allows z i j ↔ (Allows x i j × Allows y i j)
