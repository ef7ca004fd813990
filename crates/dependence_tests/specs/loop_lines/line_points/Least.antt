-- The least pair of iterations of one loop that a line and a direction leave.
use Rattle.std.specs.Prelude.{◌≡◌, ℤ, pos, ◌+ℤ◌, ◌*ℤ◌, ◌≤ℤ◌, ◌<ℤ◌, ◌⊎◌}
use Rattle.subscripts.specs.Iterations.{IsRelated}
use Rattle.subscripts.specs.declared.affine.Dir.{Dir}
use Rattle.dependence_tests.specs.declared.loop_lines.line_points.points.Line.{Line}
use Rattle.dependence_tests.specs.declared.loop_lines.line_points.points.Points.{Points}
use Rattle.dependence_tests.specs.loop_lines.line_points.Lines.{OnLine}

-- from one to the trip
pub record WithinTrip (trip i : ℤ) : Type 0 where
  pub low : pos 1 ≤ℤ i
  pub high : i ≤ℤ trip

-- two iterations from 1 to the trip, related so
pub record IsWithin (trip : ℤ) (d : Dir) (i j : ℤ) : Type 0 where
  pub first : WithinTrip trip i
  pub second : WithinTrip trip j
  pub related : IsRelated d i j

-- the first iteration is the lesser one, or they are equal and the second isn't the greater one
abbrev pub IsAtMost : ℤ → ℤ → ℤ → ℤ → Type 0
IsAtMost i j i' j' = (i <ℤ i') ⊎ ((i ≡ i') × (j ≤ℤ j'))

-- the point of a number is related so, is a pair of iterations, is no later than that of another number
abbrev pub IsRelatedAt : Points → Dir → ℤ → Type 0
IsRelatedAt p d s = IsRelated d (p.i +ℤ p.along_i *ℤ s) (p.j +ℤ p.along_j *ℤ s)

abbrev pub IsWithinAt : Points → ℤ → Dir → ℤ → Type 0
IsWithinAt p trip d s = IsWithin trip d (p.i +ℤ p.along_i *ℤ s) (p.j +ℤ p.along_j *ℤ s)

abbrev pub IsAtMostAt : Points → ℤ → ℤ → Type 0
IsAtMostAt p r s =
    IsAtMost (p.i +ℤ p.along_i *ℤ r) (p.j +ℤ p.along_j *ℤ r) (p.i +ℤ p.along_i *ℤ s) (p.j +ℤ p.along_j *ℤ s)

abbrev pub HasNone : Line → ℤ → Dir → Type 0
HasNone l trip d = (i j : ℤ) → OnLine l i j → IsWithin trip d i j → ⊥

pub record IsLeast (l : Line) (trip : ℤ) (d : Dir) (i j : ℤ) : Type 0 where
  pub on : OnLine l i j
  pub within : IsWithin trip d i j
  pub least : (i' j' : ℤ) → OnLine l i' j' → IsWithin trip d i' j' → IsAtMost i j i' j'
