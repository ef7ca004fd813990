-- The points that two lines share.
use Rattle.std.specs.Prelude.{◌≡◌, ℤ, pos, ◌≤◌, ◌^◌, ◌↔◌, unsigned_abs}
use Rattle.dependence_tests.specs.declared.loop_lines.line_points.points.Line.{Line}
use Rattle.dependence_tests.specs.loop_lines.line_points.Lines.{OnLine}
use Rattle.dependence_tests.specs.declared.loop_lines.line_points.crossing.Crossing.{Crossing}
use Rattle.dependence_tests.specs.declared.loop_lines.line_points.crossing.Crossing.TheVariants.{Nowhere, At}
use Rattle.dependence_tests.specs.declared.loop_lines.line_points.crossing.Crossing.TheVariants.{Everywhere}

-- a line whose numbers are those of a subscript pair
pub record IsSmallLine (l : Line) : Type 0 where
  pub first : unsigned_abs l.first ≤ 2 ^ 41
  pub second : unsigned_abs l.second ≤ 2 ^ 41
  pub constant : unsigned_abs l.constant ≤ 2 ^ 41
  pub slanted : l.first ≡ pos 0 → l.second ≡ pos 0 → ⊥

abbrev pub Meet : Line → Line → Crossing → Type 0
Meet l m Nowhere = (i j : ℤ) → OnLine l i j → OnLine m i j → ⊥
Meet l m (At x y) =
    ((i j : ℤ) → (OnLine l i j × OnLine m i j) ↔ ((i ≡ x) × (j ≡ y)))
    × (unsigned_abs x ≤ 2 ^ 83) × (unsigned_abs y ≤ 2 ^ 83)
Meet l m Everywhere = (i j : ℤ) → OnLine l i j ↔ OnLine m i j
