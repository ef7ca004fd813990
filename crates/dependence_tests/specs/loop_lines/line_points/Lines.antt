-- Lines over the two iterations of one loop, and their whole points.
use Rattle.std.specs.Prelude.{◌≡◌, ℤ, pos, ◌+ℤ◌, ◌*ℤ◌, ◌≤◌, ◌^◌, unsigned_abs}
use Rattle.dependence_tests.specs.declared.loop_lines.line_points.points.Line.{Line}
use Rattle.dependence_tests.specs.declared.loop_lines.line_points.points.Points.{Points}

-- a line whose numbers are of a size that subscripts have
pub record IsLine (l : Line) : Type 0 where
  pub first : unsigned_abs l.first ≤ 2 ^ 44
  pub second : unsigned_abs l.second ≤ 2 ^ 44
  pub constant : unsigned_abs l.constant ≤ 2 ^ 44
  pub slanted : l.first ≡ pos 0 → l.second ≡ pos 0 → ⊥

pub record OnLine (l : Line) (i j : ℤ) : Type 0 where
  pub equal : l.first *ℤ i +ℤ l.second *ℤ j ≡ l.constant

abbrev pub HasNoPoint : Line → Type 0
HasNoPoint l = (i j : ℤ) → OnLine l i j → ⊥

pub record IsPointAt (p : Points) (s i j : ℤ) : Type 0 where
  pub i_is : i ≡ p.i +ℤ p.along_i *ℤ s
  pub j_is : j ≡ p.j +ℤ p.along_j *ℤ s

pub record ArePoints (l : Line) (p : Points) : Type 0 where
  pub on : (s i j : ℤ) → IsPointAt p s i j → OnLine l i j
  pub every : (i j : ℤ) → OnLine l i j → unsigned_abs i ≤ 2 ^ 64 → unsigned_abs j ≤ 2 ^ 64
      → (s : ℤ) × (IsPointAt p s i j × unsigned_abs s ≤ 2 ^ 110)
  pub apart : p.along_i ≡ pos 0 → p.along_j ≡ pos 0 → ⊥
  pub along_i : unsigned_abs p.along_i ≤ 2 ^ 44
  pub along_j : unsigned_abs p.along_j ≤ 2 ^ 44
  pub i : unsigned_abs p.i ≤ 2 ^ 90
  pub j : unsigned_abs p.j ≤ 2 ^ 90
