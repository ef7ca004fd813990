-- What is left of a reduced pairing.
use Rattle.std.specs.Prelude.{◌≡◌, ℕ, ℤ, pos, List, ◌-ℤ◌, ◌*ℤ◌}
use Rattle.dependence_tests.specs.loop_lines.line_points.Crossings.{IsSmallLine}
use Rattle.dependence_tests.specs.loop_lines.line_points.Lines.{OnLine}
use Rattle.dependence_tests.specs.declared.loop_lines.line_points.points.Line.{Line}
use Rattle.dependence_tests.specs.loop_lines.OneLoop.{IsWithinPlaces, first_at, second_at}
use Rattle.dependence_tests.specs.loop_lines.Places.{loop_at}
use Rattle.subscripts.specs.Classes.{Loop, Shared, First, Second, first_of, second_of}
use Rattle.subscripts.specs.declared.pairing.Pairing.{Pairing}
use Rattle.subscripts.specs.Forms.{over_loops}
use Rattle.dependence_tests.specs.delta_test.Reductions.{reduced_difference}
use Rattle.dependence_tests.specs.declared.delta_test.put.Reduced.{Reduced}
use Rattle.dependence_tests.specs.declared.delta_test.left.Left.{Left}
use Rattle.dependence_tests.specs.declared.delta_test.left.Left.TheVariants.{Constant, Along, More}

-- the loop alone adds to the difference of both sides
abbrev pub IsAlone : Pairing → Loop → Type 0
IsAlone p l =
    (x y : List ℤ)
    → (over_loops p.from.loops x -ℤ over_loops p.to.loops y)
    ≡ (first_of p l *ℤ first_at l x -ℤ second_of p l *ℤ second_at l y)

-- a loop that stands round one reference alone has no coefficient on the other side
abbrev pub IsOwnLine : Loop → Line → Type 0
IsOwnLine (Shared k) line = Unit {0}
IsOwnLine (First k) line = line.second ≡ pos 0
IsOwnLine (Second k) line = line.first ≡ pos 0

-- a line over a loop's two iterations, on which they lie wherever both sides are equal
pub record IsLeftLine (r : Reduced) (l : Loop) (line : Line) : Type 0 where
  pub place : IsWithinPlaces l
  pub small : IsSmallLine line
  pub own : IsOwnLine l line
  pub on :
      (v : ℕ → ℤ) (x y : List ℤ) → reduced_difference r v x y ≡ pos 0 → OnLine line (first_at l x) (second_at l y)

abbrev pub IsLeft : Reduced → Left → Type 0
IsLeft r (Constant c) = (v : ℕ → ℤ) (x y : List ℤ) → reduced_difference r v x y ≡ c
IsLeft r (Along at line) = IsLeftLine r (loop_at at) line
IsLeft r More = Unit {0}
