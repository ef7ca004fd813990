-- From points of the line to pairs of iterations.
use Rattle.std.proofs.Common.{◌≡◌, List, ◌++◌, sym, ap, subst, arith}
use Rattle.std.specs.Prelude.{ℤ, Some, FitsSigned}
use Rattle.std.proofs.lemmas.Int.{ints}
use mir.Syntax.{w64}
use Rattle.subscripts.specs.Classes.{Loop, Shared, First, Second, HasOneLoop, span_of}
use Rattle.subscripts.specs.Cuts.{IsLeastPair, IsNoLater}
use Rattle.subscripts.specs.Shapes.{IsPairing, AreDirsOf}
use Rattle.subscripts.specs.declared.affine.Dirs.{Dirs}
use Rattle.subscripts.specs.declared.pairing.Pairing.{Pairing}
use Rattle.dependence_tests.specs.loop_lines.line_points.Least.{WithinTrip, HasNone, IsLeast}
use Rattle.dependence_tests.specs.declared.loop_lines.line_points.points.Line.{Line}
use Rattle.dependence_tests.specs.loop_lines.OneLoop.{first_at, second_at, dir_of, first_point, second_point, HasSevenPlaces, IsLineOf, IsWithinPlaces}
use Rattle.dependence_tests.proofs.loop_lines.Crossings.{within_seven}
use Rattle.dependence_tests.proofs.loop_lines.Pairs.{pair_point, cut_point, point_pair, points_in_order}
use Rattle.dependence_tests.specs.siv_tests.Ways.{HasNone as HasNoneAtAll}

module _ (p : Pairing) (d : Dirs) (l : Loop) (line : Line) (trip : ℤ) (i : IsPairing p) (a : AreDirsOf p d) (n : HasSevenPlaces p d) (h : HasOneLoop p l) (e : IsLineOf p l line) (t : (span_of p l).last ≡ Some trip) where
  pub none_left : HasNone line trip (dir_of d l) → HasNoneAtAll p d
  none_left none = record {
    whole = λ x y r. let c = pair_point p d l line trip x y i n h e t r in none (first_at l x) (second_at l y) c.on c.within;
    cut_too = λ x y r. let c = cut_point p p d l line trip x y i i a n n h h e t r in none (first_at l x) (second_at l y) c.on c.within;
  }

  pub least_left : (x y : ℤ) → IsLeast line trip (dir_of d l) x y → IsLeastPair p d (first_point l x) (second_point l y)
  least_left x y m = record {
    pair = point_pair p p d l line trip x y i i a n n h h e t m.on m.within;
    least = λ x' y' r.
        let c = cut_point p p d l line trip x' y' i i a n n h h e t r in
        let o = points_in_order l trip x y (first_at l x') (second_at l y') (within_seven p l i h) m.within.first (ap (first_at l) (sym c.first)) (m.least (first_at l x') (second_at l y') c.on c.within) in
        subst (λ (z : List ℤ). IsNoLater (first_point l x ++ second_point l y) (z ++ y')) (sym c.first)
        (subst (λ (z : List ℤ). IsNoLater (first_point l x ++ second_point l y) (first_point l (first_at l x') ++ z)) (sym c.second) o);
  }

-- an iteration fits as the trip does
pub iteration_fits : (trip i : ℤ) → FitsSigned w64 trip → WithinTrip trip i → FitsSigned w64 i
iteration_fits trip i f w = omega (arith, ints, w.low, w.high)

pub within_places : (p : Pairing) (l : Loop) → IsPairing p → HasOneLoop p l → IsWithinPlaces l
within_places p (Shared k) i h = within_seven p (Shared k) i h
within_places p (First k) i h = h.matters.loop.1
within_places p (Second k) i h = h.matters.loop.1
