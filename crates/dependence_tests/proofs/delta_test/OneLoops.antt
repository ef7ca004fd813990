-- Pairs of iterations of a group of one loop, and the points that all lines share.
use Rattle.std.proofs.Common.{◌≡◌, ◌<◌, ◌↔◌, List, [], ◌∷◌, ◌++◌, length, map, get_or, refl, ap, subst, sym, arith}
use Rattle.std.specs.Prelude.{ℤ, Some, All, FitsSigned}
use Rattle.std.proofs.lemmas.Int.{ints}
use mir.Syntax.{w64}
use Rattle.std.proofs.lemmas.List.{get_or-map, length-map}
use Rattle.std.proofs.lemmas.List.Elements.{All-map}
use Rattle.subscripts.specs.Classes.{Loop, HasOneLoop, span_of}
use Rattle.subscripts.specs.Cuts.{cut, cut_dirs, IsNoLater}
use Rattle.subscripts.specs.Forms.{IsPairOf}
use Rattle.subscripts.specs.Groups.{IsPairOfAll}
use Rattle.subscripts.specs.Shapes.{IsPairing, AreDirsOf}
use Rattle.subscripts.specs.declared.affine.Dirs.{Dirs}
use Rattle.subscripts.specs.declared.pairing.Pairing.{Pairing}
use Rattle.dependence_tests.specs.loop_lines.line_points.Least.{WithinTrip, IsWithin}
use Rattle.dependence_tests.specs.loop_lines.OneLoop.{first_at, second_at, dir_of, first_point, second_point, HasSevenLists, HasSevenPlaces, IsLineOf}
use Rattle.dependence_tests.proofs.loop_lines.Crossings.{within_seven}
use Rattle.dependence_tests.proofs.loop_lines.Pairs.{pair_point, cut_point, point_pair, points_in_order, IsPointOfPair, IsPointOfCut}
use Rattle.dependence_tests.specs.delta_test.Constraints.{Allows}
use Rattle.dependence_tests.specs.delta_test.IterationsLeft.{IsNoneLeft, IsLeastLeft}
use Rattle.dependence_tests.specs.declared.delta_test.constraint.Constraint.{Constraint}
use Rattle.dependence_tests.specs.delta_test.Members.{AreMembers}
use Rattle.dependence_tests.specs.delta_test.Groups.{HasOneLoopOfAll, OnAllLines, HasNoneOfAll, IsLeastOfAll, line_at}

own_line : (p : Pairing) (l : Loop) → IsLineOf p l (line_at l p)
own_line p l = record { first = refl; second = refl; constant = refl }

pub with_dirs : (p : Pairing) (d : Dirs) → HasSevenLists p → length d.at ≡ 7 → HasSevenPlaces p d
with_dirs p d n e = record { from_loops = n.from_loops; to_loops = n.to_loops; from_spans = n.from_spans; to_spans = n.to_spans; dirs = e }

-- what is known of each member
pub record IsMemberOn (d : Dirs) (l : Loop) (trip : ℤ) (p : Pairing) : Type 0 where
  pub pairing : IsPairing p
  pub dirs : AreDirsOf p d
  pub places : HasSevenPlaces p d
  pub one : HasOneLoop p l
  pub ends : (span_of p l).last ≡ Some trip

pub members_on : (ps : List Pairing) (d : Dirs) (l : Loop) (trip : ℤ) → AreMembers ps d → HasOneLoopOfAll ps l → All HasSevenLists ps → length d.at ≡ 7 → All (λ p. (span_of p l).last ≡ Some trip) ps
    → All (IsMemberOn d l trip) ps
members_on ps d l trip m o n e t =
    λ k q h. record { pairing = m.pairings k q h; dirs = m.dirs k q h; places = with_dirs (get_or ps k q) d (n k q h) e; one = o k q h; ends = t k q h }

-- pairs of iterations of all give a point of all lines
pub all_points : (ps : List Pairing) (d : Dirs) (l : Loop) (trip : ℤ) (x y : List ℤ) → All (IsMemberOn d l trip) ps → IsPairOfAll ps d x y → All (λ p. IsPointOfPair l (line_at l p) trip (dir_of d l) x y) ps
all_points ps d l trip x y m r =
    λ k q h. let n = m k q h in pair_point (get_or ps k q) d l (line_at l (get_or ps k q)) trip x y n.pairing n.places n.one (own_line (get_or ps k q) l) n.ends (r k q h)

pub all_cut_points : (ps : List Pairing) (f : Pairing) (d : Dirs) (l : Loop) (trip : ℤ) (x y : List ℤ) → All (IsMemberOn d l trip) ps → IsMemberOn d l trip f → IsPairOfAll (map cut ps) (cut_dirs f d) x y
    → All (λ p. IsPointOfCut l (line_at l p) trip (dir_of d l) x y) ps
all_cut_points ps f d l trip x y m g r =
    λ k q h.
    let n = m k q h in
    let b : k < length (map cut ps) = rw length-map h in
    let c = subst (λ (z : Pairing). IsPairOf z (cut_dirs f d) x y) (get_or-map cut ps k q (cut q) h) (r k (cut q) b) in
    cut_point (get_or ps k q) f d l (line_at l (get_or ps k q)) trip x y n.pairing g.pairing g.dirs n.places g.places n.one g.one (own_line (get_or ps k q) l) n.ends c

pub all_pairs : (ps : List Pairing) (f : Pairing) (d : Dirs) (l : Loop) (trip i j : ℤ) → All (IsMemberOn d l trip) ps → IsMemberOn d l trip f → OnAllLines l ps i j → IsWithin trip (dir_of d l) i j
    → IsPairOfAll (map cut ps) (cut_dirs f d) (first_point l i) (second_point l j)
all_pairs ps f d l trip i j m g o w =
    All-map (λ p. IsPairOf p (cut_dirs f d) (first_point l i) (second_point l j)) cut ps
    (λ k q h. let n = m k q h in
    point_pair (get_or ps k q) f d l (line_at l (get_or ps k q)) trip i j n.pairing g.pairing g.dirs n.places g.places n.one g.one (own_line (get_or ps k q) l) n.ends (o k q h) w)

module _ (q : Pairing) (qs : List Pairing) (d : Dirs) (l : Loop) (trip : ℤ) (shared : Constraint) (m : All (IsMemberOn d l trip) (q ∷ qs)) (s : (i j : ℤ) → Allows shared i j ↔ OnAllLines l (q ∷ qs) i j) where
  first_member : IsMemberOn d l trip q
  first_member = m 0 q (omega arith)

  point_of : (x y : List ℤ) → IsPairOfAll (q ∷ qs) d x y → Allows shared (first_at l x) (second_at l y) × IsWithin trip (dir_of d l) (first_at l x) (second_at l y)
  point_of x y r =
      let a = all_points (q ∷ qs) d l trip x y m r in
      ((s (first_at l x) (second_at l y)).1 (λ k e h. (a k e h).on), (a 0 q (omega arith)).within)

  cut_point_of : (x y : List ℤ) → IsPairOfAll (map cut (q ∷ qs)) (cut_dirs q d) x y
      → (x ≡ first_point l (first_at l x)) × (y ≡ second_point l (second_at l y)) × Allows shared (first_at l x) (second_at l y) × IsWithin trip (dir_of d l) (first_at l x) (second_at l y)
  cut_point_of x y r =
      let a = all_cut_points (q ∷ qs) q d l trip x y m first_member r in
      let b = a 0 q (omega arith) in
      (b.first, b.second, (s (first_at l x) (second_at l y)).1 (λ k e h. (a k e h).on), b.within)

  cons_none : IsNoneLeft shared trip (dir_of d l) → HasNoneOfAll (q ∷ qs) d
  cons_none none = record {
    whole = λ x y r. let p = point_of x y r in none (first_at l x) (second_at l y) p.0 p.1;
    cut_too = λ x y r. let p = cut_point_of x y r in none (first_at l x) (second_at l y) p.2 p.3;
  }

  cons_least : (i j : ℤ) → IsLeastLeft shared trip (dir_of d l) i j → IsLeastOfAll (q ∷ qs) d (first_point l i) (second_point l j)
  cons_least i j b = record {
    pair = all_pairs (q ∷ qs) q d l trip i j m first_member ((s i j).0 b.left) b.within;
    least = λ x y r.
        let p = cut_point_of x y r in
        let o = points_in_order l trip i j (first_at l x) (second_at l y) (within_seven q l first_member.pairing first_member.one) b.within.first (ap (first_at l) (sym p.0)) (b.least (first_at l x) (second_at l y) p.2 p.3) in
        subst (λ (z : List ℤ). IsNoLater (first_point l i ++ second_point l j) (z ++ y)) (sym p.0)
        (subst (λ (z : List ℤ). IsNoLater (first_point l i ++ second_point l j) (first_point l (first_at l x) ++ z)) (sym p.1) o);
  }

pub none_of_all : (ps : List Pairing) (d : Dirs) (l : Loop) (trip : ℤ) (shared : Constraint) → 0 < length ps → All (IsMemberOn d l trip) ps → ((i j : ℤ) → Allows shared i j ↔ OnAllLines l ps i j)
    → IsNoneLeft shared trip (dir_of d l) → HasNoneOfAll ps d
none_of_all [] d l trip shared h m s none = absurd (omega arith)
none_of_all (q ∷ qs) d l trip shared h m s none = cons_none q qs d l trip shared m s none

pub least_of_all : (ps : List Pairing) (d : Dirs) (l : Loop) (trip : ℤ) (shared : Constraint) (i j : ℤ) → 0 < length ps → All (IsMemberOn d l trip) ps → ((i j : ℤ) → Allows shared i j ↔ OnAllLines l ps i j)
    → IsLeastLeft shared trip (dir_of d l) i j → IsLeastOfAll ps d (first_point l i) (second_point l j)
least_of_all [] d l trip shared i j h m s b = absurd (omega arith)
least_of_all (q ∷ qs) d l trip shared i j h m s b = cons_least q qs d l trip shared m s i j b

-- an iteration fits as the trip does
pub iteration_fits : (trip i : ℤ) → FitsSigned w64 trip → WithinTrip trip i → FitsSigned w64 i
iteration_fits trip i f w = omega (arith, ints, w.low, w.high)
