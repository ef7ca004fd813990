-- Pairs of iterations of a pairing that has one loop, and the points of its line.
use Rattle.std.proofs.Common.{◌≡◌, ◌⊎◌, ℕ, ◌<◌, List, [], ◌∷◌, ◌++◌, length, get_or, set, length-set, refl, ap, subst, sym, arith, ◌∙◌, inl, inr, zero, suc, ⊎_elim}
use Rattle.std.specs.Prelude.{ℤ, pos, ◌+ℤ◌, ◌-ℤ◌, ◌*ℤ◌, ◌≤ℤ◌, ◌<ℤ◌, Some}
use Rattle.std.proofs.Math.IntN.{zero-*ℤ}
use Rattle.std.proofs.lemmas.Int.{ints, by_lt_z}
use Rattle.std.proofs.lemmas.Bool.{cases_eq}
use Rattle.subscripts.specs.Classes.{Loop, Shared, First, Second, HasOneLoop, at_place, first_of, second_of, span_of}
use Rattle.subscripts.specs.Cuts.{cut, cut_dirs, IsNoLater}
use Rattle.subscripts.specs.Forms.{IsPairOf, IsInRegion, WithinSpans, AreRelated, difference}
use Rattle.subscripts.specs.Iterations.{WithinSpan, IsRelated, once}
use Rattle.subscripts.specs.Shapes.{IsPairing, AreDirsOf}
use Rattle.subscripts.specs.declared.affine.Dir.{Dir}
use Rattle.subscripts.specs.declared.affine.Dir.TheVariants.{Any}
use Rattle.subscripts.specs.declared.affine.Dirs.{Dirs}
use Rattle.subscripts.specs.declared.affine.Span.{Span}
use Rattle.subscripts.specs.declared.pairing.Pairing.{Pairing}
use Rattle.dependence_tests.proofs.loop_lines.LinePoints.Ring.{linear}
use Rattle.dependence_tests.specs.loop_lines.line_points.Least.{WithinTrip, IsWithin, IsAtMost}
use Rattle.dependence_tests.specs.loop_lines.line_points.Lines.{OnLine}
use Rattle.dependence_tests.specs.declared.loop_lines.line_points.points.Line.{Line}
use Rattle.dependence_tests.specs.loop_lines.OneLoop.{first_at, second_at, dir_of, ones, first_point, second_point, IsLineOf, HasSevenPlaces}
use Rattle.dependence_tests.proofs.loop_lines.Indexed.{same_length, within_at, within_from, related_at, related_from, mattering_length, asked_length}
use Rattle.dependence_tests.proofs.loop_lines.Crossings.{place_of, within_seven, difference_along, on_line, off_line}
use Rattle.dependence_tests.proofs.loop_lines.Cutting.{not_shared, not_first, not_second, from_once, to_once, from_kept, to_kept, other_any, own_dir, one_only, only_one, ones_at, ones_from, set_from, set_at, set_beside}

-- ---- from a pair to a point

pub on_the_line : (p : Pairing) (d : Dirs) (l : Loop) (line : Line) (v : ℕ → ℤ) (x y : List ℤ) → IsPairing p → HasSevenPlaces p d → HasOneLoop p l → IsLineOf p l line
    → length x ≡ 7 → length y ≡ 7 → difference p v x y ≡ pos 0 → OnLine line (first_at l x) (second_at l y)
on_the_line p d l line v x y i n h e ex ey z = record {
  equal = rw (e.first, e.second, e.constant)
      (on_line (first_of p l) (second_of p l) p.from.constant p.to.constant (first_at l x) (second_at l y) (sym (difference_along p d l v x y i n h ex ey) ∙ z));
}

within_trip : (s : Span) (trip i : ℤ) → s.last ≡ Some trip → WithinSpan s i → WithinTrip trip i
within_trip s trip i e w = record { low = w.low; high = rw e at w.high }

low_trip : (trip i : ℤ) → WithinTrip trip i → WithinTrip trip (pos 1)
low_trip trip i w = record { low = omega (arith, ints); high = omega (arith, ints, w.low, w.high) }

-- what a region says of the loop's iterations, by what it says at the loop's place
pub shared_within : (d : Dir) (fs ts : Span) (trip i j : ℤ) → fs.last ≡ Some trip → ts.last ≡ Some trip → WithinSpan fs i → WithinSpan ts j → IsRelated d i j → IsWithin trip d i j
shared_within d fs ts trip i j ef et wf wt r = record { first = within_trip fs trip i ef wf; second = within_trip ts trip j et wt; related = r }

pub first_within : (s : Span) (trip i : ℤ) → s.last ≡ Some trip → WithinSpan s i → IsWithin trip Any i (pos 1)
first_within s trip i e w = let t = within_trip s trip i e w in record { first = t; second = low_trip trip i t; related = tt }

pub second_within : (s : Span) (trip j : ℤ) → s.last ≡ Some trip → WithinSpan s j → IsWithin trip Any (pos 1) j
second_within s trip j e w = let t = within_trip s trip j e w in record { first = low_trip trip j t; second = t; related = tt }

-- of the pairing as it is
pub region_within : (p : Pairing) (d : Dirs) (l : Loop) (trip : ℤ) (x y : List ℤ) → IsPairing p → HasSevenPlaces p d → HasOneLoop p l → (span_of p l).last ≡ Some trip
    → IsInRegion p d x y → IsWithin trip (dir_of d l) (first_at l x) (second_at l y)
region_within p d (Shared k) trip x y i n h e r =
    let b : k < 7 = within_seven p (Shared k) i h in
    shared_within (dir_of d (Shared k)) (get_or p.from_spans k once) (get_or p.to_spans k once) trip (at_place x k) (at_place y k) e (ap (λ (s : Span). s.last) (sym (i.common_spans k h.matters.loop)) ∙ e)
    (within_at p.from_spans x k r.from_within (omega (arith, n.from_spans))) (within_at p.to_spans y k r.to_within (omega (arith, n.to_spans)))
    (related_at d.at x y k r.related (omega (arith, n.dirs)) (omega (arith, n.from_spans, same_length p.from_spans x r.from_within)) (omega (arith, n.to_spans, same_length p.to_spans y r.to_within)))
region_within p d (First k) trip x y i n h e r =
    first_within (get_or p.from_spans k once) trip (at_place x k) e (within_at p.from_spans x k r.from_within (omega (arith, n.from_spans, h.matters.loop.1)))
region_within p d (Second k) trip x y i n h e r =
    second_within (get_or p.to_spans k once) trip (at_place y k) e (within_at p.to_spans y k r.to_within (omega (arith, n.to_spans, h.matters.loop.1)))

-- a point on the line for each pair of the pairing
pub record IsPointOfPair (l : Loop) (line : Line) (trip : ℤ) (d : Dir) (x y : List ℤ) : Type 0 where
  pub on : OnLine line (first_at l x) (second_at l y)
  pub within : IsWithin trip d (first_at l x) (second_at l y)

pub pair_point : (p : Pairing) (d : Dirs) (l : Loop) (line : Line) (trip : ℤ) (x y : List ℤ) → IsPairing p → HasSevenPlaces p d → HasOneLoop p l → IsLineOf p l line
    → (span_of p l).last ≡ Some trip → IsPairOf p d x y → IsPointOfPair l line trip (dir_of d l) x y
pair_point p d l line trip x y i n h e t r = record {
  on = let q = r.equal h.known in
      on_the_line p d l line q.0 x y i n h e (same_length p.from_spans x r.region.from_within ∙ n.from_spans) (same_length p.to_spans y r.region.to_within ∙ n.to_spans) q.1;
  within = region_within p d l trip x y i n h t r.region;
}

-- ---- of the pairing cut to the loop

pub cut_places : (p q : Pairing) (d : Dirs) → HasSevenPlaces p d → HasSevenPlaces q d → HasSevenPlaces (cut p) (cut_dirs q d)
cut_places p q d n m = record {
  from_loops = n.from_loops;
  to_loops = n.to_loops;
  from_spans = mattering_length p.common p.from.loops p.to.loops p.from_spans (omega (arith, n.from_loops, n.from_spans)) (omega (arith, n.to_loops, n.from_spans)) ∙ n.from_spans;
  to_spans = mattering_length p.common p.to.loops p.from.loops p.to_spans (omega (arith, n.to_loops, n.to_spans)) (omega (arith, n.from_loops, n.to_spans)) ∙ n.to_spans;
  dirs = asked_length q.from.loops q.to.loops d.at (omega (arith, m.from_loops, m.dirs)) (omega (arith, m.to_loops, m.dirs)) ∙ m.dirs;
}

-- the spans of the cut pairing at the loop's place
own_from : (p : Pairing) (d : Dirs) (k : ℕ) (trip : ℤ) → HasSevenPlaces p d → k < 7 → (at_place p.from.loops k ≡ pos 0 → (k < p.common → at_place p.to.loops k ≡ pos 0) → ⊥)
    → (get_or p.from_spans k once).last ≡ Some trip → (get_or (cut p).from_spans k once).last ≡ Some trip
own_from p d k trip n b u e = ap (λ (s : Span). s.last) (from_kept p d k n b u) ∙ e

own_to : (p : Pairing) (d : Dirs) (k : ℕ) (trip : ℤ) → HasSevenPlaces p d → k < 7 → (at_place p.to.loops k ≡ pos 0 → (k < p.common → at_place p.from.loops k ≡ pos 0) → ⊥)
    → (get_or p.to_spans k once).last ≡ Some trip → (get_or (cut p).to_spans k once).last ≡ Some trip
own_to p d k trip n b u e = ap (λ (s : Span). s.last) (to_kept p d k n b u) ∙ e

pub cut_within : (p q : Pairing) (d : Dirs) (l : Loop) (trip : ℤ) (x y : List ℤ) → IsPairing p → IsPairing q → AreDirsOf q d → HasSevenPlaces p d → HasSevenPlaces q d → HasOneLoop p l → HasOneLoop q l
    → (span_of p l).last ≡ Some trip → IsInRegion (cut p) (cut_dirs q d) x y → IsWithin trip (dir_of d l) (first_at l x) (second_at l y)
cut_within p q d (Shared k) trip x y i j a n m h g e r =
    let b : k < 7 = within_seven p (Shared k) i h in
    let c = cut_places p q d n m in
    shared_within (dir_of d (Shared k)) (get_or (cut p).from_spans k once) (get_or (cut p).to_spans k once) trip (at_place x k) (at_place y k)
    (own_from p d k trip n b (λ z w. h.matters.some z (w h.matters.loop)) e)
    (own_to p d k trip n b (λ z w. h.matters.some (w h.matters.loop) z) (ap (λ (s : Span). s.last) (sym (i.common_spans k h.matters.loop)) ∙ e))
    (within_at (cut p).from_spans x k r.from_within (omega (arith, c.from_spans))) (within_at (cut p).to_spans y k r.to_within (omega (arith, c.to_spans)))
    (subst (λ (z : Dir). IsRelated z (at_place x k) (at_place y k)) (own_dir q d (Shared k) j a m g)
    (related_at (cut_dirs q d).at x y k r.related (omega (arith, c.dirs)) (omega (arith, c.from_spans, same_length (cut p).from_spans x r.from_within)) (omega (arith, c.to_spans, same_length (cut p).to_spans y r.to_within))))
cut_within p q d (First k) trip x y i j a n m h g e r =
    let c = cut_places p q d n m in
    first_within (get_or (cut p).from_spans k once) trip (at_place x k) (own_from p d k trip n h.matters.loop.1 (λ z w. h.matters.some z refl) e)
    (within_at (cut p).from_spans x k r.from_within (omega (arith, c.from_spans, h.matters.loop.1)))
cut_within p q d (Second k) trip x y i j a n m h g e r =
    let c = cut_places p q d n m in
    second_within (get_or (cut p).to_spans k once) trip (at_place y k) (own_to p d k trip n h.matters.loop.1 (λ z w. h.matters.some refl z) e)
    (within_at (cut p).to_spans y k r.to_within (omega (arith, c.to_spans, h.matters.loop.1)))

-- the iterations of the other loops are 1
pub once_at : (ss : List Span) (x : List ℤ) (m : ℕ) → length ss ≡ 7 → WithinSpans ss x → m < 7 → get_or ss m once ≡ once → get_or x m (pos 0) ≡ pos 1
once_at ss x m n w b e = one_only (get_or x m (pos 0)) (subst (λ (s : Span). WithinSpan s (get_or x m (pos 0))) e (within_at ss x m w (omega arith)))

pub cut_first : (p q : Pairing) (d : Dirs) (l : Loop) (x : List ℤ) → IsPairing p → HasSevenPlaces p d → HasSevenPlaces q d → HasOneLoop p l → WithinSpans (cut p).from_spans x → x ≡ first_point l (first_at l x)
cut_first p q d (Shared k) x i n m h w =
    let c = cut_places p q d n m in
    set_from x k (same_length (cut p).from_spans x w ∙ c.from_spans) (within_seven p (Shared k) i h)
    (λ o b u. once_at (cut p).from_spans x o c.from_spans w b (from_once p d (Shared k) o n h b (not_shared (Shared k) o u) (not_first (Shared k) o u)))
cut_first p q d (First k) x i n m h w =
    let c = cut_places p q d n m in
    set_from x k (same_length (cut p).from_spans x w ∙ c.from_spans) h.matters.loop.1
    (λ o b u. once_at (cut p).from_spans x o c.from_spans w b (from_once p d (First k) o n h b (not_shared (First k) o u) (not_first (First k) o u)))
cut_first p q d (Second k) x i n m h w =
    let c = cut_places p q d n m in
    ones_from x (same_length (cut p).from_spans x w ∙ c.from_spans)
    (λ o b. once_at (cut p).from_spans x o c.from_spans w b (from_once p d (Second k) o n h b (λ e. cc) (λ e. cc)))

pub cut_second : (p q : Pairing) (d : Dirs) (l : Loop) (y : List ℤ) → IsPairing p → HasSevenPlaces p d → HasSevenPlaces q d → HasOneLoop p l → WithinSpans (cut p).to_spans y → y ≡ second_point l (second_at l y)
cut_second p q d (Shared k) y i n m h w =
    let c = cut_places p q d n m in
    set_from y k (same_length (cut p).to_spans y w ∙ c.to_spans) (within_seven p (Shared k) i h)
    (λ o b u. once_at (cut p).to_spans y o c.to_spans w b (to_once p d (Shared k) o n h b (not_shared (Shared k) o u) (not_second (Shared k) o u)))
cut_second p q d (First k) y i n m h w =
    let c = cut_places p q d n m in
    ones_from y (same_length (cut p).to_spans y w ∙ c.to_spans)
    (λ o b. once_at (cut p).to_spans y o c.to_spans w b (to_once p d (First k) o n h b (λ e. cc) (λ e. cc)))
cut_second p q d (Second k) y i n m h w =
    let c = cut_places p q d n m in
    set_from y k (same_length (cut p).to_spans y w ∙ c.to_spans) h.matters.loop.1
    (λ o b u. once_at (cut p).to_spans y o c.to_spans w b (to_once p d (Second k) o n h b (not_shared (Second k) o u) (not_second (Second k) o u)))

pub record IsPointOfCut (l : Loop) (line : Line) (trip : ℤ) (d : Dir) (x y : List ℤ) : Type 0 where
  pub first : x ≡ first_point l (first_at l x)
  pub second : y ≡ second_point l (second_at l y)
  pub on : OnLine line (first_at l x) (second_at l y)
  pub within : IsWithin trip d (first_at l x) (second_at l y)

pub cut_point : (p q : Pairing) (d : Dirs) (l : Loop) (line : Line) (trip : ℤ) (x y : List ℤ) → IsPairing p → IsPairing q → AreDirsOf q d → HasSevenPlaces p d → HasSevenPlaces q d → HasOneLoop p l → HasOneLoop q l
    → IsLineOf p l line → (span_of p l).last ≡ Some trip → IsPairOf (cut p) (cut_dirs q d) x y → IsPointOfCut l line trip (dir_of d l) x y
cut_point p q d l line trip x y i j a n m h g e t r =
    let c = cut_places p q d n m in
    let u = r.equal h.known in record {
      first = cut_first p q d l x i n m h r.region.from_within;
      second = cut_second p q d l y i n m h r.region.to_within;
      on = on_the_line p d l line u.0 x y i n h e (same_length (cut p).from_spans x r.region.from_within ∙ c.from_spans) (same_length (cut p).to_spans y r.region.to_within ∙ c.to_spans) u.1;
      within = cut_within p q d l trip x y i j a n m h g t r.region;
    }

-- ---- from a point to a pair

span_within : (s : Span) (trip i : ℤ) → s.last ≡ Some trip → WithinTrip trip i → WithinSpan s i
span_within s trip i e w = record { low = w.low; high = rw e w.high }

once_within : (s : Span) (i : ℤ) → s ≡ once → i ≡ pos 1 → WithinSpan s i
once_within s i e f = rw (e, f) only_one

set_length : (k : ℕ) (i : ℤ) → length (set ones k i) ≡ 7
set_length k i = simp length-set

set_within : (ss : List Span) (k : ℕ) (trip i : ℤ) → length ss ≡ 7 → k < 7 → (get_or ss k once).last ≡ Some trip → ((m : ℕ) → m < 7 → (m ≡ k → ⊥) → get_or ss m once ≡ once)
    → WithinTrip trip i → WithinSpans ss (set ones k i)
set_within ss k trip i n b e o w =
    within_from ss (set ones k i) (set_length k i ∙ sym n)
    (λ m l. let c : m < 7 = omega arith in
    elim (cases_eq m k) [
      | inl s ↦ subst (λ (z : ℕ). WithinSpan (get_or ss z once) (at_place (set ones k i) z)) (sym s) (subst (λ (z : ℤ). WithinSpan (get_or ss k once) z) (sym (set_at k i b)) (span_within (get_or ss k once) trip i e w))
      | inr u ↦ once_within (get_or ss m once) (at_place (set ones k i) m) (o m c u) (set_beside k m i c u)
    ])

pub ones_within : (ss : List Span) → length ss ≡ 7 → ((m : ℕ) → m < 7 → get_or ss m once ≡ once) → WithinSpans ss ones
ones_within ss n o = within_from ss ones (sym n) (λ m l. let c : m < 7 = omega arith in once_within (get_or ss m once) (at_place ones m) (o m c) (ones_at m c))

from_within : (p q : Pairing) (d : Dirs) (l : Loop) (trip i : ℤ) → IsPairing p → HasSevenPlaces p d → HasSevenPlaces q d → HasOneLoop p l → (span_of p l).last ≡ Some trip → WithinTrip trip i
    → WithinSpans (cut p).from_spans (first_point l i)
from_within p q d (Shared k) trip i v n m h e w =
    let c = cut_places p q d n m in
    set_within (cut p).from_spans k trip i c.from_spans (within_seven p (Shared k) v h) (own_from p d k trip n (within_seven p (Shared k) v h) (λ z t. h.matters.some z (t h.matters.loop)) e)
    (λ o b u. from_once p d (Shared k) o n h b (not_shared (Shared k) o u) (not_first (Shared k) o u)) w
from_within p q d (First k) trip i v n m h e w =
    let c = cut_places p q d n m in
    set_within (cut p).from_spans k trip i c.from_spans h.matters.loop.1 (own_from p d k trip n h.matters.loop.1 (λ z t. h.matters.some z refl) e)
    (λ o b u. from_once p d (First k) o n h b (not_shared (First k) o u) (not_first (First k) o u)) w
from_within p q d (Second k) trip i v n m h e w =
    let c = cut_places p q d n m in
    ones_within (cut p).from_spans c.from_spans (λ o b. from_once p d (Second k) o n h b (λ t. cc) (λ t. cc))

to_within : (p q : Pairing) (d : Dirs) (l : Loop) (trip j : ℤ) → IsPairing p → HasSevenPlaces p d → HasSevenPlaces q d → HasOneLoop p l → (span_of p l).last ≡ Some trip → WithinTrip trip j
    → WithinSpans (cut p).to_spans (second_point l j)
to_within p q d (Shared k) trip j v n m h e w =
    let c = cut_places p q d n m in
    set_within (cut p).to_spans k trip j c.to_spans (within_seven p (Shared k) v h)
    (own_to p d k trip n (within_seven p (Shared k) v h) (λ z t. h.matters.some (t h.matters.loop) z) (ap (λ (s : Span). s.last) (sym (v.common_spans k h.matters.loop)) ∙ e))
    (λ o b u. to_once p d (Shared k) o n h b (not_shared (Shared k) o u) (not_second (Shared k) o u)) w
to_within p q d (First k) trip j v n m h e w =
    let c = cut_places p q d n m in
    ones_within (cut p).to_spans c.to_spans (λ o b. to_once p d (First k) o n h b (λ t. cc) (λ t. cc))
to_within p q d (Second k) trip j v n m h e w =
    let c = cut_places p q d n m in
    set_within (cut p).to_spans k trip j c.to_spans h.matters.loop.1 (own_to p d k trip n h.matters.loop.1 (λ z t. h.matters.some refl z) e)
    (λ o b u. to_once p d (Second k) o n h b (not_shared (Second k) o u) (not_second (Second k) o u)) w

any_related : (d : Dir) (i j : ℤ) → d ≡ Any → IsRelated d i j
any_related d i j e = subst (λ (z : Dir). IsRelated z i j) (sym e) tt

-- what is asked at the loop's own place
own_related : (d : Dirs) (l : Loop) (trip i j : ℤ) → place_of l < 7 → IsWithin trip (dir_of d l) i j → IsRelated (dir_of d l) (at_place (first_point l i) (place_of l)) (at_place (second_point l j) (place_of l))
own_related d (Shared k) trip i j b w = rw (set_at k i b, set_at k j b) w.related
own_related d (First k) trip i j b w = tt
own_related d (Second k) trip i j b w = tt

points_related : (q : Pairing) (d : Dirs) (l : Loop) (trip i j : ℤ) → IsPairing q → AreDirsOf q d → HasSevenPlaces q d → HasOneLoop q l → IsWithin trip (dir_of d l) i j
    → AreRelated (cut_dirs q d).at (first_point l i) (second_point l j)
points_related q d l trip i j v a m g w =
    related_from (cut_dirs q d).at (first_point l i) (second_point l j)
    (λ o lt. let b : o < 7 = omega (arith, asked_length q.from.loops q.to.loops d.at (omega (arith, m.from_loops, m.dirs)) (omega (arith, m.to_loops, m.dirs)), m.dirs) in
    elim (cases_eq o (place_of l)) [
      | inl s ↦ subst (λ (z : ℕ). IsRelated (get_or (cut_dirs q d).at z Any) (at_place (first_point l i) z) (at_place (second_point l j) z)) (sym s)
          (subst (λ (z : Dir). IsRelated z (at_place (first_point l i) (place_of l)) (at_place (second_point l j) (place_of l))) (sym (own_dir q d l v a m g)) (own_related d l trip i j (within_seven q l v g) w))
      | inr u ↦ any_related (get_or (cut_dirs q d).at o Any) (at_place (first_point l i) o) (at_place (second_point l j) o) (other_any q d l o m g b u)
    ])

-- a side's coefficient times its iteration
first_kept : (p : Pairing) (l : Loop) (i : ℤ) → place_of l < 7 → first_of p l *ℤ first_at l (first_point l i) ≡ first_of p l *ℤ i
first_kept p (Shared k) i b = ap (λ (z : ℤ). at_place p.from.loops k *ℤ z) (set_at k i b)
first_kept p (First k) i b = ap (λ (z : ℤ). at_place p.from.loops k *ℤ z) (set_at k i b)
first_kept p (Second k) i b = sym (zero-*ℤ i)

second_kept : (p : Pairing) (l : Loop) (j : ℤ) → place_of l < 7 → second_of p l *ℤ second_at l (second_point l j) ≡ second_of p l *ℤ j
second_kept p (Shared k) j b = ap (λ (z : ℤ). at_place p.to.loops k *ℤ z) (set_at k j b)
second_kept p (First k) j b = sym (zero-*ℤ j)
second_kept p (Second k) j b = ap (λ (z : ℤ). at_place p.to.loops k *ℤ z) (set_at k j b)

first_long : (l : Loop) (i : ℤ) → length (first_point l i) ≡ 7
first_long (Shared k) i = set_length k i
first_long (First k) i = set_length k i
first_long (Second k) i = refl

second_long : (l : Loop) (j : ℤ) → length (second_point l j) ≡ 7
second_long (Shared k) j = set_length k j
second_long (First k) j = refl
second_long (Second k) j = set_length k j

no_difference : (p : Pairing) (d : Dirs) (l : Loop) (line : Line) (v : ℕ → ℤ) (i j : ℤ) → IsPairing p → HasSevenPlaces p d → HasOneLoop p l → IsLineOf p l line → OnLine line i j
    → difference p v (first_point l i) (second_point l j) ≡ pos 0
no_difference p d l line v i j w n h e o =
    let b = within_seven p l w h in
    let f : first_of p l *ℤ i +ℤ (pos 0 -ℤ second_of p l) *ℤ j ≡ p.to.constant -ℤ p.from.constant =
    ap (λ (z : ℤ). z *ℤ i +ℤ (pos 0 -ℤ second_of p l) *ℤ j) (sym e.first) ∙ ap (λ (z : ℤ). line.first *ℤ i +ℤ z *ℤ j) (sym e.second) ∙ o.equal ∙ e.constant in
    difference_along p d l v (first_point l i) (second_point l j) w n h (first_long l i) (second_long l j)
    ∙ ap (λ (z : ℤ). (z -ℤ second_of p l *ℤ second_at l (second_point l j)) +ℤ (p.from.constant -ℤ p.to.constant)) (first_kept p l i b)
    ∙ ap (λ (z : ℤ). (first_of p l *ℤ i -ℤ z) +ℤ (p.from.constant -ℤ p.to.constant)) (second_kept p l j b)
    ∙ off_line (first_of p l) (second_of p l) p.from.constant p.to.constant i j f

pub point_pair : (p q : Pairing) (d : Dirs) (l : Loop) (line : Line) (trip i j : ℤ) → IsPairing p → IsPairing q → AreDirsOf q d → HasSevenPlaces p d → HasSevenPlaces q d → HasOneLoop p l → HasOneLoop q l
    → IsLineOf p l line → (span_of p l).last ≡ Some trip → OnLine line i j → IsWithin trip (dir_of d l) i j → IsPairOf (cut p) (cut_dirs q d) (first_point l i) (second_point l j)
point_pair p q d l line trip i j v u a n m h g e t o w = record {
  region = record {
    from_within = from_within p q d l trip i v n m h t w.first;
    to_within = to_within p q d l trip j v n m h t w.second;
    related = points_related q d l trip i j u a m g w;
  };
  equal = λ k. ((λ s. pos 0), no_difference p d l line (λ s. pos 0) i j v n h e o);
}

-- ---- the least one

before_or : (i i' : ℤ) → i ≤ℤ i' → (i <ℤ i') ⊎ (i ≡ i')
before_or i i' h = by_lt_z i i' (λ b. inl b) (λ k. inr (omega (arith, linear)))

prefix_no_later : (xs ys zs : List ℤ) → IsNoLater ys zs → IsNoLater (xs ++ ys) (xs ++ zs)
prefix_no_later [] ys zs h = h
prefix_no_later (x ∷ xs) ys zs h = inr (refl, prefix_no_later xs ys zs h)

pub itself_no_later : (xs : List ℤ) → IsNoLater xs xs
itself_no_later [] = tt
itself_no_later (x ∷ xs) = inr (refl, itself_no_later xs)

set_no_later : (xs : List ℤ) (k : ℕ) (i i' : ℤ) (ys zs : List ℤ) → k < length xs → (i <ℤ i') ⊎ ((i ≡ i') × IsNoLater ys zs) → IsNoLater (set xs k i ++ ys) (set xs k i' ++ zs)
set_no_later [] k i i' ys zs b h = absurd (omega arith)
set_no_later (x ∷ xs) zero i i' ys zs b h = ⊎_elim (λ l. inl l) (λ e. inr (e.0, prefix_no_later xs ys zs e.1)) h
set_no_later (x ∷ xs) (suc k) i i' ys zs b h = inr (refl, set_no_later xs k i i' ys zs (omega arith) h)

last_no_later : (xs : List ℤ) (k : ℕ) (i i' : ℤ) → k < length xs → i ≤ℤ i' → IsNoLater (set xs k i) (set xs k i')
last_no_later [] k i i' b h = absurd (omega arith)
last_no_later (x ∷ xs) zero i i' b h = ⊎_elim (λ l. inl l) (λ e. inr (e, itself_no_later xs)) (before_or i i' h)
last_no_later (x ∷ xs) (suc k) i i' b h = inr (refl, last_no_later xs k i i' (omega arith) h)

pub points_in_order : (l : Loop) (trip i j i' j' : ℤ) → place_of l < 7 → WithinTrip trip i → first_at l (first_point l i') ≡ i' → IsAtMost i j i' j'
    → IsNoLater (first_point l i ++ second_point l j) (first_point l i' ++ second_point l j')
points_in_order (Shared k) trip i j i' j' b w s h =
    set_no_later ones k i i' (set ones k j) (set ones k j') b (⊎_elim (λ f. inl f) (λ e. inr (e.0, last_no_later ones k j j' b e.1)) h)
points_in_order (First k) trip i j i' j' b w s h =
    set_no_later ones k i i' ones ones b (⊎_elim (λ f. inl f) (λ e. inr (e.0, itself_no_later ones)) h)
points_in_order (Second k) trip i j i' j' b w s h =
    prefix_no_later ones (set ones k j) (set ones k j') (last_no_later ones k j j' b (⊎_elim (λ f. absurd (omega (arith, ints, w.low))) (λ e. e.1) h))
