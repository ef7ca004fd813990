-- A constraint that leaves no iterations of its loop leaves none of the region.
use Rattle.std.proofs.Common.{◌≡◌, ℕ, ◌<◌, length, get_or, subst, arith, sym, Option, Some, None}
use Rattle.std.specs.Prelude.{ℤ, pos, ◌≤ℤ◌, IfSome}
use Rattle.std.proofs.lemmas.Int.{ints}
use Rattle.std.proofs.lemmas.List.{get_or_default}
use Rattle.dependence_tests.proofs.loop_lines.Indexed.{same_length, within_at, related_at}
use Rattle.subscripts.specs.Classes.{Shared, First, Second, at_place}
use Rattle.subscripts.specs.Iterations.{WithinSpan, once}
use Rattle.subscripts.specs.declared.affine.Dir.{Dir}
use Rattle.subscripts.specs.declared.affine.Dir.TheVariants.{Any}
use Rattle.subscripts.specs.declared.affine.Dirs.{Dirs}
use Rattle.subscripts.specs.declared.affine.Span.{Span}
use Rattle.subscripts.specs.declared.pairing.Pairing.{Pairing}
use Rattle.dependence_tests.specs.delta_test.IterationsLeft.{IsNoneUpTo}
use Rattle.dependence_tests.specs.delta_test.Kept.{constraint_on}
use Rattle.dependence_tests.specs.delta_test.Members.{LeavesNoRegion}
use Rattle.dependence_tests.specs.declared.delta_test.constraints.Constraints.{Constraints}

both_ends : (o : Option ℤ) (i j : ℤ) → IfSome o (λ n. i ≤ℤ n) → IfSome o (λ n. j ≤ℤ n) → IfSome o (λ n. (i ≤ℤ n) × (j ≤ℤ n))
both_ends None i j h k = tt
both_ends (Some n) i j h k = (h, k)

one_end : (o : Option ℤ) (i : ℤ) → pos 1 ≤ℤ i → IfSome o (λ n. i ≤ℤ n) → IfSome o (λ n. pos 1 ≤ℤ n)
one_end None i l h = tt
one_end (Some n) i l h = omega (arith, ints)

one_low : pos 1 ≤ℤ pos 1
one_low = omega (arith, ints)

shared : (c : Constraints) (p : Pairing) (d : Dirs) (k : ℕ) → k < length p.from_spans → k < length p.to_spans → k < length d.at → get_or p.from_spans k once ≡ get_or p.to_spans k once
    → IsNoneUpTo (constraint_on c (Shared k)) (get_or p.from_spans k once).last (get_or d.at k Any) → LeavesNoRegion c p d
shared c p d k f t n e h x y a r =
    let w = within_at p.from_spans x k r.from_within f in
    let v : WithinSpan (get_or p.from_spans k once) (at_place y k) = subst (λ (s : Span). WithinSpan s (at_place y k)) (sym e) (within_at p.to_spans y k r.to_within t) in
    h (at_place x k) (at_place y k) (a (Shared k)) w.low v.low (both_ends (get_or p.from_spans k once).last (at_place x k) (at_place y k) w.high v.high)
    (related_at d.at x y k r.related n (omega (arith, same_length p.from_spans x r.from_within)) (omega (arith, same_length p.to_spans y r.to_within)))

first : (c : Constraints) (p : Pairing) (d : Dirs) (k : ℕ) → k < length p.from_spans → IsNoneUpTo (constraint_on c (First k)) (get_or p.from_spans k once).last Any → LeavesNoRegion c p d
first c p d k f h x y a r =
    let w = within_at p.from_spans x k r.from_within f in
    h (at_place x k) (pos 1) (a (First k)) w.low one_low (both_ends (get_or p.from_spans k once).last (at_place x k) (pos 1) w.high (one_end (get_or p.from_spans k once).last (at_place x k) w.low w.high)) tt

second : (c : Constraints) (p : Pairing) (d : Dirs) (k : ℕ) → k < length p.to_spans → IsNoneUpTo (constraint_on c (Second k)) (get_or p.to_spans k once).last Any → LeavesNoRegion c p d
second c p d k f h x y a r =
    let w = within_at p.to_spans y k r.to_within f in
    h (pos 1) (at_place y k) (a (Second k)) one_low w.low (both_ends (get_or p.to_spans k once).last (pos 1) (at_place y k) (one_end (get_or p.to_spans k once).last (at_place y k) w.low w.high) w.high) tt

-- the same with any values past the ends of the lists
pub none_shared : (c : Constraints) (p : Pairing) (d : Dirs) (k : ℕ) (s : Span) (e : Dir) → k < length p.from_spans → k < length p.to_spans → k < length d.at → get_or p.from_spans k once ≡ get_or p.to_spans k once
    → IsNoneUpTo (constraint_on c (Shared k)) (get_or p.from_spans k s).last (get_or d.at k e) → LeavesNoRegion c p d
none_shared c p d k s e f t n o h =
    shared c p d k f t n o
    (subst (λ (z : Span). IsNoneUpTo (constraint_on c (Shared k)) z.last (get_or d.at k Any)) (get_or_default p.from_spans k s once f)
    (subst (λ (z : Dir). IsNoneUpTo (constraint_on c (Shared k)) (get_or p.from_spans k s).last z) (get_or_default d.at k e Any n) h))

pub none_first : (c : Constraints) (p : Pairing) (d : Dirs) (k : ℕ) (s : Span) → k < length p.from_spans → IsNoneUpTo (constraint_on c (First k)) (get_or p.from_spans k s).last Any → LeavesNoRegion c p d
none_first c p d k s f h = first c p d k f (subst (λ (z : Span). IsNoneUpTo (constraint_on c (First k)) z.last Any) (get_or_default p.from_spans k s once f) h)

pub none_second : (c : Constraints) (p : Pairing) (d : Dirs) (k : ℕ) (s : Span) → k < length p.to_spans → IsNoneUpTo (constraint_on c (Second k)) (get_or p.to_spans k s).last Any → LeavesNoRegion c p d
none_second c p d k s f h = second c p d k f (subst (λ (z : Span). IsNoneUpTo (constraint_on c (Second k)) z.last Any) (get_or_default p.to_spans k s once f) h)
