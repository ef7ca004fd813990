-- Separable pairs, and groups with their members.
use Rattle.std.proofs.Common.{◌≡◌, ℕ, ◌+◌, ◌<◌, ◌≤◌, ◌⊎◌, List, [], ◌∷◌, ◌++◌, length, map, get_or, take, zero, suc, refl, ap, subst, sym, arith, ◌∙◌, inl, inr, Bool, true, false, cond}
use Rattle.std.specs.Prelude.{ℤ, pos, ◌+ℤ◌, ◌-ℤ◌, ◌*ℤ◌, All, IsTrue, IsSome, Option, Some, None, nat_eq, slice_get, slice_index}
use Rattle.std.proofs.lemmas.Bool.{both_ways, false≢true, cases_Bool, cases_eq, cases_lt, eq-eqb, ne_eqb}
use Rattle.std.proofs.lemmas.Int.{ints}
use Rattle.std.proofs.lemmas.List.{length-take}
use Rattle.std.proofs.lemmas.List.Elements.{All-nil, All-cons, All-head, All-tail}
use Rattle.std.proofs.lemmas.Option.{get_or_from_slice_get, slice_get-get_or, slice_get_within}
use Rattle.subscripts.specs.Classes.{Loop, Shared, First, Second, HasOneLoop, IsZiv, first_of, second_of, span_of}
use Rattle.subscripts.specs.Cuts.{cut, cut_dirs}
use Rattle.subscripts.specs.Forms.{IsPairOf}
use Rattle.subscripts.specs.Groups.{IsExactGroup, IsPairOfAll, group_dirs}
use Rattle.subscripts.specs.Iterations.{WithinSpan, once}
use Rattle.subscripts.specs.Partitions.{AreCoupled, AreGrouped, IsChain, IsPartition}
use Rattle.subscripts.specs.Shapes.{AreDirsOf, IsBeside, IsGroup, IsPairing, members}
use Rattle.subscripts.specs.declared.affine.Dirs.{Dirs}
use Rattle.subscripts.specs.declared.affine.Span.{Span}
use Rattle.subscripts.specs.declared.pairing.Group.{Group}
use Rattle.subscripts.specs.declared.pairing.Pairing.{Pairing}
use Rattle.subscripts.proofs.Coupling.{alone, grouped_back, then}
use Rattle.dependence_tests.proofs.loop_lines.LinePoints.Ring.{linear}
use Rattle.dependence_tests.specs.loop_lines.line_points.Least.{WithinTrip, IsWithin}
use Rattle.dependence_tests.specs.loop_lines.line_points.Lines.{OnLine}
use Rattle.dependence_tests.proofs.loop_lines.Crossings.{off_line, on_line, within_seven}
use Rattle.dependence_tests.proofs.loop_lines.Pairs.{IsPointOfCut, cut_point}
use Rattle.dependence_tests.specs.loop_lines.OneLoop.{HasSevenLists, HasSevenPlaces, IsLineOf, dir_of, first_at, second_at}
use Rattle.dependence_tests.specs.delta_test.Members.{HasNoPairOfAll}
use Rattle.dependence_tests.proofs.delta_test.OneLoops.{IsMemberOn, all_cut_points}
use Rattle.dependence_tests.specs.delta_test.Groups.{line_at}
use Rattle.direction_vectors.specs.vector_tests.Places.{HasExactLoop, IsGroupLeft, IsLeft, IsOneLeft, picked}
use Rattle.direction_vectors.specs.vector_tests.Ways.{AreEqualAt, EachGrouped, IsSolution}
use Rattle.direction_vectors.specs.vector_tests.Words.{IsSeparable}

-- ---- separable pairs

alone_along : (ps : List Pairing) (i : ℕ) (ks : List ℕ) (j : ℕ) → IsSeparable ps i → IsChain ps i ks j → j ≡ i
alone_along ps i [] j s h = sym h
alone_along ps i (k ∷ ks) j s h = alone_along ps i ks j s (subst (λ (n : ℕ). IsChain ps n ks j) (s k h.0) h.1)

pub group_of_one : (ps : List Pairing) (i j : ℕ) → IsSeparable ps i → AreGrouped ps i j → j ≡ i
group_of_one ps i j s g = alone_along ps i g.0 j s g.1

-- each member of a group of several is coupled with others
pub not_alone : (ps : List Pairing) (i j : ℕ) → (IsSeparable ps i → ⊥) → AreGrouped ps i j → IsSeparable ps j → ⊥
not_alone ps i j n g s = n (subst (λ (k : ℕ). IsSeparable ps k) (sym (group_of_one ps j i s (grouped_back ps i j g))) s)

pub same_pairing : (ps : List Pairing) (i : ℕ) (p q : Pairing) → slice_get ps i ≡ Some p → slice_get ps i ≡ Some q → p ≡ q
same_pairing ps i p q e f = sym (get_or_from_slice_get ps i p p e) ∙ get_or_from_slice_get ps i q p f

pub first_is : (ps : List Pairing) (i j : ℕ) (p : Pairing) (h : AreCoupled ps i j) → slice_get ps i ≡ Some p → h.first ≡ p
first_is ps i j p h e = same_pairing ps i h.first p h.at_first e

pub coupled_linear : (ps : List Pairing) (i : ℕ) (p : Pairing) → (IsSeparable ps i → ⊥) → slice_get ps i ≡ Some p → IsTrue p.known
coupled_linear ps i p n e =
    elim (cases_Bool p.known) [
      | inl t ↦ t
      | inr f ↦ absurd (n (λ j h. absurd (both_ways p.known f (subst (λ (q : Pairing). IsTrue q.known) (first_is ps i j p h e) h.shares.first_known))))
    ]

pub coupled_not_ziv : (ps : List Pairing) (i : ℕ) (p : Pairing) → (IsSeparable ps i → ⊥) → slice_get ps i ≡ Some p → IsZiv p → ⊥
coupled_not_ziv ps i p n e z =
    n (λ j h. let g : IsZiv h.first = subst IsZiv (sym (first_is ps i j p h e)) z in absurd (g.none h.shares.loop h.shares.first))

-- ---- the members of a group

as_picked : (P : Pairing → Type 0) (n m : ℕ) (ns : List ℕ) (p : Pairing) (ps : List Pairing) (b : Bool) → nat_eq m n ≡ b → All P (cond b (p ∷ picked n ns ps) (picked n ns ps)) → All P (picked n (m ∷ ns) (p ∷ ps))
as_picked P n m ns p ps b e a = subst (λ (c : Bool). All P (cond c (p ∷ picked n ns ps) (picked n ns ps))) (sym e) a

of_picked : (P : Pairing → Type 0) (n m : ℕ) (ns : List ℕ) (p : Pairing) (ps : List Pairing) (b : Bool) → nat_eq m n ≡ b → All P (picked n (m ∷ ns) (p ∷ ps)) → All P (cond b (p ∷ picked n ns ps) (picked n ns ps))
of_picked P n m ns p ps b e a = subst (λ (c : Bool). All P (cond c (p ∷ picked n ns ps) (picked n ns ps))) e a

pub all_picked : (P : Pairing → Type 0) (n : ℕ) (ns : List ℕ) (ps : List Pairing) → ((k : ℕ) (q : Pairing) → k < length ps → get_or ns k 0 ≡ n → P (get_or ps k q)) → All P (picked n ns ps)
all_picked P n ns [] h = All-nil P
all_picked P n [] (p ∷ ps) h = All-nil P
all_picked P n (m ∷ ns) (p ∷ ps) h =
    let rest : All P (picked n ns ps) = all_picked P n ns ps (λ k q l e. h (suc k) q (omega arith) e) in
    elim (cases_eq m n) [
      | inl e ↦ as_picked P n m ns p ps true (eq-eqb m n e) (All-cons P p (picked n ns ps) (h zero p (omega arith) e) rest)
      | inr u ↦ as_picked P n m ns p ps false (ne_eqb m n u) rest
    ]

pub from_picked : (P : Pairing → Type 0) (n : ℕ) (ns : List ℕ) (ps : List Pairing) (k : ℕ) (q : Pairing) → All P (picked n ns ps) → k < length ns → k < length ps → get_or ns k 0 ≡ n → P (get_or ps k q)
from_picked P n ns [] k q a b c e = absurd (omega arith)
from_picked P n [] (p ∷ ps) k q a b c e = absurd (omega arith)
from_picked P n (m ∷ ns) (p ∷ ps) zero q a b c e = All-head P p (picked n ns ps) (of_picked P n m ns p ps true (eq-eqb m n e) a)
from_picked P n (m ∷ ns) (p ∷ ps) (suc k) q a b c e =
    elim (cases_eq m n) [
      | inl f ↦ from_picked P n ns ps k q (All-tail P p (picked n ns ps) (of_picked P n m ns p ps true (eq-eqb m n f) a)) (omega arith) (omega arith) e
      | inr u ↦ from_picked P n ns ps k q (of_picked P n m ns p ps false (ne_eqb m n u) a) (omega arith) (omega arith) e
    ]

pub some_picked : (n : ℕ) (ns : List ℕ) (ps : List Pairing) (k : ℕ) → k < length ns → k < length ps → get_or ns k 0 ≡ n → 0 < length (picked n ns ps)
some_picked n ns [] k b c e = absurd (omega arith)
some_picked n [] (p ∷ ps) k b c e = absurd (omega arith)
some_picked n (m ∷ ns) (p ∷ ps) zero b c e = subst (λ (t : Bool). 0 < length (cond t (p ∷ picked n ns ps) (picked n ns ps))) (sym (eq-eqb m n e)) (omega arith)
some_picked n (m ∷ ns) (p ∷ ps) (suc k) b c e =
    let i : 0 < length (picked n ns ps) = some_picked n ns ps k (omega arith) (omega arith) e in
    elim (cases_eq m n) [
      | inl f ↦ subst (λ (t : Bool). 0 < length (cond t (p ∷ picked n ns ps) (picked n ns ps))) (sym (eq-eqb m n f)) (omega arith)
      | inr u ↦ subst (λ (t : Bool). 0 < length (cond t (p ∷ picked n ns ps) (picked n ns ps))) (sym (ne_eqb m n u)) i
    ]

joined : (b : Bool) (p : Pairing) (xs ys : List Pairing) → cond b (p ∷ (xs ++ ys)) (xs ++ ys) ≡ cond b (p ∷ xs) xs ++ ys
joined true p xs ys = refl
joined false p xs ys = refl

nothing_before : (b : Bool) (p : Pairing) → cond b (p ∷ []) [] ≡ [] ++ cond b (p ∷ []) []
nothing_before b p = refl

-- one pairing more
pub picked_more : (n : ℕ) (ns : List ℕ) (ps : List Pairing) (k : ℕ) (q : Pairing) → k < length ps → k < length ns
    → picked n ns (take (suc k) ps) ≡ picked n ns (take k ps) ++ cond (nat_eq (get_or ns k 0) n) (get_or ps k q ∷ []) []
picked_more n ns [] k q a b = absurd (omega arith)
picked_more n [] (p ∷ ps) k q a b = absurd (omega arith)
picked_more n (m ∷ ns) (p ∷ ps) zero q a b = refl
picked_more n (m ∷ ns) (p ∷ ps) (suc k) q a b =
    ap (λ (xs : List Pairing). cond (nat_eq m n) (p ∷ xs) xs) (picked_more n ns ps k q (omega arith) (omega arith))
    ∙ joined (nat_eq m n) p (picked n ns (take k ps)) (cond (nat_eq (get_or ns k 0) n) (get_or ps k q ∷ []) [])

-- ---- numbers of groups

pub same_number : (ps : List Pairing) (of' : List ℕ) (i j : ℕ) → IsPartition ps of' → i < 7 → j < 7 → AreGrouped ps i j → slice_index of' i ≡ slice_index of' j
same_number ps of' i j h a b g =
    let u : slice_index of' i ≤ slice_index of' j = (h i a).first (slice_index of' j) (then ps i j (slice_index of' j) g (h j b).grouped) in
    let w : slice_index of' j ≤ slice_index of' i = (h j b).first (slice_index of' i) (then ps j i (slice_index of' i) (grouped_back ps i j g) (h i a).grouped) in
    omega arith

pub by_number : (ps : List Pairing) (of' : List ℕ) (i j : ℕ) → IsPartition ps of' → i < 7 → j < 7 → slice_index of' i ≡ slice_index of' j → AreGrouped ps i j
by_number ps of' i j h a b e =
    then ps i (slice_index of' i) j (h i a).grouped
    (grouped_back ps j (slice_index of' i) (subst (λ (n : ℕ). AreGrouped ps j n) (sym e) (h j b).grouped))

pub record IsNumbered (ps : List Pairing) (of' : List ℕ) (at : ℕ) : Type 0 where
  pub partition : IsPartition ps of'
  pub long : length of' ≡ 7
  pub count : length ps ≤ 7
  pub within : at < length ps

pub each_from : (P : Pairing → Type 0) (ps : List Pairing) (of' : List ℕ) (at : ℕ) → IsNumbered ps of' at → All P (picked (slice_index of' at) of' ps) → EachGrouped ps at P
each_from P ps of' at h a = λ j p g e.
    let b : j < length ps = slice_get_within ps j p e in
    let c = h.count in
    let l = h.long in
    let w = h.within in
    subst P (get_or_from_slice_get ps j p p e)
    (from_picked P (slice_index of' at) of' ps j p a (omega arith) b (sym (same_number ps of' at j h.partition (omega arith) (omega arith) g)))

pub all_from : (P : Pairing → Type 0) (ps : List Pairing) (of' : List ℕ) (at : ℕ) → IsNumbered ps of' at → EachGrouped ps at P → All P (picked (slice_index of' at) of' ps)
all_from P ps of' at h each =
    let c = h.count in
    let w = h.within in
    all_picked P (slice_index of' at) of' ps
    (λ k q b e. each k (get_or ps k q) (by_number ps of' at k h.partition (omega arith) (omega arith) (sym e)) (slice_get-get_or ps k q b))

-- ---- points and solutions

own_line : (p : Pairing) (l : Loop) → IsLineOf p l (line_at l p)
own_line p l = record { first = refl; second = refl; constant = refl }

equal_from : (f s c e i j : ℤ) → f *ℤ i +ℤ (pos 0 -ℤ s) *ℤ j ≡ e -ℤ c → f *ℤ i +ℤ c ≡ s *ℤ j +ℤ e
equal_from f s c e i j h = let g = off_line f s c e i j h in omega (arith, linear)

line_from : (f s c e i j : ℤ) → f *ℤ i +ℤ c ≡ s *ℤ j +ℤ e → f *ℤ i +ℤ (pos 0 -ℤ s) *ℤ j ≡ e -ℤ c
line_from f s c e i j h = on_line f s c e i j (omega (arith, linear))

pub equal_on : (p : Pairing) (l : Loop) (i j : ℤ) → OnLine (line_at l p) i j → AreEqualAt p l i j
equal_on p l i j o = equal_from (first_of p l) (second_of p l) p.from.constant p.to.constant i j o.equal

pub on_equal : (p : Pairing) (l : Loop) (i j : ℤ) → AreEqualAt p l i j → OnLine (line_at l p) i j
on_equal p l i j e = record { equal = line_from (first_of p l) (second_of p l) p.from.constant p.to.constant i j e }

pub span_within : (s : Span) (trip i : ℤ) → s.last ≡ Some trip → WithinTrip trip i → WithinSpan s i
span_within s trip i e w = record { low = w.low; high = rw e w.high }

solution_at : (p : Pairing) (d : Dirs) (l : Loop) (trip : ℤ) (x y : List ℤ) → (span_of p l).last ≡ Some trip → IsPointOfCut l (line_at l p) trip (dir_of d l) x y → IsSolution p d l (first_at l x) (second_at l y)
solution_at p d l trip x y t c = record {
  first = span_within (span_of p l) trip (first_at l x) t c.within.first;
  second = span_within (span_of p l) trip (second_at l y) t c.within.second;
  related = c.within.related;
  equal = equal_on p l (first_at l x) (second_at l y) c.on;
}

known_end : (o : Option ℤ) → IsSome o → (t : ℤ) × (o ≡ Some t)
known_end None h = absurd (false≢true h)
known_end (Some t) h = (t, refl)

ends : (ss : List Span) (k : ℕ) → All (λ s. IsTrue s.fixed → IsSome s.last) ss → k < length ss → IsTrue (get_or ss k once).fixed → (t : ℤ) × ((get_or ss k once).last ≡ Some t)
ends ss k a b f = known_end (get_or ss k once).last (a k once b f)

pub known_trip : (p : Pairing) (l : Loop) → IsPairing p → HasSevenLists p → HasOneLoop p l → IsTrue (span_of p l).fixed → (t : ℤ) × ((span_of p l).last ≡ Some t)
known_trip p (Shared k) i n h f = let b : k < 7 = within_seven p (Shared k) i h in let e = n.from_spans in ends p.from_spans k i.from_spans.fixed (omega arith) f
known_trip p (First k) i n h f = let b = h.matters.loop.1 in let e = n.from_spans in ends p.from_spans k i.from_spans.fixed (omega arith) f
known_trip p (Second k) i n h f = let b = h.matters.loop.1 in let e = n.to_spans in ends p.to_spans k i.to_spans.fixed (omega arith) f

pub lists_of : (p : Pairing) (d : Dirs) → HasSevenPlaces p d → HasSevenLists p
lists_of p d n = record { from_loops = n.from_loops; to_loops = n.to_loops; from_spans = n.from_spans; to_spans = n.to_spans }

-- the least pair of iterations of the cut pairing solves it
pub solved_by_cut : (p : Pairing) (d : Dirs) (l : Loop) (x y : List ℤ) → IsPairing p → AreDirsOf p d → HasSevenPlaces p d → HasOneLoop p l → IsTrue (span_of p l).fixed → IsPairOf (cut p) (cut_dirs p d) x y
    → (i : ℤ) × ((j : ℤ) × IsSolution p d l i j)
solved_by_cut p d l x y i a n h f r =
    let t = known_trip p l i (lists_of p d n) h f in
    (first_at l x, (second_at l y, solution_at p d l t.0 x y t.1 (cut_point p p d l (line_at l p) t.0 x y i i a n n h h (own_line p l) t.1 r)))

-- ---- a group whose members have one loop

same_span : (p q : Pairing) (l : Loop) → IsBeside p q → span_of q l ≡ span_of p l
same_span p q (Shared k) b = ap (λ (ss : List Span). get_or ss k once) b.from_spans
same_span p q (First k) b = ap (λ (ss : List Span). get_or ss k once) b.from_spans
same_span p q (Second k) b = ap (λ (ss : List Span). get_or ss k once) b.to_spans

cut_points : (ms : List Pairing) (d : Dirs) (l : Loop) (trip : ℤ) (x y : List ℤ) → 0 < length ms → All (IsMemberOn d l trip) ms → IsPairOfAll (map cut ms) (group_dirs ms d) x y
    → All (λ p. IsPointOfCut l (line_at l p) trip (dir_of d l) x y) ms
cut_points [] d l trip x y h m r = absurd (omega arith)
cut_points (q ∷ qs) d l trip x y h m r = all_cut_points (q ∷ qs) q d l trip x y m (m zero q (omega arith)) r

-- what is known of each pairing of two references
pub record AreKnown (ps : List Pairing) (d : Dirs) : Type 0 where
  pub pairings : All IsPairing ps
  pub beside : All (λ p. All (IsBeside p) ps) ps
  pub dirs : All (λ p. AreDirsOf p d) ps
  pub places : All (λ p. HasSevenPlaces p d) ps

pub each_of_all : (P : Pairing → Type 0) (ps : List Pairing) (at : ℕ) → All P ps → EachGrouped ps at P
each_of_all P ps at a = λ j p g e. subst P (get_or_from_slice_get ps j p p e) (a j p (slice_get_within ps j p e))

nothing_taken : (xs : List Pairing) → 0 < length (take 0 xs) → ⊥
nothing_taken xs h = omega (arith, length-take 0 xs)

none_taken : (xs : List Pairing) (n : ℕ) → n ≡ 0 → 0 < length (take n xs) → ⊥
none_taken xs n e h = let b : 0 < length (take 0 xs) = subst (λ (m : ℕ). 0 < length (take m xs)) e h in absurd (nothing_taken xs b)

pub counted : (g : Group) → 0 < length (members g) → 1 ≤ g.count
counted g h = elim (cases_lt 0 g.count) [ inl b ↦ omega arith | inr b ↦ let z : g.count ≡ 0 = omega arith in absurd (none_taken g.at g.count z h) ]

module _ (ps : List Pairing) (of' : List ℕ) (d : Dirs) (at : ℕ) (n : IsNumbered ps of' at) (a : AreKnown ps d) where
  pub exact_solution : (l : Loop) (x y : List ℤ) (q : Pairing) → HasExactLoop ps at l → IsPairOfAll (map cut (picked (slice_index of' at) of' ps)) (group_dirs (picked (slice_index of' at) of' ps) d) x y
      → (i : ℤ) × ((j : ℤ) × EachGrouped ps at (λ p. IsSolution p d l i j))
  exact_solution l x y q each r =
      let here = slice_get-get_or ps at q n.within in
      let mine = each at (get_or ps at q) (alone ps at) here in
      let t = known_trip (get_or ps at q) l (a.pairings at q n.within) (lists_of (get_or ps at q) d (a.places at q n.within)) mine.0 mine.1 in
      let trips : EachGrouped ps at (λ p. (span_of p l).last ≡ Some t.0) =
      λ j p g e. subst (λ (z : Pairing). (span_of z l).last ≡ Some t.0) (get_or_from_slice_get ps j p p e)
      (ap (λ (s : Span). s.last) (same_span (get_or ps at q) (get_or ps j p) l (a.beside at q n.within j p (slice_get_within ps j p e))) ∙ t.1) in
      let on : EachGrouped ps at (IsMemberOn d l t.0) =
      λ j p g e. record {
        pairing = each_of_all IsPairing ps at a.pairings j p g e;
        dirs = each_of_all (λ z. AreDirsOf z d) ps at a.dirs j p g e;
        places = each_of_all (λ z. HasSevenPlaces z d) ps at a.places j p g e;
        one = (each j p g e).0;
        ends = trips j p g e;
      } in
      let long = n.long in
      let few = n.count in
      let in' = n.within in
      let some : 0 < length (picked (slice_index of' at) of' ps) = some_picked (slice_index of' at) of' ps at (omega arith) n.within refl in
      let points = cut_points (picked (slice_index of' at) of' ps) d l t.0 x y some (all_from (IsMemberOn d l t.0) ps of' at n on) r in
      let each_point = each_from (λ p. IsPointOfCut l (line_at l p) t.0 (dir_of d l) x y) ps of' at n points in
      (first_at l x, (second_at l y, λ j p g e. solution_at p d l t.0 x y (trips j p g e) (each_point j p g e)))

  -- the members as a group
  pub picked_group : (g : Group) → members g ≡ picked (slice_index of' at) of' ps → g.count ≤ 7 → (IsSeparable ps at → ⊥) → IsGroup g
  picked_group g e c s =
      let long = n.long in
      let few = n.count in
      let in' = n.within in
      let some : 0 < length (members g) = subst (λ (ms : List Pairing). 0 < length ms) (sym e) (some_picked (slice_index of' at) of' ps at (omega arith) n.within refl) in
      let pairings = all_from IsPairing ps of' at n (each_of_all IsPairing ps at a.pairings) in
      let linear' = all_from (λ p. IsTrue p.known) ps of' at n (λ j p h f. coupled_linear ps j p (not_alone ps at j s h) f) in
      let loops = all_from (λ p. IsZiv p → ⊥) ps of' at n (λ j p h f. coupled_not_ziv ps j p (not_alone ps at j s h) f) in
      let beside = all_from (λ p. All (IsBeside p) (picked (slice_index of' at) of' ps)) ps of' at n
      (λ j p h f. all_from (IsBeside p) ps of' at n (each_of_all (IsBeside p) ps at (each_of_all (λ z. All (IsBeside z) ps) ps at a.beside j p h f))) in
      record {
        some = counted g some;
        count = c;
        pairings = subst (λ (ms : List Pairing). All IsPairing ms) (sym e) pairings;
        linear = subst (λ (ms : List Pairing). All (λ p. IsTrue p.known) ms) (sym e) linear';
        not_ziv = subst (λ (ms : List Pairing). All (λ p. IsZiv p → ⊥) ms) (sym e) loops;
        beside = subst (λ (ms : List Pairing). All (λ p. All (IsBeside p) ms) ms) (sym e) beside;
      }
