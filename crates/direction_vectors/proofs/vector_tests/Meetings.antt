-- Meetings of two references, and pairs of iterations of their subscript pairs.
use Rattle.std.proofs.Common.{◌≡◌, ℕ, ◌+◌, ◌-◌, ◌<◌, ◌≤◌, List, [], ◌∷◌, ◌++◌, length, get_or, zero, suc, refl, ap, subst, sym, arith, ◌∙◌, inl, inr, length-append}
use Rattle.std.specs.Prelude.{ℤ, pos, All, IsTrue, Some, replicate, slice_get}
use Rattle.std.proofs.lemmas.Bool.{cases_lt}
use Rattle.std.proofs.lemmas.List.{get_or-replicate, get_or_past, length-replicate}
use Rattle.std.proofs.lemmas.Option.{get_or_from_slice_get, slice_get_within}
use Rattle.subscripts.specs.Classes.{at_place}
use Rattle.subscripts.specs.Forms.{HasNoPair, IsInRegion, IsPairOf, WithinSpans, difference}
use Rattle.subscripts.specs.Iterations.{WithinSpan, IsRelated, once}
use Rattle.subscripts.specs.Shapes.{AreDirsOf, IsBeside, IsPairing}
use Rattle.subscripts.specs.declared.affine.Dir.{Dir}
use Rattle.subscripts.specs.declared.affine.Dir.TheVariants.{Any}
use Rattle.subscripts.specs.declared.affine.Dirs.{Dirs}
use Rattle.subscripts.specs.declared.affine.Span.{Span}
use Rattle.subscripts.specs.declared.pairing.Pairing.{Pairing}
use Rattle.dependence_tests.proofs.loop_lines.Indexed.{within_from, related_from}
use Rattle.dependence_tests.specs.loop_lines.OneLoop.{HasSevenPlaces}
use Rattle.direction_vectors.specs.vector_tests.Pairs.{IsInVector, IsIteration, IsMeeting, NeverMeet}
use Rattle.direction_vectors.specs.vector_tests.Refs.{IsRefPair, IsSubscriptOf, IsVectorOf, padded}
use Rattle.direction_vectors.specs.declared.vector_tests.refs.RefPair.{RefPair}

-- ---- spans in seven places

once_in : (n k : ℕ) → get_or (replicate n once) k once ≡ once
once_in n k =
    elim (cases_lt k n) [
      | inl b ↦ get_or-replicate n k once once b
      | inr b ↦ get_or_past (replicate n once) k once (omega (arith, length-replicate n once))
    ]

then_once : (ss : List Span) (n k : ℕ) → get_or (ss ++ replicate n once) k once ≡ get_or ss k once
then_once [] n k = once_in n k
then_once (s ∷ ss) n zero = refl
then_once (s ∷ ss) n (suc k) = then_once ss n k

pub padded_at : (ss : List Span) (k : ℕ) → get_or (padded ss) k once ≡ get_or ss k once
padded_at ss k = then_once ss (7 - length ss) k

pub padded_length : (ss : List Span) → length ss ≤ 7 → length (padded ss) ≡ 7
padded_length ss h = omega (arith, length-append ss (replicate (7 - length ss) once), length-replicate (7 - length ss) once)

-- ---- what each subscript pair keeps

pub subscript_at : (r : RefPair) (i : ℕ) (p : Pairing) → IsRefPair r → slice_get r.subs i ≡ Some p → IsSubscriptOf r p
subscript_at r i p c e =
    subst (λ (q : Pairing). IsSubscriptOf r q) (get_or_from_slice_get r.subs i p p e) (c.subscripts i p (slice_get_within r.subs i p e))

pub all_at : (P : Pairing → Type 0) (ps : List Pairing) (i : ℕ) (p : Pairing) → All P ps → slice_get ps i ≡ Some p → P p
all_at P ps i p a e = subst P (get_or_from_slice_get ps i p p e) (a i p (slice_get_within ps i p e))

pub dirs_of : (r : RefPair) (d : Dirs) (p : Pairing) → IsVectorOf r d → IsSubscriptOf r p → AreDirsOf p d
dirs_of r d p v s = record {
  len = v.len ∙ sym s.common;
  past_len = λ k b. v.past_len k (omega (arith, s.common));
}

pub seven_places : (r : RefPair) (d : Dirs) (p : Pairing) → IsVectorOf r d → IsSubscriptOf r p → HasSevenPlaces p d
seven_places r d p v s = record {
  from_loops = s.places.from_loops;
  to_loops = s.places.to_loops;
  from_spans = s.places.from_spans;
  to_spans = s.places.to_spans;
  dirs = v.places;
}

beside_of : (r : RefPair) (p q : Pairing) → IsSubscriptOf r p → IsSubscriptOf r q → IsBeside p q
beside_of r p q s t = record {
  common = t.common ∙ sym s.common;
  from_depth = t.from_depth ∙ sym s.from_depth;
  to_depth = t.to_depth ∙ sym s.to_depth;
  from_spans = t.from_spans ∙ sym s.from_spans;
  to_spans = t.to_spans ∙ sym s.to_spans;
}

pub all_pairings : (r : RefPair) → IsRefPair r → All IsPairing r.subs
all_pairings r c = λ k q h. (c.subscripts k q h).pairing

pub all_beside : (r : RefPair) → IsRefPair r → All (λ p. All (IsBeside p) r.subs) r.subs
all_beside r c = λ k q h m s n. beside_of r (get_or r.subs k q) (get_or r.subs m s) (c.subscripts k q h) (c.subscripts m s n)

pub all_dirs : (r : RefPair) (d : Dirs) → IsRefPair r → IsVectorOf r d → All (λ p. AreDirsOf p d) r.subs
all_dirs r d c v = λ k q h. dirs_of r d (get_or r.subs k q) v (c.subscripts k q h)

pub all_places : (r : RefPair) (d : Dirs) → IsRefPair r → IsVectorOf r d → All (λ p. HasSevenPlaces p d) r.subs
all_places r d c v = λ k q h. seven_places r d (get_or r.subs k q) v (c.subscripts k q h)

-- ---- iterations in the vector are in the region of each pair

spans_within : (ps ss : List Span) (x : List ℤ) → ps ≡ padded ss → length ss ≤ 7 → IsIteration ss x → WithinSpans ps x
spans_within ps ss x e l i =
    let n = padded_length ss l in
    subst (λ (z : List Span). WithinSpans z x) (sym e)
    (within_from (padded ss) x (i.places ∙ sym n)
    (λ k h. subst (λ (z : Span). WithinSpan z (at_place x k)) (sym (padded_at ss k)) (i.within k (omega (arith, n)))))

pub any_related : (d : Dir) (i j : ℤ) → d ≡ Any → IsRelated d i j
any_related d i j e = subst (λ (z : Dir). IsRelated z i j) (sym e) tt

-- in each place, also in those past the common loops
pub related_in : (r : RefPair) (d : Dirs) (x y : List ℤ) (k : ℕ) → IsVectorOf r d → IsInVector r d x y → IsRelated (get_or d.at k Any) (at_place x k) (at_place y k)
related_in r d x y k v w =
    elim (cases_lt k r.common) [
      | inl b ↦ w.related k b
      | inr b ↦ any_related (get_or d.at k Any) (at_place x k) (at_place y k) (v.past_len k b)
    ]

pub region_of : (r : RefPair) (d : Dirs) (x y : List ℤ) (p : Pairing) → IsRefPair r → IsVectorOf r d → IsSubscriptOf r p → IsInVector r d x y → IsInRegion p d x y
region_of r d x y p c v s w = record {
  from_within = spans_within p.from_spans r.from_spans x s.from_spans c.from_depth w.first;
  to_within = spans_within p.to_spans r.to_spans y s.to_spans c.to_depth w.second;
  related = related_from d.at x y (λ k l. related_in r d x y k v w);
}

pub pair_at : (r : RefPair) (d : Dirs) (x y : List ℤ) (i : ℕ) (p : Pairing) → IsRefPair r → IsVectorOf r d → IsMeeting r d x y → slice_get r.subs i ≡ Some p → IsPairOf p d x y
pair_at r d x y i p c v m e =
    let h = slice_get_within r.subs i p e in
    let q : get_or r.subs i p ≡ p = get_or_from_slice_get r.subs i p p e in
    record {
      region = region_of r d x y p c v (subscript_at r i p c e) m.within;
      equal = subst (λ (z : Pairing). IsTrue z.known → (v : ℕ → ℤ) × (difference z v x y ≡ pos 0)) q (λ t. (m.values, m.equal i p h t));
    }

pub never_by : (r : RefPair) (d : Dirs) (i : ℕ) (p : Pairing) → IsRefPair r → IsVectorOf r d → slice_get r.subs i ≡ Some p → HasNoPair p d → NeverMeet r d
never_by r d i p c v e n = λ x y m. n x y (pair_at r d x y i p c v m e)
