-- The answer to a box is right of all vectors in it.
use Rattle.std.proofs.Common.{◌≡◌, ℕ, ◌<◌, ◌≤◌, ◌⊎◌, List, [], ◌∷◌, length, get_or, zero, suc, refl, ap, subst, sym, arith, ◌∙◌, inl, inr}
use Rattle.std.specs.Prelude.{ℤ, pos, ◌<ℤ◌, IsTrue, Some, slice_get}
use Rattle.std.proofs.lemmas.Int.{ints, by_lt_z}
use Rattle.std.proofs.lemmas.Option.{get_or_from_slice_get, slice_get_within}
use Rattle.dependence_tests.specs.loop_lines.OneLoop.{dir_of}
use Rattle.subscripts.specs.Classes.{HasOneLoop, Loop, Shared, First, Second, at_place}
use Rattle.subscripts.specs.Iterations.{IsRelated}
use Rattle.subscripts.specs.Refutations.{IsOneSided}
use Rattle.subscripts.specs.declared.affine.Dir.{Dir}
use Rattle.subscripts.specs.declared.affine.Dir.TheVariants.{Lt, Eq, Gt, Any}
use Rattle.subscripts.specs.declared.affine.Dirs.{Dirs}
use Rattle.subscripts.specs.declared.pairing.Pairing.{Pairing}
use Rattle.subscripts.specs.declared.verdict.Point.{Point}
use Rattle.subscripts.specs.declared.verdict.Test.{Test}
use Rattle.subscripts.specs.declared.verdict.Verdict.{Verdict}
use Rattle.subscripts.specs.declared.verdict.Verdict.TheVariants.{Never, Pair, Assumed}
use Rattle.direction_vectors.proofs.vector_tests.Causes.{no_trip_never}
use Rattle.direction_vectors.proofs.vector_tests.Meetings.{region_of, subscript_at}
use Rattle.direction_vectors.proofs.vector_tests.Standing.{in_vector, seven}
use Rattle.direction_vectors.specs.vector_tests.Pairs.{IsMeeting}
use Rattle.direction_vectors.specs.vector_tests.Refs.{IsRefPair, IsSubscriptOf, IsVectorOf}
use Rattle.direction_vectors.specs.vector_tests.Ways.{HasNoTrip, IsExactClass, IsRefutedByOneLoop, IsRefutedByPair, IsRefutedVector}
use Rattle.direction_vectors.specs.declared.vector_tests.refs.RefPair.{RefPair}
use Rattle.direction_vectors.specs.Answers.{AreAssumed, AreDropped, AreMet, IsRight}
use Rattle.direction_vectors.specs.Candidates.{Allows, IsCovered, IsPlain}
use Rattle.direction_vectors.specs.Unions.{IsTested}
use Rattle.direction_vectors.proofs.Turns.{HasNoneStarred, in_vector_of, moved, moved_difference, moved_first, moved_second}
use Rattle.direction_vectors.proofs.Within.{inside, meets_box, never_in, no_trip_out}
use Rattle.direction_vectors.proofs.Words.{word_in}
use Rattle.direction_vectors.specs.Boxes.{HasRoom, InStarred, IsBox, IsFree, IsUnnamed}
use Rattle.direction_vectors.proofs.Freeing.{meets_in}

dropped : (r : RefPair) (d : Dirs) (w : Test) → IsBox r d (Never w) → IsTested r d (Never w) → AreDropped r d w
dropped r d w b t = record {
  never = λ u c. never_in r d u (inside r d u c) t.never;
  word = λ u c. word_in r d u w (inside r d u c) (λ n h. elim b.trips [ inl a ↦ n a | inr m ↦ n (no_trip_out r d u (inside r d u c) m h) ]) t.dropped;
}

-- ---- moved into a vector of the box

module _ (r : RefPair) (d : Dirs) (c : IsRefPair r) (vd : IsVectorOf r d) (rooms : HasNoTrip r d ⊎ InStarred r d (HasRoom r)) (unnamed : InStarred r d (IsUnnamed r)) (t : HasNoTrip r d → ⊥) where
  no_trips : (u : Dirs) → IsCovered r d u → HasNoTrip r u → ⊥
  no_trips u k h = elim rooms [ inl a ↦ t a | inr m ↦ t (no_trip_out r d u (inside r d u k) m h) ]

  none_starred : (i : ℕ) (q : Pairing) → i < length r.subs → IsTrue (get_or r.subs i q).known → HasNoneStarred r d (get_or r.subs i q)
  none_starred i q b k m l e = unnamed m l e i q b k

  one_sided_out : (u : Dirs) (p : Pairing) → IsCovered r d u → IsSubscriptOf r p → HasNoneStarred r d p → IsOneSided p u → IsOneSided p d
  one_sided_out u p k s n o =
      elim o [
        | inl f ↦ inl (λ v x y h.
            let w = in_vector_of r d p x y c vd s h in
            subst (λ (z : ℤ). pos 0 <ℤ z) (sym (moved_difference r d u p k n v x y w.first.places w.second.places))
            (f v (seven (moved_first d u x)) (seven (moved_second d u y)) (region_of r u (seven (moved_first d u x)) (seven (moved_second d u y)) p c k.vector s (in_vector r u (moved_first d u x) (moved_second d u y) c (moved r d u x y c vd k (no_trips u k) w)))))
        | inr f ↦ inr (λ v x y h.
            let w = in_vector_of r d p x y c vd s h in
            subst (λ (z : ℤ). z <ℤ pos 0) (sym (moved_difference r d u p k n v x y w.first.places w.second.places))
            (f v (seven (moved_first d u x)) (seven (moved_second d u y)) (region_of r u (seven (moved_first d u x)) (seven (moved_second d u y)) p c k.vector s (in_vector r u (moved_first d u x) (moved_second d u y) c (moved r d u x y c vd k (no_trips u k) w)))))
      ]

  starred_at : (i : ℕ) (p : Pairing) → slice_get r.subs i ≡ Some p → IsTrue p.known → HasNoneStarred r d p
  starred_at i p e k =
      let q : get_or r.subs i p ≡ p = get_or_from_slice_get r.subs i p p e in
      subst (λ (z : Pairing). HasNoneStarred r d z) q (none_starred i p (slice_get_within r.subs i p e) (subst (λ (z : Pairing). IsTrue z.known) (sym q) k))

  by_pair_out : (u : Dirs) → IsCovered r d u → IsRefutedByPair r u → IsRefutedByPair r d
  by_pair_out u k h = record {
    at = h.at;
    pairing = h.pairing;
    is_at = h.is_at;
    linear = h.linear;
    refuted = elim h.refuted [
      | inl g ↦ inl g
      | inr o ↦ inr (one_sided_out u h.pairing k (subscript_at r h.at h.pairing c h.is_at) (starred_at h.at h.pairing h.is_at h.linear) o)
    ];
  }

  -- the loop of a pair has the same direction in the vector
  same_dir : (u : Dirs) (p : Pairing) (l : Loop) → IsCovered r d u → IsSubscriptOf r p → HasNoneStarred r d p → HasOneLoop p l → dir_of d l ≡ dir_of u l
  same_dir u p (Shared m) k s n h =
      let b : m < r.common = subst (λ (z : ℕ). m < z) s.common h.matters.loop in
      elim (k.covers.at m b) [ inl e ↦ let z = n m b e in absurd (h.matters.some z.first z.second) | inr e ↦ e ]
  same_dir u p (First m) k s n h = refl
  same_dir u p (Second m) k s n h = refl

  by_loop_out : (u : Dirs) → IsCovered r d u → IsRefutedByOneLoop r u → IsRefutedByOneLoop r d
  by_loop_out u k h =
      let p = h.some.0 in
      let one = h.each h.at p ([], refl) h.some.1 in
      let same = same_dir u p h.loop k (subscript_at r h.at p c h.some.1) (starred_at h.at p h.some.1 one.0.known) one.0 in
      record {
        at = h.at;
        some = h.some;
        loop = h.loop;
        each = h.each;
        none = λ i j e. h.none i j (λ n q g s.
            let z = e n q g s in
            record { first = z.first; second = z.second; related = subst (λ (o : Dir). IsRelated o i j) same z.related; equal = z.equal });
      }

  refuted_out : (u : Dirs) → IsCovered r d u → IsRefutedVector r u → IsRefutedVector r d
  refuted_out u k h =
      elim h [
        | inl a ↦ absurd (no_trips u k a)
        | inr o ↦ elim o [ inl a ↦ inr (inl (by_pair_out u k a)) | inr a ↦ inr (inr (by_loop_out u k a)) ]
      ]

-- ---- the vector of a pair of iterations

record IsDirFor (d : Dir) (i j : ℤ) : Type 0 where
  dir : Dir
  plain : IsPlain dir
  allowed : Allows d dir
  related : IsRelated dir i j

dir_for : (d : Dir) (i j : ℤ) → IsRelated d i j → IsDirFor d i j
dir_for Lt i j h = record { dir = Lt; plain = λ t. cc; allowed = inr refl; related = h }
dir_for Eq i j h = record { dir = Eq; plain = λ t. cc; allowed = inr refl; related = h }
dir_for Gt i j h = record { dir = Gt; plain = λ t. cc; allowed = inr refl; related = h }
dir_for Any i j h =
    by_lt_z i j (λ b. record { dir = Lt; plain = λ t. cc; allowed = inl refl; related = b })
    (λ b. by_lt_z j i (λ a. record { dir = Gt; plain = λ t. cc; allowed = inl refl; related = a }) (λ a. record { dir = Eq; plain = λ t. cc; allowed = inl refl; related = omega (arith, ints) }))

-- plain directions in the first n places
record AreDirsFor (n : ℕ) (ds : List Dir) (f g : ℕ → ℤ) : Type 0 where
  dirs : List Dir
  places : length dirs ≡ length ds
  plain : (k : ℕ) → k < n → k < length ds → IsPlain (get_or dirs k Any)
  allowed : (k : ℕ) → k < n → k < length ds → Allows (get_or ds k Any) (get_or dirs k Any)
  related : (k : ℕ) → k < n → k < length ds → IsRelated (get_or dirs k Any) (f k) (g k)
  others : (k : ℕ) → n ≤ k → get_or dirs k Any ≡ get_or ds k Any

each_at : (n m : ℕ) (P : ℕ → Type 0) → P 0 → ((k : ℕ) → k < n → k < m → P (suc k)) → (k : ℕ) → k < suc n → k < suc m → P k
each_at n m P h g zero a b = h
each_at n m P h g (suc k) a b = g k (omega arith) (omega arith)

past_at : (n : ℕ) (P : ℕ → Type 0) → ((k : ℕ) → n ≤ k → P (suc k)) → (k : ℕ) → suc n ≤ k → P k
past_at n P g zero a = absurd (omega arith)
past_at n P g (suc k) a = g k (omega arith)

dirs_for : (n : ℕ) (ds : List Dir) (f g : ℕ → ℤ) → ((k : ℕ) → k < n → IsRelated (get_or ds k Any) (f k) (g k)) → AreDirsFor n ds f g
dirs_for zero ds f g h = record {
  dirs = ds;
  places = refl;
  plain = λ k a b. absurd (omega arith);
  allowed = λ k a b. absurd (omega arith);
  related = λ k a b. absurd (omega arith);
  others = λ k a. refl;
}
dirs_for (suc n) [] f g h = record {
  dirs = [];
  places = refl;
  plain = λ k a b. absurd (omega arith);
  allowed = λ k a b. absurd (omega arith);
  related = λ k a b. absurd (omega arith);
  others = λ k a. refl;
}
dirs_for (suc n) (d ∷ ds) f g h =
    let one = dir_for d (f 0) (g 0) (h 0 (omega arith)) in
    let rest = dirs_for n ds (λ k. f (suc k)) (λ k. g (suc k)) (λ k b. h (suc k) (omega arith)) in
    record {
      dirs = one.dir ∷ rest.dirs;
      places = ap suc rest.places;
      plain = each_at n (length ds) (λ k. IsPlain (get_or (one.dir ∷ rest.dirs) k Any)) one.plain rest.plain;
      allowed = each_at n (length ds) (λ k. Allows (get_or (d ∷ ds) k Any) (get_or (one.dir ∷ rest.dirs) k Any)) one.allowed rest.allowed;
      related = each_at n (length ds) (λ k. IsRelated (get_or (one.dir ∷ rest.dirs) k Any) (f k) (g k)) one.related rest.related;
      others = past_at n (λ k. get_or (one.dir ∷ rest.dirs) k Any ≡ get_or (d ∷ ds) k Any) rest.others;
    }

record IsVectorHere (r : RefPair) (d : Dirs) (x y : List ℤ) : Type 0 where
  vector : Dirs
  covered : IsCovered r d vector
  meeting : IsMeeting r vector x y

vector_here : (r : RefPair) (d : Dirs) (x y : List ℤ) → IsRefPair r → IsVectorOf r d → IsMeeting r d x y → IsVectorHere r d x y
vector_here r d x y c v m =
    let h = dirs_for r.common d.at (λ k. at_place x k) (λ k. at_place y k) m.within.related in
    let u : Dirs = record { len = d.len; at = h.dirs } in
    let common = c.from_common in
    let depth = c.from_depth in
    let seven_dirs = v.places in
    let vu : IsVectorOf r u = record { places = h.places ∙ v.places; len = v.len; past_len = λ k b. h.others k b ∙ v.past_len k b } in
    record {
      vector = u;
      covered = record {
        vector = vu;
        plain = λ k b. h.plain k b (omega arith);
        covers = record { vector = v; at = λ k b. h.allowed k b (omega arith) };
      };
      meeting = record {
        within = record { first = m.within.first; second = m.within.second; related = λ k b. h.related k b (omega arith) };
        values = m.values;
        equal = m.equal;
      };
    }

-- ---- what the test of a box says

met : (r : RefPair) (d : Dirs) (x y : Point) (w : Test) → IsRefPair r → IsBox r d (Pair x y w) → IsTested r d (Pair x y w) → AreMet r d x.at y.at
met r d x y w c b t =
    let m = t.pair.1.meeting in
    let here = vector_here r d x.at y.at c b.vector m in
    let trips : HasNoTrip r d → ⊥ = λ h. no_trip_never r d c b.vector h x.at y.at m in
    record {
      exact = t.pair.0;
      each = λ u k. meets_in r d u x.at y.at c b.vector t.pair.0 k (λ h. elim b.trips [ inl a ↦ trips a | inr s ↦ trips (no_trip_out r d u (inside r d u k) s h) ]) b.free m;
      vector = here.vector;
      covered = here.covered;
      meeting = here.meeting;
      least = λ u i j k n. t.pair.1.least i j (meets_box r d u i j (inside r d u k) n);
    }

unnamed_all : (r : RefPair) (d : Dirs) → (IsExactClass r → ⊥) → InStarred r d (IsFree r) → InStarred r d (IsUnnamed r)
unnamed_all r d n f m l e = elim (f m l e) [ inl u ↦ u | inr s ↦ absurd (n s.0) ]

assumed : (r : RefPair) (d : Dirs) (w : Test) → IsRefPair r → IsBox r d (Assumed w) → IsTested r d (Assumed w) → AreAssumed r d
assumed r d w c b t = record {
  inexact = t.assumed.0;
  unrefuted = λ u k h. t.assumed.1 (refuted_out r d c b.vector b.trips (unnamed_all r d t.assumed.0 b.free) (λ a. t.assumed.1 (inl a)) u k h);
}

pub answers_box : (r : RefPair) (d : Dirs) (v : Verdict) → IsRefPair r → IsBox r d v → IsTested r d v → IsRight r d v
answers_box r d (Never w) c b t = record { never = dropped r d w b t; pair = tt; assumed = tt; kept = tt }
answers_box r d (Pair x y w) c b t = record { never = tt; pair = met r d x y w c b t; assumed = tt; kept = t.kept }
answers_box r d (Assumed w) c b t = record { never = tt; pair = tt; assumed = assumed r d w c b t; kept = t.kept }
