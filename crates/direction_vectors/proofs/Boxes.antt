-- The answers to the vectors in a box.
use Rattle.std.proofs.Common.{◌≡◌, ℕ, ◌+◌, ◌-◌, ◌<◌, ◌≤◌, ◌⊎◌, List, [], ◌∷◌, zero, suc, refl, subst, sym, arith, ◌∙◌, inl, inr, add-one}
use Rattle.std.specs.Prelude.{MatchOption, Option, None, Some}
use Rattle.std.proofs.lemmas.Bool.{cases_eq, cases_lt}
use Rattle.std.proofs.lemmas.List.Elements.{All-nil, All-cons}
use Rattle.subscripts.specs.declared.affine.Dir.{Dir}
use Rattle.subscripts.specs.declared.affine.Dir.TheVariants.{Any}
use Rattle.subscripts.specs.declared.affine.Dirs.{Dirs}
use Rattle.subscripts.specs.declared.verdict.Test.{Test}
use Rattle.subscripts.specs.declared.verdict.Test.TheVariants.{Trip}
use Rattle.subscripts.specs.declared.verdict.Verdict.{Verdict}
use Rattle.subscripts.specs.declared.verdict.Verdict.TheVariants.{Never, Pair, Assumed}
use Rattle.direction_vectors.specs.vector_tests.Refs.{IsRefPair}
use Rattle.dependence_tests.specs.loop_lines.Verdicts.{IfPair}
use Rattle.direction_vectors.specs.vector_tests.Ways.{IsExactClass}
use Rattle.direction_vectors.specs.vector_tests.Words.{IfKept, IfNever, IsDropWord}
use Rattle.direction_vectors.specs.declared.vector_tests.refs.RefPair.{RefPair}
use Rattle.direction_vectors.specs.Boxes.{HasRoom, InSkipped, InStarred, IsBox, IsDroppedBox, IsInBox, IsOpenBox, IsTripless, IsFree, IsFreeBefore}
use Rattle.direction_vectors.specs.Candidates.{Answer, IsPlain, dir_at}
use Rattle.direction_vectors.specs.Merged.{IsMerged}
use Rattle.direction_vectors.specs.Parts.{AreUnder, IsAnswerUnder}
use Rattle.direction_vectors.specs.Unions.{IsTested}
use Rattle.direction_vectors.specs.Vectors.{with_dir}
use Rattle.direction_vectors.proofs.Boxing.{answers_box}
use Rattle.direction_vectors.proofs.Places.{other_dir, put_dir, put_vector}
use Rattle.direction_vectors.proofs.Within.{never_in}
use Rattle.direction_vectors.proofs.Words.{word_in}

-- a pair is given in the exact class alone
pub exact_of : (r : RefPair) (d : Dirs) (v : Verdict) → IsTested r d v → IfPair v (λ x y. IsExactClass r)
exact_of r d (Never w) t = tt
exact_of r d (Pair x y w) t = t.pair.0
exact_of r d (Assumed w) t = tt

-- ---- one answer

pub record IsSettled (r : RefPair) (d : Dirs) (k n : ℕ) (v : Verdict) (known : Option Test) : Type 0 where
  pub tested : IsTested r d v
  pub kept : IfKept v (λ w. known ≡ None)
  pub trips : (IsTripless v × (n ≡ r.common)) ⊎ InSkipped k n (HasRoom r)
  pub free : InSkipped k n (λ m. IfKept v (λ w. IsFree r m))

rooms_all : (r : RefPair) (d : Dirs) (k n : ℕ) → IsOpenBox r d k → n ≡ r.common → InSkipped k n (HasRoom r) → InStarred r d (HasRoom r)
rooms_all r d k n o e s m b h = elim (cases_lt m k) [ inl l ↦ o.rooms m l h | inr l ↦ s m l (omega arith) ]

free_known : (r : RefPair) (d : Dirs) (k : ℕ) (known : Option Test) → known ≡ None → MatchOption known (IsFreeBefore r d k) (λ w. IsDroppedBox r d w) → IsFreeBefore r d k
free_known r d k None e h = h
free_known r d k (Some w) e h = cc

free_all : (r : RefPair) (d : Dirs) (k n : ℕ) → n ≡ r.common → IsFreeBefore r d k → InSkipped k n (IsFree r) → InStarred r d (IsFree r)
free_all r d k n e u s m b h = elim (cases_lt m k) [ inl l ↦ u m l h | inr l ↦ s m l (omega arith) ]

pub is_box : (r : RefPair) (d : Dirs) (k n : ℕ) (v : Verdict) (known : Option Test) → IsOpenBox r d k → IsSettled r d k n v known → n ≡ r.common
    → MatchOption known (IsFreeBefore r d k) (λ w. IsDroppedBox r d w) → IsBox r d v
is_box r d k n (Never w) known o t e h = record {
  vector = o.vector;
  trips = elim t.trips [
    | inl a ↦ inl (let f : w ≡ Trip = cc in subst (λ (z : Test). IsDropWord r d z) f t.tested.dropped)
    | inr s ↦ inr (rooms_all r d k n o e s)
  ];
  free = tt;
}
is_box r d k n (Pair x y w) known o t e h = record {
  vector = o.vector;
  trips = elim t.trips [ inl a ↦ let f = a.0 in cc | inr s ↦ inr (rooms_all r d k n o e s) ];
  free = free_all r d k n e (free_known r d k known t.kept h) t.free;
}
is_box r d k n (Assumed w) known o t e h = record {
  vector = o.vector;
  trips = elim t.trips [ inl a ↦ let f = a.0 in cc | inr s ↦ inr (rooms_all r d k n o e s) ];
  free = free_all r d k n e (free_known r d k known t.kept h) t.free;
}

-- ---- from a later place on

-- one place before, which has `*`
one_before : (r : RefPair) (d : Dirs) (k : ℕ) (answers : List Answer) → k < r.common → dir_at d k ≡ Any → AreUnder r d (k + 1) answers → AreUnder r d k answers
one_before r d k answers b e u = record {
  each = λ i q l. let h = u.each i q l in record { vector = h.vector; prefix = λ m s. h.prefix m (omega arith); right = h.right };
  once = λ v p w. u.once v p (λ m l. elim (cases_eq m k) [ inl s ↦ inl (subst (λ (z : ℕ). dir_at d z ≡ Any) (sym s) e) | inr s ↦ w m (omega arith) ]);
  merged = subst (λ (n : ℕ). IsMerged n k answers) (let a : suc (r.common - (k + 1)) ≡ r.common - k = omega arith in a)
      (inl (record {
        any = λ i q l. (u.each i q l).prefix k (omega arith) ∙ e;
        merged = subst (λ (m : ℕ). IsMerged (r.common - (k + 1)) m answers) (add-one k) u.merged;
      }));
}

pub from_before : (r : RefPair) (d : Dirs) (n k : ℕ) (answers : List Answer) → n + k ≤ r.common → ((m : ℕ) → k ≤ m → dir_at d m ≡ Any) → AreUnder r d (n + k) answers → AreUnder r d k answers
from_before r d zero k answers b o u = subst (λ (z : ℕ). AreUnder r d z answers) (let e : 0 + k ≡ k = omega arith in e) u
from_before r d (suc n) k answers b o u =
    from_before r d n k answers (omega arith) o
    (one_before r d (n + k) answers (omega arith) (o (n + k) (omega arith)) (subst (λ (z : ℕ). AreUnder r d z answers) (let e : suc n + k ≡ (n + k) + 1 = omega arith in e) u))

pub skipped_before : (r : RefPair) (d : Dirs) (k n : ℕ) (answers : List Answer) → k ≤ n → n ≤ r.common → ((m : ℕ) → k ≤ m → dir_at d m ≡ Any) → AreUnder r d n answers → AreUnder r d k answers
skipped_before r d k n answers a b o u =
    from_before r d (n - k) k answers (omega arith) o (subst (λ (z : ℕ). AreUnder r d z answers) (let e : n ≡ (n - k) + k = omega arith in e) u)

-- the one answer to a box
pub one_under : (r : RefPair) (d : Dirs) (v : Verdict) (answers : List Answer) → IsRefPair r → IsBox r d v → IsTested r d v → answers ≡ (d, v) ∷ [] → AreUnder r d r.common answers
one_under r d v answers c b t e =
    subst (λ (z : List Answer). AreUnder r d r.common z) (sym e)
    (record {
      each = All-cons (IsAnswerUnder r d r.common) (d, v) [] (record { vector = b.vector; prefix = λ m l. refl; right = answers_box r d v c b t }) (All-nil (IsAnswerUnder r d r.common));
      once = λ u q h. inl (record { vector = b.vector; at = h }, tt);
      merged = subst (λ (n : ℕ). IsMerged n r.common ((d, v) ∷ [])) (let z : 0 ≡ r.common - r.common = omega arith in z) refl;
    })

-- ---- a box that is split

module _ (r : RefPair) (d : Dirs) (k n : ℕ) (v : Verdict) (known : Option Test) (e : Dir) (c : IsRefPair r) (o : IsOpenBox r d k) (t : IsSettled r d k n v known) (s : k ≤ n) (b : n < r.common) (p : IsPlain e) where
  seven : n < 7
  seven = let x = c.from_common in let y = c.from_depth in omega arith

  rooms : InSkipped k n (HasRoom r)
  rooms = elim t.trips [ inl a ↦ let z = a.1 in absurd (omega arith) | inr z ↦ z ]

  -- a place with `*` in the part
  before_split : (m : ℕ) → m < n + 1 → dir_at (with_dir d n e) m ≡ Any → (m < n) × (dir_at d m ≡ Any)
  before_split m l h =
      elim (cases_eq m n) [
        | inl f ↦ absurd (p (sym (put_dir d n e o.vector.places seven) ∙ subst (λ (z : ℕ). dir_at (with_dir d n e) z ≡ Any) f h))
        | inr f ↦ (omega arith, sym (other_dir d n m e f) ∙ h)
      ]

  pub part_open : IsOpenBox r (with_dir d n e) (n + 1)
  part_open = record {
    vector = put_vector r d n e o.vector b;
    within = omega arith;
    starred = λ m l. other_dir d n m e (λ f. omega arith) ∙ o.starred m (omega arith);
    rooms = λ m l h.
        let q = before_split m l h in
        let below = q.0 in
        elim (cases_lt m k) [ inl a ↦ o.rooms m a q.1 | inr a ↦ rooms m a below ];
  }

  part_in : IsInBox r d (with_dir d n e)
  part_in = record {
    vector = put_vector r d n e o.vector b;
    covers = record {
      vector = o.vector;
      at = λ m l. elim (cases_eq m n) [ inl f ↦ inl (o.starred m (omega arith)) | inr f ↦ inr (sym (other_dir d n m e f)) ];
    };
  }

  part_dropped : (w : Test) → v ≡ Never w → IsDroppedBox r (with_dir d n e) w
  part_dropped w f =
      let u : IsTested r d (Never w) = subst (λ (z : Verdict). IsTested r d z) f t.tested in
      record {
        never = never_in r d (with_dir d n e) part_in u.never;
        word = λ a. word_in r d (with_dir d n e) w part_in (λ x y. a y) u.dropped;
      }

  part_free : known ≡ None → ((m : ℕ) → k ≤ m → m < n → IsFree r m) → MatchOption known (IsFreeBefore r d k) (λ w. IsDroppedBox r d w) → IsFreeBefore r (with_dir d n e) (n + 1)
  part_free f g h m l a =
      let q = before_split m l a in
      let below = q.0 in
      elim (cases_lt m k) [ inl x ↦ free_known r d k known f h m x q.1 | inr x ↦ g m x below ]

  kept_free : (u : Verdict) → IfNever u (λ w. ⊥) → IfKept u (λ w. known ≡ None) → InSkipped k n (λ m. IfKept u (λ w. IsFree r m)) → MatchOption known (IsFreeBefore r d k) (λ w. IsDroppedBox r d w) → IsFreeBefore r (with_dir d n e) (n + 1)
  kept_free (Never w) x f g h = absurd x
  kept_free (Pair i j w) x f g h = part_free f g h
  kept_free (Assumed w) x f g h = part_free f g h

  pub part_known : (word : Option Test) → MatchOption word (IfNever v (λ w. ⊥)) (λ w. v ≡ Never w) → MatchOption known (IsFreeBefore r d k) (λ w. IsDroppedBox r d w)
      → MatchOption word (IsFreeBefore r (with_dir d n e) (n + 1)) (λ w. IsDroppedBox r (with_dir d n e) w)
  part_known None x h = kept_free v x t.kept t.free h
  part_known (Some w) x h = part_dropped w x
