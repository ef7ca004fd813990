-- Answers to the vectors of two references, as a couple has them.
use Rattle.std.proofs.Common.{◌≡◌, inl, inr, ℕ, zero, suc, ◌+◌, ◌-◌, ◌<◌, ◌≤◌, refl, sym, ap, ap₂, ◌∙◌, subst, arith, Bool, true, false, List, [], ◌∷◌, ◌++◌, length, map, drop, drop-cons, get_or}
use Rattle.std.specs.Prelude.{All, MatchBool}
use Rattle.std.proofs.lemmas.List.{get_or-drop, length-drop, map-append}
use Rattle.std.proofs.lemmas.List.Elements.{All-cons, All-head, All-nil, All-tail}
use Rattle.subscripts.specs.declared.affine.Dir.{Dir}
use Rattle.subscripts.specs.declared.affine.Dir.TheVariants.{Lt, Eq, Gt, Any}
use Rattle.subscripts.specs.declared.affine.Dirs.{Dirs}
use Rattle.subscripts.specs.declared.verdict.Test.{Test}
use Rattle.subscripts.specs.declared.verdict.Verdict.{Verdict as Tested}
use Rattle.subscripts.specs.declared.verdict.Verdict.TheVariants.{Never as Ruled, Pair as Found, Assumed as Left}
use Rattle.direction_vectors.specs.vector_tests.Refs.{IsVectorOf}
use Rattle.direction_vectors.specs.declared.vector_tests.refs.RefPair.{RefPair}
use Rattle.direction_vectors.specs.Candidates as old
use Rattle.direction_vectors.specs.Candidates.{dir_at}
use Rattle.direction_vectors.specs.Merged as merging
use Rattle.dependence_graph.specs.nest_graph.Arcs.{VectorVerdict, Assumed, Met, Never, Verdict}
use Rattle.dependence_graph.specs.nest_graph.Merged.{IsListed, IsMerged, kind_of, verdict_kinds, under_direction}
use Rattle.dependence_graph.specs.dep_graph.Joined.{as_verdict}
use Rattle.dependence_graph.proofs.dep_graph.Directions.{listed, listed_at, listed_length}

-- ---- lists

all_front : {A : Type 0} (P : A → Type 0) (xs ys : List A) → All P (xs ++ ys) → All P xs
all_front P [] ys h = All-nil P
all_front P (x ∷ xs) ys h = All-cons P x xs (All-head P x (xs ++ ys) h) (all_front P xs ys (All-tail P x (xs ++ ys) h))

all_back : {A : Type 0} (P : A → Type 0) (xs ys : List A) → All P (xs ++ ys) → All P ys
all_back P [] ys h = h
all_back P (x ∷ xs) ys h = all_back P xs ys (All-tail P x (xs ++ ys) h)

nil_of : {A : Type 0} (xs : List A) → length xs ≡ 0 → xs ≡ []
nil_of [] h = refl
nil_of (x ∷ xs) h = absurd (omega arith)

cons_parts : {A : Type 0} (x y : A) (xs ys : List A) → x ∷ xs ≡ y ∷ ys → (x ≡ y) × (xs ≡ ys)
cons_parts x y xs ys e = (cc, cc)

abbrev with_vector : Verdict → List Dir → VectorVerdict
with_vector v w = (w, v)

-- ---- kinds

same_word : (w x : Test) → Never w ≡ Never x → w ≡ x
same_word w x e = cc

same_met : (w x : Test) → Met [] [] w ≡ Met [] [] x → w ≡ x
same_met w x e = cc

same_assumed : (w x : Test) → Assumed w ≡ Assumed x → w ≡ x
same_assumed w x e = cc

same_kind : (m n : ℕ) (v u : Tested) → kind_of (as_verdict m n v) ≡ kind_of (as_verdict m n u) → merging.kind_of v ≡ merging.kind_of u
same_kind m n (Ruled w) (Ruled x) e = ap (λ (z : Test). Ruled z) (same_word w x e)
same_kind m n (Ruled w) (Found y z x) e = cc
same_kind m n (Ruled w) (Left x) e = cc
same_kind m n (Found i j w) (Ruled x) e = cc
same_kind m n (Found i j w) (Found y z x) e = ap (λ (t : Test). Found merging.nowhere merging.nowhere t) (same_met w x e)
same_kind m n (Found i j w) (Left x) e = cc
same_kind m n (Left w) (Ruled x) e = cc
same_kind m n (Left w) (Found y z x) e = cc
same_kind m n (Left w) (Left x) e = ap (λ (z : Test). Left z) (same_assumed w x e)

-- a test that says whether the first statement stands before the second
pub record Tells (turn : Bool) (s t : ℕ) : Type 0 where
  pub yes : turn ≡ true → s < t
  pub no : s < t → turn ≡ true

module _ (r : RefPair) (few : r.common ≤ 7) (m n : ℕ) where
  -- an answer, from a place on
  abbrev pub after : ℕ → old.Answer → VectorVerdict
  after k a = (drop k (listed a.0), as_verdict m n a.1)

  abbrev AreVectors : List old.Answer → Type 0
  AreVectors as' = All (λ (a : old.Answer). IsVectorOf r a.0) as'

  step : (d : Dirs) (k : ℕ) → IsVectorOf r d → k < r.common → drop k (listed d) ≡ dir_at d k ∷ drop (suc k) (listed d)
  step d k h l =
      drop-cons (listed d) k Any (let e = listed_length r few d h in omega arith)
      ∙ ap (λ (e : Dir). e ∷ drop (suc k) (listed d)) (listed_at r few d k h)

  under_is : (e : Dir) (k : ℕ) (as' : List old.Answer) → k < r.common → AreVectors as' → All (λ (a : old.Answer). dir_at a.0 k ≡ e) as'
      → map (after k) as' ≡ under_direction e (map (after (suc k)) as')
  under_is e k [] l v h = refl
  under_is e k (a ∷ as') l v h =
      ap₂ (λ (x : VectorVerdict) (xs : List VectorVerdict). x ∷ xs)
      (ap (with_vector (as_verdict m n a.1))
      (step a.0 k (All-head (λ (b : old.Answer). IsVectorOf r b.0) a as' v) l
      ∙ ap (λ (f : Dir). f ∷ drop (suc k) (listed a.0)) (All-head (λ (b : old.Answer). dir_at b.0 k ≡ e) a as' h)))
      (under_is e k as' l (All-tail (λ (b : old.Answer). IsVectorOf r b.0) a as' v) (All-tail (λ (b : old.Answer). dir_at b.0 k ≡ e) a as' h))

  -- ---- answers that are alike

  inner_at : (d : Dirs) (k j : ℕ) → IsVectorOf r d → suc k + (j - suc k) ≡ j → dir_at d j ≡ get_or (drop (suc k) (listed d)) (j - suc k) Any
  inner_at d k j h s =
      sym (listed_at r few d j h) ∙ sym (ap (λ (i : ℕ). get_or (listed d) i Any) s) ∙ sym (get_or-drop (suc k) (listed d) (j - suc k) Any)

  alike_one : (k : ℕ) (a b : old.Answer) → IsVectorOf r a.0 → IsVectorOf r b.0 → drop (suc k) (listed a.0) ≡ drop (suc k) (listed b.0)
      → kind_of (as_verdict m n a.1) ≡ kind_of (as_verdict m n b.1) → merging.IsAlike k a b
  alike_one k a b u v e f = record {
    dirs = λ j l g.
        let s : suc k + (j - suc k) ≡ j = omega arith in
        inner_at a.0 k j u s ∙ ap (λ (ds : List Dir). get_or ds (j - suc k) Any) e ∙ sym (inner_at b.0 k j v s);
    kind = same_kind m n a.1 b.1 f;
  }

  abbrev inner : ℕ → List old.Answer → List VectorVerdict
  inner k as' = verdict_kinds (map (after (suc k)) as')

  alike : (k : ℕ) (xs ys : List old.Answer) → AreVectors xs → AreVectors ys → inner k xs ≡ inner k ys → merging.AreAlike k xs ys
  alike k [] [] u v e = record { same_length = refl; each = λ i a b l. absurd (omega arith) }
  alike k [] (y ∷ ys) u v e = cc
  alike k (x ∷ xs) [] u v e = cc
  alike k (x ∷ xs) (y ∷ ys) u v e =
      let p = cons_parts (drop (suc k) (listed x.0), kind_of (as_verdict m n x.1)) (drop (suc k) (listed y.0), kind_of (as_verdict m n y.1)) (inner k xs) (inner k ys) e in
      with_one
      (alike_one k x y (All-head (λ (b : old.Answer). IsVectorOf r b.0) x xs u) (All-head (λ (b : old.Answer). IsVectorOf r b.0) y ys v)
      (ap (λ (z : VectorVerdict). z.0) p.0) (ap (λ (z : VectorVerdict). z.1) p.0))
      (alike k xs ys (All-tail (λ (b : old.Answer). IsVectorOf r b.0) x xs u) (All-tail (λ (b : old.Answer). IsVectorOf r b.0) y ys v) p.1)
    where
      with_one : merging.IsAlike k x y → merging.AreAlike k xs ys → merging.AreAlike k (x ∷ xs) (y ∷ ys)
      with_one one rest = record { same_length = ap suc rest.same_length; each = at }
        where
          at : (i : ℕ) (a b : old.Answer) → i < suc (length xs) → merging.IsAlike k (get_or (x ∷ xs) i a) (get_or (y ∷ ys) i b)
          at zero a b l = one
          at (suc i) a b l = rest.each i a b (omega arith)

  -- ---- merged answers

  one_left : (k : ℕ) (as' : List old.Answer) → k ≡ r.common → AreVectors as' → length as' ≡ 1 → IsMerged 0 (map (after k) as')
  one_left k [] s v h = absurd (omega arith)
  one_left k (a ∷ []) s v h = (
    as_verdict m n a.1,
    ap (λ (w : List Dir). with_vector (as_verdict m n a.1) w ∷ [])
        (nil_of (drop k (listed a.0))
        (let e = listed_length r few a.0 (All-head (λ (b : old.Answer). IsVectorOf r b.0) a [] v) in omega (arith, length-drop k (listed a.0)))),
  )
  one_left k (a ∷ b ∷ as') s v h = absurd (omega arith)

  three_parts : (k : ℕ) (xs ys zs : List old.Answer) → map (after k) (xs ++ (ys ++ zs)) ≡ map (after k) xs ++ (map (after k) ys ++ map (after k) zs)
  three_parts k xs ys zs =
      map-append (after k) xs (ys ++ zs) ∙ ap (λ (as' : List VectorVerdict). map (after k) xs ++ as') (map-append (after k) ys zs)

  pub merged_of : (j k : ℕ) (as' : List old.Answer) → j + k ≡ r.common → AreVectors as' → merging.IsMerged j k as' → IsMerged j (map (after k) as')
  merged_of zero k as' s v h = one_left k as' (omega arith) v h
  merged_of (suc j) k as' s v (inl h) =
      inl (map (after (suc k)) as', under_is Any k as' (omega arith) v h.any, merged_of j (suc k) as' (omega arith) v h.merged)
  merged_of (suc j) k as' s v (inr h) =
      let P : old.Answer → Type 0 = λ b. IsVectorOf r b.0 in
      let all : AreVectors (h.before ++ (h.same ++ h.after)) = subst AreVectors h.is v in
      let first : AreVectors h.before = all_front P h.before (h.same ++ h.after) all in
      let rest : AreVectors (h.same ++ h.after) = all_back P h.before (h.same ++ h.after) all in
      let second : AreVectors h.same = all_front P h.same h.after rest in
      let third : AreVectors h.after = all_back P h.same h.after rest in
      inr (record {
        less = map (after (suc k)) h.before;
        equal = map (after (suc k)) h.same;
        greater = map (after (suc k)) h.after;
        is = ap (map (after k)) h.is ∙ three_parts k h.before h.same h.after
            ∙ ap₂ (λ (xs ys : List VectorVerdict). xs ++ ys) (under_is Lt k h.before (omega arith) first h.less)
            (ap₂ (λ (xs ys : List VectorVerdict). xs ++ ys) (under_is Eq k h.same (omega arith) second h.equal) (under_is Gt k h.after (omega arith) third h.greater));
        merged = (
          merged_of j (suc k) h.before (omega arith) first h.before_merged,
          merged_of j (suc k) h.same (omega arith) second h.same_merged,
          merged_of j (suc k) h.after (omega arith) third h.after_merged,
        );
        differ = λ e f. h.differ (alike k h.before h.same first second e) (alike k h.before h.after first third f);
      })

  none_left : (s t : ℕ) (turn : Bool) (k : ℕ) (as' : List old.Answer) → Tells turn s t → k ≡ r.common → AreVectors as' → MatchBool turn (length as' ≡ 1) (as' ≡ [])
      → IsListed s t 0 (map (after k) as')
  none_left s t true k as' w e v h = inl (w.yes refl, one_left k as' e v h)
  none_left s t false k as' w e v h = inr ((λ l. differ (w.no l)), ap (map (after k)) h)
    where
      differ : false ≡ true → ⊥
      differ f = cc

  pub listed_of : (s t : ℕ) (turn : Bool) (j k : ℕ) (as' : List old.Answer) → Tells turn s t → j + k ≡ r.common → AreVectors as' → merging.IsListed turn j k as'
      → IsListed s t j (map (after k) as')
  listed_of s t turn zero k as' w e v h = none_left s t turn k as' w (omega arith) v h
  listed_of s t turn (suc j) k as' w e v h =
      let P : old.Answer → Type 0 = λ b. IsVectorOf r b.0 in
      let all : AreVectors (h.led ++ h.rest) = subst AreVectors h.is v in
      let first : AreVectors h.led = all_front P h.led h.rest all in
      let second : AreVectors h.rest = all_back P h.led h.rest all in (
        map (after (suc k)) h.led,
        map (after (suc k)) h.rest,
        ap (map (after k)) h.is ∙ map-append (after k) h.led h.rest
            ∙ ap₂ (λ (xs ys : List VectorVerdict). xs ++ ys) (under_is Lt k h.led (omega arith) first h.less) (under_is Eq k h.rest (omega arith) second h.equal),
        merged_of j (suc k) h.led (omega arith) first h.led_merged,
        listed_of s t turn j (suc k) h.rest w (omega arith) second h.rest_listed,
      )
