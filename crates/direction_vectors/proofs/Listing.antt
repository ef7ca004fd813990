-- The answers under a prefix, from those under the longer ones.
use Rattle.std.proofs.Common.{◌≡◌, ℕ, ◌+◌, ◌-◌, ◌<◌, ◌≤◌, ◌⊎◌, List, [], ◌∷◌, ◌++◌, length, get_or, zero, suc, refl, ap, subst, sym, arith, ◌∙◌, inl, inr, add-one, Bool, true, false}
use Rattle.std.specs.Prelude.{All}
use Rattle.std.proofs.lemmas.Bool.{both_ways, cases_lt, cases_order}
use Rattle.std.proofs.lemmas.List.Elements.{All-nil, All-cons, All-append}
use Rattle.subscripts.specs.declared.affine.Dir.{Dir}
use Rattle.subscripts.specs.declared.affine.Dir.TheVariants.{Lt, Eq, Gt, Any}
use Rattle.subscripts.specs.declared.affine.Dirs.{Dirs}
use Rattle.subscripts.specs.declared.verdict.Verdict.{Verdict}
use Rattle.subscripts.specs.declared.verdict.Verdict.TheVariants.{Never, Pair, Assumed}
use Rattle.direction_vectors.specs.vector_tests.Pairs.{IsMeeting, NeverMeet}
use Rattle.direction_vectors.specs.vector_tests.Refs.{IsVectorOf}
use Rattle.direction_vectors.specs.vector_tests.Ways.{IsRefutedVector}
use Rattle.direction_vectors.specs.vector_tests.Words.{IsDropWord}
use Rattle.direction_vectors.specs.declared.vector_tests.refs.RefPair.{RefPair}
use Rattle.direction_vectors.specs.Answers.{IsRight}
use Rattle.direction_vectors.specs.Candidates.{Answer, Covers, HoldsNever, HoldsOnce, IsCandidate, IsCovered, IsPlain, dir_at}
use Rattle.direction_vectors.specs.Merged.{AreAlike, IsListed, IsMerged, IsSameKind}
use Rattle.direction_vectors.specs.Parts.{AreListedUnder, AreUnder, HasPrefix, IsAnswerUnder, IsCandidateAnswer, IsEqualPrefix, IsPlainVector, IsWithin}
use Rattle.direction_vectors.specs.Unions.{AreAllAlike, IsMergedOf, IsOneAnswer, IsTested, IsUnion}
use Rattle.direction_vectors.specs.Vectors.{with_dir}
use Rattle.direction_vectors.proofs.Covering.{HoldTogether, never_of_all, never_of_both, not_covered, once_after, once_before, once_together, replaced, replaced_within, star_together, starred_from, starred_to, unstar_together}
use Rattle.direction_vectors.proofs.Places.{covers_itself, dir_cases, itself, last_of, other_dir, put_dir, put_vector, prefix_within, shorter, with_last, within_last}
use Rattle.direction_vectors.proofs.Uniting.{IsJoined, united_kind, united_right}

-- ---- plain directions

pub less_plain : IsPlain Lt
less_plain e = cc

pub equal_plain : IsPlain Eq
equal_plain e = cc

pub greater_plain : IsPlain Gt
greater_plain e = cc

-- ---- one vector

tested_right : (r : RefPair) (d : Dirs) (v : Verdict) → IsPlainVector r d → IsTested r d v → IsRight r d v
tested_right r d (Never w) p t = record {
  never = record {
    never = λ u c. subst (λ (z : Dirs). NeverMeet r z) (itself r d u p c) t.never;
    word = λ u c. subst (λ (z : Dirs). IsDropWord r z w) (itself r d u p c) t.dropped;
  };
  pair = tt;
  assumed = tt;
  kept = tt;
}
tested_right r d (Pair x y w) p t = record {
  never = tt;
  pair = record {
    exact = t.pair.0;
    each = λ u c. (x.at, (y.at, subst (λ (z : Dirs). IsMeeting r z x.at y.at) (itself r d u p c) t.pair.1.meeting));
    vector = d;
    covered = covers_itself r d p;
    meeting = t.pair.1.meeting;
    least = λ u i j c m. t.pair.1.least i j (subst (λ (z : Dirs). IsMeeting r z i j) (sym (itself r d u p c)) m);
  };
  assumed = tt;
  kept = t.kept;
}
tested_right r d (Assumed w) p t = record {
  never = tt;
  pair = tt;
  assumed = record {
    inexact = t.assumed.0;
    unrefuted = λ u c. subst (λ (z : Dirs). IsRefutedVector r z → ⊥) (itself r d u p c) t.assumed.1;
  };
  kept = t.kept;
}

covers_prefix : (r : RefPair) (d v : Dirs) (k : ℕ) → IsVectorOf r d → k ≡ r.common → HasPrefix d k v → Covers r d v
covers_prefix r d v k w e h = record { vector = w; at = λ m b. inr (sym (h m (omega arith))) }

-- ---- three parts, one after the other

weaker : (r : RefPair) (d : Dirs) (k : ℕ) (e : Dir) (answers : List Answer) → AreUnder r (with_dir d k e) (k + 1) answers → All (IsAnswerUnder r d k) answers
weaker r d k e answers u i q b =
    let h = u.each i q b in
    record { vector = h.vector; prefix = shorter d (get_or answers i q).0 k e h.prefix; right = h.right }

at_last : (r : RefPair) (d : Dirs) (k : ℕ) (e : Dir) (answers : List Answer) → IsVectorOf r d → k < 7 → AreUnder r (with_dir d k e) (k + 1) answers → All (λ a. dir_at a.0 k ≡ e) answers
at_last r d k e answers v l u i q b = last_of d (get_or answers i q).0 k e v.places l (u.each i q b).prefix

never_covered : (r : RefPair) (k : ℕ) (e f : Dir) (answers : List Answer) (v : Dirs) → k < r.common → All (λ a. dir_at a.0 k ≡ e) answers → dir_at v k ≡ f → IsPlain e → (e ≡ f → ⊥) → HoldsNever (λ a. Covers r a.0 v) answers
never_covered r k e f answers v b h s n u =
    never_of_all (λ a. Covers r a.0 v) answers (λ i q l. not_covered r (get_or answers i q).0 v k e f b (h i q l) s n u)

pub record AreParts (r : RefPair) (d : Dirs) (k : ℕ) (before same after : List Answer) : Type 0 where
  pub vector : IsVectorOf r d
  pub common : k < r.common
  pub seven : r.common ≤ 7
  pub before_under : AreUnder r (with_dir d k Lt) (k + 1) before
  pub same_under : AreUnder r (with_dir d k Eq) (k + 1) same
  pub after_under : AreUnder r (with_dir d k Gt) (k + 1) after

steps_left : (r : RefPair) (k : ℕ) → k < r.common → suc (r.common - (k + 1)) ≡ r.common - k
steps_left r k b = omega arith

merged_in : (r : RefPair) (d : Dirs) (k : ℕ) (answers : List Answer) → AreUnder r d (k + 1) answers → IsMerged (r.common - (k + 1)) (suc k) answers
merged_in r d k answers u = subst (λ (m : ℕ). IsMerged (r.common - (k + 1)) m answers) (add-one k) u.merged

module _ (r : RefPair) (d : Dirs) (k : ℕ) (before same after : List Answer) (h : AreParts r d k before same after) where
  within : k < 7
  within = let a = h.common in let b = h.seven in omega arith

  lesses : All (λ a. dir_at a.0 k ≡ Lt) before
  lesses = at_last r d k Lt before h.vector within h.before_under

  equals : All (λ a. dir_at a.0 k ≡ Eq) same
  equals = at_last r d k Eq same h.vector within h.same_under

  greaters : All (λ a. dir_at a.0 k ≡ Gt) after
  greaters = at_last r d k Gt after h.vector within h.after_under

  apart_once : (v : Dirs) → IsPlainVector r v → IsWithin d k v → HoldsOnce (λ a. Covers r a.0 v) (before ++ (same ++ after))
  apart_once v p g =
      elim (dir_cases (dir_at v k) (p.plain k h.common)) [
        | inl e ↦
            once_before (λ a. Covers r a.0 v) before (same ++ after) (h.before_under.once v p (within_last d v k Lt h.vector.places within g e))
            (never_of_both (λ a. Covers r a.0 v) same after (never_covered r k Eq Lt same v h.common equals e equal_plain (λ t. cc)) (never_covered r k Gt Lt after v h.common greaters e greater_plain (λ t. cc)))
        | inr o ↦ elim o [
          | inl e ↦
              once_after (λ a. Covers r a.0 v) before (same ++ after) (never_covered r k Lt Eq before v h.common lesses e less_plain (λ t. cc))
              (once_before (λ a. Covers r a.0 v) same after (h.same_under.once v p (within_last d v k Eq h.vector.places within g e))
              (never_covered r k Gt Eq after v h.common greaters e greater_plain (λ t. cc)))
          | inr e ↦
              once_after (λ a. Covers r a.0 v) before (same ++ after) (never_covered r k Lt Gt before v h.common lesses e less_plain (λ t. cc))
              (once_after (λ a. Covers r a.0 v) same after (never_covered r k Eq Gt same v h.common equals e equal_plain (λ t. cc))
              (h.after_under.once v p (within_last d v k Gt h.vector.places within g e)))
        ]
      ]

  pub apart_under : (AreAllAlike k before same after → ⊥) → AreUnder r d k (before ++ (same ++ after))
  apart_under n = record {
    each = All-append (IsAnswerUnder r d k) before (same ++ after) (weaker r d k Lt before h.before_under)
        (All-append (IsAnswerUnder r d k) same after (weaker r d k Eq same h.same_under) (weaker r d k Gt after h.after_under));
    once = apart_once;
    merged = subst (λ (m : ℕ). IsMerged m k (before ++ (same ++ after))) (steps_left r k h.common)
        (inr (record {
          before = before;
          same = same;
          after = after;
          is = refl;
          less = lesses;
          equal = equals;
          greater = greaters;
          before_merged = merged_in r (with_dir d k Lt) k before h.before_under;
          same_merged = merged_in r (with_dir d k Eq) k same h.same_under;
          after_merged = merged_in r (with_dir d k Gt) k after h.after_under;
          differ = λ a b. n (record { second = a; third = b });
        }));
  }

-- ---- similar lists are merged alike

record IsSimilar (k : ℕ) (a b : Answer) : Type 0 where
  dirs : (m : ℕ) → k ≤ m → dir_at a.0 m ≡ dir_at b.0 m
  kind : IsSameKind a.1 b.1

abbrev AreSimilar : ℕ → List Answer → List Answer → Type 0
AreSimilar k [] [] = Unit {0}
AreSimilar k [] (y ∷ ys) = ⊥
AreSimilar k (x ∷ xs) [] = ⊥
AreSimilar k (x ∷ xs) (y ∷ ys) = IsSimilar k x y × AreSimilar k xs ys

similar_length : (k : ℕ) (xs ys : List Answer) → AreSimilar k xs ys → length xs ≡ length ys
similar_length k [] [] h = refl
similar_length k [] (y ∷ ys) h = absurd h
similar_length k (x ∷ xs) [] h = absurd h
similar_length k (x ∷ xs) (y ∷ ys) h = ap suc (similar_length k xs ys h.1)

similar_at : (k : ℕ) (xs ys : List Answer) (i : ℕ) (a b : Answer) → AreSimilar k xs ys → i < length xs → IsSimilar k (get_or xs i a) (get_or ys i b)
similar_at k [] ys i a b h l = absurd (omega arith)
similar_at k (x ∷ xs) [] i a b h l = absurd h
similar_at k (x ∷ xs) (y ∷ ys) zero a b h l = h.0
similar_at k (x ∷ xs) (y ∷ ys) (suc i) a b h l = similar_at k xs ys i a b h.1 (omega arith)

similar_from : (k : ℕ) (xs ys : List Answer) → length ys ≡ length xs → ((i : ℕ) (a : Answer) → i < length xs → IsSimilar k (get_or xs i a) (get_or ys i a)) → AreSimilar k xs ys
similar_from k [] [] e h = tt
similar_from k [] (y ∷ ys) e h = absurd (omega arith)
similar_from k (x ∷ xs) [] e h = absurd (omega arith)
similar_from k (x ∷ xs) (y ∷ ys) e h = (h zero x (omega arith), similar_from k xs ys (omega arith) (λ i a b. h (suc i) a (omega arith)))

further : (k : ℕ) (xs ys : List Answer) → AreSimilar k xs ys → AreSimilar (suc k) xs ys
further k [] [] h = tt
further k [] (y ∷ ys) h = h
further k (x ∷ xs) [] h = h
further k (x ∷ xs) (y ∷ ys) h = (record { dirs = λ m b. h.0.dirs m (omega arith); kind = h.0.kind }, further k xs ys h.1)

record IsCutAlike (k : ℕ) (as' bs ys : List Answer) : Type 0 where
  first : List Answer
  second : List Answer
  is : ys ≡ first ++ second
  first_similar : AreSimilar k as' first
  second_similar : AreSimilar k bs second

cut_alike : (k : ℕ) (as' bs ys : List Answer) → AreSimilar k (as' ++ bs) ys → IsCutAlike k as' bs ys
cut_alike k [] bs ys h = record { first = []; second = ys; is = refl; first_similar = tt; second_similar = h }
cut_alike k (a ∷ as') bs [] h = absurd h
cut_alike k (a ∷ as') bs (y ∷ ys) h =
    let c = cut_alike k as' bs ys h.1 in
    record { first = y ∷ c.first; second = c.second; is = ap (λ (zs : List Answer). y ∷ zs) c.is; first_similar = (h.0, c.first_similar); second_similar = c.second_similar }

same_dir : (k : ℕ) (e : Dir) (xs ys : List Answer) → AreSimilar k xs ys → All (λ a. dir_at a.0 k ≡ e) xs → All (λ a. dir_at a.0 k ≡ e) ys
same_dir k e xs ys h a i q b =
    let l = similar_length k xs ys h in
    sym ((similar_at k xs ys i q q h (omega arith)).dirs k (omega arith)) ∙ a i q (omega arith)

alike_back : (k : ℕ) (xs ys xs' ys' : List Answer) → AreSimilar k xs xs' → AreSimilar k ys ys' → AreAlike k xs' ys' → AreAlike k xs ys
alike_back k xs ys xs' ys' h g a = record {
  same_length = similar_length k xs xs' h ∙ a.same_length ∙ sym (similar_length k ys ys' g);
  each = λ i p q b.
      let n = similar_length k xs xs' h in
      let m = similar_length k ys ys' g in
      let l = a.same_length in
      let s = similar_at k xs xs' i p p h b in
      let t = similar_at k ys ys' i q q g (omega arith) in
      let c = a.each i p q (omega arith) in
      record {
        dirs = λ o w z. s.dirs o (omega arith) ∙ c.dirs o w z ∙ sym (t.dirs o (omega arith));
        kind = s.kind ∙ c.kind ∙ sym t.kind;
      };
}

merged_alike : (n k : ℕ) (xs ys : List Answer) → AreSimilar k xs ys → IsMerged n k xs → IsMerged n k ys
merged_alike zero k xs ys h m = sym (similar_length k xs ys h) ∙ m
merged_alike (suc n) k xs ys h (inl s) = inl (record { any = same_dir k Any xs ys h s.any; merged = merged_alike n (suc k) xs ys (further k xs ys h) s.merged })
merged_alike (suc n) k xs ys h (inr s) =
    let c = cut_alike k s.before (s.same ++ s.after) ys (subst (λ (z : List Answer). AreSimilar k z ys) s.is h) in
    let e = cut_alike k s.same s.after c.second c.second_similar in
    inr (record {
      before = c.first;
      same = e.first;
      after = e.second;
      is = c.is ∙ ap (λ (z : List Answer). c.first ++ z) e.is;
      less = same_dir k Lt s.before c.first c.first_similar s.less;
      equal = same_dir k Eq s.same e.first e.first_similar s.equal;
      greater = same_dir k Gt s.after e.second e.second_similar s.greater;
      before_merged = merged_alike n (suc k) s.before c.first (further k s.before c.first c.first_similar) s.before_merged;
      same_merged = merged_alike n (suc k) s.same e.first (further k s.same e.first e.first_similar) s.same_merged;
      after_merged = merged_alike n (suc k) s.after e.second (further k s.after e.second e.second_similar) s.after_merged;
      differ = λ a b. s.differ (alike_back k s.before s.same c.first e.first c.first_similar e.first_similar a) (alike_back k s.before s.after c.first e.second c.first_similar e.second_similar b);
    })

-- ---- three alike parts as one

same_prefix : (r : RefPair) (d a b : Dirs) (k : ℕ) → IsVectorOf r a → IsVectorOf r b → r.common ≤ 7 → HasPrefix d k a → HasPrefix d k b → ((m : ℕ) → k < m → m < 7 → dir_at a m ≡ dir_at b m)
    → (m : ℕ) → (m ≡ k → ⊥) → dir_at b m ≡ dir_at a m
same_prefix r d a b k va vb c h g t m u =
    elim (cases_order m k) [
      | inl e ↦ absurd (u e)
      | inr o ↦ elim o [
        | inl l ↦ g m l ∙ sym (h m l)
        | inr l ↦ elim (cases_lt m 7) [ inl s ↦ sym (t m l s) | inr s ↦ vb.past_len m (omega arith) ∙ sym (va.past_len m (omega arith)) ]
      ]
    ]

covered_apart : (r : RefPair) (a b c v : Dirs) (k : ℕ) → IsVectorOf r a → IsVectorOf r b → IsVectorOf r c → k < r.common → dir_at a k ≡ Lt → dir_at b k ≡ Eq → dir_at c k ≡ Gt
    → ((m : ℕ) → (m ≡ k → ⊥) → dir_at b m ≡ dir_at a m) → ((m : ℕ) → (m ≡ k → ⊥) → dir_at c m ≡ dir_at a m) → IsCovered r (with_dir a k Any) v
    → IsCovered r a v ⊎ (IsCovered r b v ⊎ IsCovered r c v)
covered_apart r a b c v k wa wb wc l ea eb ec hb hc n =
    elim (dir_cases (dir_at v k) (n.plain k l)) [
      | inl e ↦ inl (record { vector = n.vector; plain = n.plain; covers = starred_to r a a v k wa (λ m u. refl) (ea ∙ sym e) n.covers })
      | inr o ↦ elim o [
        | inl e ↦ inr (inl (record { vector = n.vector; plain = n.plain; covers = starred_to r a b v k wb hb (eb ∙ sym e) n.covers }))
        | inr e ↦ inr (inr (record { vector = n.vector; plain = n.plain; covers = starred_to r a c v k wc hc (ec ∙ sym e) n.covers }))
      ]
    ]

covered_up : (r : RefPair) (a b v : Dirs) (k : ℕ) → IsVectorOf r a → k < r.common → k < 7 → ((m : ℕ) → (m ≡ k → ⊥) → dir_at b m ≡ dir_at a m) → IsCovered r b v → IsCovered r (with_dir a k Any) v
covered_up r a b v k w l s h n = record { vector = n.vector; plain = n.plain; covers = starred_from r a b v k w l s h n.covers }

module _ (r : RefPair) (d : Dirs) (k : ℕ) (before same after answers : List Answer) (h : AreParts r d k before same after) (u : IsUnion before same after k answers) where
  inside : k < 7
  inside = let a = h.common in let b = h.seven in omega arith

  united_each : (i : ℕ) (q : Answer) → i < length before → IsAnswerUnder r d k (get_or answers i q)
  united_each i q b =
      let la = u.alike.second.same_length in
      let lc = u.alike.third.same_length in
      let ua = h.before_under.each i q b in
      let ub = h.same_under.each i q (omega arith) in
      let uc = h.after_under.each i q (omega arith) in
      let t = u.united.each i q b in
      let sb = u.alike.second.each i q q b in
      let sc = u.alike.third.each i q q b in
      let pa = shorter d (get_or before i q).0 k Lt ua.prefix in
      let hb = same_prefix r d (get_or before i q).0 (get_or same i q).0 k ua.vector ub.vector h.seven pa (shorter d (get_or same i q).0 k Eq ub.prefix) sb.dirs in
      let hc = same_prefix r d (get_or before i q).0 (get_or after i q).0 k ua.vector uc.vector h.seven pa (shorter d (get_or after i q).0 k Gt uc.prefix) sc.dirs in
      let ea = last_of d (get_or before i q).0 k Lt h.vector.places inside ua.prefix in
      let eb = last_of d (get_or same i q).0 k Eq h.vector.places inside ub.prefix in
      let ec = last_of d (get_or after i q).0 k Gt h.vector.places inside uc.prefix in
      let j : IsJoined r (get_or before i q).0 (get_or same i q).0 (get_or after i q).0 (with_dir (get_or before i q).0 k Any) =
      record {
        apart = λ v n. covered_apart r (get_or before i q).0 (get_or same i q).0 (get_or after i q).0 v k ua.vector ub.vector uc.vector h.common ea eb ec hb hc n;
        first = λ v n. covered_up r (get_or before i q).0 (get_or before i q).0 v k ua.vector h.common inside (λ m o. refl) n;
        second = λ v n. covered_up r (get_or before i q).0 (get_or same i q).0 v k ua.vector h.common inside hb n;
        third = λ v n. covered_up r (get_or before i q).0 (get_or after i q).0 v k ua.vector h.common inside hc n;
      } in
      let right = united_right r (get_or before i q).0 (get_or same i q).0 (get_or after i q).0 (with_dir (get_or before i q).0 k Any) j (get_or before i q).1 (get_or same i q).1 (get_or after i q).1 (get_or answers i q).1
      sb.kind sc.kind t.verdict ua.right ub.right uc.right in
      record {
        vector = subst (λ (z : Dirs). IsVectorOf r z) (sym t.dirs) (put_vector r (get_or before i q).0 k Any ua.vector h.common);
        prefix = λ m l. ap (λ (z : Dirs). dir_at z m) t.dirs ∙ other_dir (get_or before i q).0 k m Any (λ s. omega arith) ∙ pa m l;
        right = subst (λ (z : Dirs). IsRight r z (get_or answers i q).1) (sym t.dirs) right;
      }

  together : (v : Dirs) (i : ℕ) (q : Answer) → IsVectorOf r v → i < length before → HoldTogether (λ a. Covers r a.0 (with_dir v k Lt)) (λ a. Covers r a.0 v) (get_or before i q) (get_or answers i q)
  together v i q w b =
      let ua = h.before_under.each i q b in
      let t = u.united.each i q b in
      let ea = last_of d (get_or before i q).0 k Lt h.vector.places inside ua.prefix in
      record {
        first = λ c. subst (λ (z : Dirs). Covers r z v) (sym t.dirs) (star_together r (get_or before i q).0 v k Lt ua.vector w h.common inside ea c);
        second = λ c. unstar_together r (get_or before i q).0 v k Lt ua.vector w h.common inside ea (subst (λ (z : Dirs). Covers r z v) t.dirs c);
      }

  similar : (i : ℕ) (q : Answer) → i < length before → IsSimilar (suc k) (get_or before i q) (get_or answers i q)
  similar i q b =
      let t = u.united.each i q b in
      record {
        dirs = λ m l. sym (ap (λ (z : Dirs). dir_at z m) t.dirs ∙ other_dir (get_or before i q).0 k m Any (λ s. omega arith));
        kind = united_kind (get_or before i q).1 (get_or same i q).1 (get_or after i q).1 (get_or answers i q).1 (u.alike.second.each i q q b).kind (u.alike.third.each i q q b).kind t.verdict;
      }

  pub union_under : AreUnder r d k answers
  union_under =
      let l = u.united.same_length in
      record {
        each = λ i q b. united_each i q (omega arith);
        once = λ v p g.
            once_together (λ a. Covers r a.0 (with_dir v k Lt)) (λ a. Covers r a.0 v) before answers l (λ i q b. together v i q p.vector b)
            (h.before_under.once (with_dir v k Lt) (replaced r v k Lt p h.common inside less_plain) (replaced_within r d v k Lt h.vector p.vector inside g));
        merged = subst (λ (m : ℕ). IsMerged m k answers) (steps_left r k h.common)
            (inl (record {
              any = λ i q b.
                  let c : i < length before = omega arith in
                  let t = u.united.each i q c in
                  ap (λ (z : Dirs). dir_at z k) t.dirs ∙ put_dir (get_or before i q).0 k Any (h.before_under.each i q c).vector.places inside;
              merged = merged_alike (r.common - (k + 1)) (suc k) before answers (similar_from (suc k) before answers l similar) (merged_in r (with_dir d k Lt) k before h.before_under);
            }));
      }

pub merged_under : (r : RefPair) (d : Dirs) (k : ℕ) (before same after answers : List Answer) → AreParts r d k before same after → IsMergedOf before same after k answers → AreUnder r d k answers
merged_under r d k before same after answers h (inl u) = union_under r d k before same after answers h u
merged_under r d k before same after answers h (inr n) = subst (λ (z : List Answer). AreUnder r d k z) (sym n.1) (apart_under r d k before same after h n.0)

-- ---- candidates

-- where an answer has a plain direction, a vector that it covers has the same
pub plain_same : (r : RefPair) (a v : Dirs) (m : ℕ) (e : Dir) → m < r.common → dir_at a m ≡ e → IsPlain e → Covers r a v → dir_at v m ≡ e
plain_same r a v m e b s n c = elim (c.at m b) [ inl x ↦ absurd (n (sym s ∙ x)) | inr x ↦ sym x ∙ s ]

pub record AreLedParts (r : RefPair) (d : Dirs) (k : ℕ) (led rest : List Answer) : Type 0 where
  pub prefix : IsEqualPrefix r d k
  pub common : k < r.common
  pub seven : r.common ≤ 7
  pub led_under : AreUnder r (with_dir d k Lt) (k + 1) led
  pub rest_under : AreListedUnder r (with_dir d k Eq) (k + 1) rest

module _ (r : RefPair) (d : Dirs) (k : ℕ) (led rest : List Answer) (h : AreLedParts r d k led rest) where
  here : k < 7
  here = let a = h.common in let b = h.seven in omega arith

  led_answer : (i : ℕ) (q : Answer) → i < length led → IsCandidateAnswer r d k (get_or led i q)
  led_answer i q b =
      let n = h.led_under.each i q b in
      let pre = shorter d (get_or led i q).0 k Lt n.prefix in
      record {
        under = record { vector = n.vector; prefix = pre; right = n.right };
        candidates = λ v p c. record {
          vector = p.vector;
          plain = p.plain;
          led = inl (
            k,
            record {
              common = h.common;
              before = λ m l. plain_same r (get_or led i q).0 v m Eq (let w = h.common in omega arith) (pre m l ∙ h.prefix.equal m l) equal_plain c;
              less = plain_same r (get_or led i q).0 v k Lt h.common (last_of d (get_or led i q).0 k Lt h.prefix.vector.places here n.prefix) less_plain c;
            },
          );
        };
      }

  rest_answer : (i : ℕ) (q : Answer) → i < length rest → IsCandidateAnswer r d k (get_or rest i q)
  rest_answer i q b =
      let n = h.rest_under.each i q b in
      record { under = record { vector = n.under.vector; prefix = shorter d (get_or rest i q).0 k Eq n.under.prefix; right = n.under.right }; candidates = n.candidates }

  led_less : All (λ a. dir_at a.0 k ≡ Lt) led
  led_less = at_last r d k Lt led h.prefix.vector here h.led_under

  rest_equal : All (λ a. dir_at a.0 k ≡ Eq) rest
  rest_equal i q b = last_of d (get_or rest i q).0 k Eq h.prefix.vector.places here (h.rest_under.each i q b).under.prefix

  not_greater : (v : Dirs) → IsCandidate r v → HasPrefix d k v → dir_at v k ≡ Gt → ⊥
  not_greater v c g e =
      elim c.led [
        | inl l ↦ elim (cases_order l.0 k) [
          | inl s ↦ let t : dir_at v k ≡ Lt = subst (λ (m : ℕ). dir_at v m ≡ Lt) s l.1.less in cc
          | inr o ↦ elim o [
            | inl b ↦ let t : dir_at v l.0 ≡ Eq = g l.0 b ∙ h.prefix.equal l.0 b in let w = l.1.less in cc
            | inr b ↦ let t = l.1.before k b in cc
          ]
        ]
        | inr a ↦ let t = a.1 k h.common in cc
      ]

  listed_once : (v : Dirs) → IsCandidate r v → HasPrefix d k v → HoldsOnce (λ a. Covers r a.0 v) (led ++ rest)
  listed_once v c g =
      elim (dir_cases (dir_at v k) (c.plain k h.common)) [
        | inl e ↦
            once_before (λ a. Covers r a.0 v) led rest (h.led_under.once v (record { vector = c.vector; plain = c.plain }) (prefix_within (with_dir d k Lt) (k + 1) v (with_last d v k Lt h.prefix.vector.places here g e)))
            (never_covered r k Eq Lt rest v h.common rest_equal e equal_plain (λ t. cc))
        | inr o ↦ elim o [
          | inl e ↦
              once_after (λ a. Covers r a.0 v) led rest (never_covered r k Lt Eq led v h.common led_less e less_plain (λ t. cc))
              (h.rest_under.once v c (with_last d v k Eq h.prefix.vector.places here g e))
          | inr e ↦ absurd (not_greater v c g e)
        ]
      ]

  pub led_then_rest : AreListedUnder r d k (led ++ rest)
  led_then_rest = record {
    each = All-append (IsCandidateAnswer r d k) led rest led_answer rest_answer;
    once = listed_once;
    listed = subst (λ (m : ℕ). IsListed r.same_turn m k (led ++ rest)) (steps_left r k h.common)
        (record {
          led = led;
          rest = rest;
          is = refl;
          less = led_less;
          equal = rest_equal;
          led_merged = merged_in r (with_dir d k Lt) k led h.led_under;
          rest_listed = subst (λ (m : ℕ). IsListed r.same_turn (r.common - (k + 1)) m rest) (add-one k) h.rest_under.listed;
        });
  }

-- `=` alone
equal_all : (r : RefPair) (d : Dirs) (k : ℕ) → IsEqualPrefix r d k → k ≡ r.common → (m : ℕ) → m < r.common → dir_at d m ≡ Eq
equal_all r d k p e m b = p.equal m (omega arith)

turn_alone : (turn : Bool) (k : ℕ) (a : Answer) → turn ≡ true → IsListed turn 0 k (a ∷ [])
turn_alone true k a e = refl
turn_alone false k a e = cc

one_listed : (r : RefPair) (d : Dirs) (k : ℕ) (v : Verdict) → IsEqualPrefix r d k → k ≡ r.common → r.same_turn ≡ true → IsTested r d v → AreListedUnder r d k ((d, v) ∷ [])
one_listed r d k v p e s t =
    let plain : IsPlainVector r d = record { vector = p.vector; plain = λ m b a. equal_plain (sym (equal_all r d k p e m b) ∙ a) } in
    let none : 0 ≡ r.common - k = omega arith in
    record {
      each = All-cons (IsCandidateAnswer r d k) (d, v) []
          (record {
            under = record { vector = p.vector; prefix = λ m b. refl; right = tested_right r d v plain t };
            candidates = λ u q c. record { vector = q.vector; plain = q.plain; led = inr (s, λ m b. plain_same r d u m Eq b (equal_all r d k p e m b) equal_plain c) };
          }) (All-nil (IsCandidateAnswer r d k));
      once = λ u c h. inl (covers_prefix r d u k p.vector e h, tt);
      listed = subst (λ (n : ℕ). IsListed r.same_turn n k ((d, v) ∷ [])) none (turn_alone r.same_turn k (d, v) s);
    }

no_turn : (turn : Bool) (k : ℕ) → turn ≡ false → IsListed turn 0 k []
no_turn true k e = cc
no_turn false k e = refl

pub answer_listed : (r : RefPair) (d : Dirs) (k : ℕ) (answers : List Answer) → IsEqualPrefix r d k → k ≡ r.common → r.same_turn ≡ true → IsOneAnswer r d answers → AreListedUnder r d k answers
answer_listed r d k answers p e s o = subst (λ (z : List Answer). AreListedUnder r d k z) (sym o.is) (one_listed r d k o.verdict p e s o.tested)

-- no candidate is left where `=` alone is none
no_candidate : (r : RefPair) (d v : Dirs) (k : ℕ) → IsEqualPrefix r d k → k ≡ r.common → r.same_turn ≡ false → IsCandidate r v → HasPrefix d k v → ⊥
no_candidate r d v k p e s c h =
    elim c.led [
      | inl l ↦
          let b = l.1.common in
          let t : dir_at v l.0 ≡ Eq = h l.0 (omega arith) ∙ p.equal l.0 (omega arith) in
          let w = l.1.less in
          cc
      | inr a ↦ both_ways r.same_turn s a.0
    ]

pub none_listed : (r : RefPair) (d : Dirs) (k : ℕ) → IsEqualPrefix r d k → k ≡ r.common → r.same_turn ≡ false → AreListedUnder r d k []
none_listed r d k p e s =
    let none : 0 ≡ r.common - k = omega arith in
    record {
      each = All-nil (IsCandidateAnswer r d k);
      once = λ v c h. absurd (no_candidate r d v k p e s c h);
      listed = subst (λ (n : ℕ). IsListed r.same_turn n k []) none (no_turn r.same_turn k s);
    }
