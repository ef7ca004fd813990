-- The words that the tests give.
use Rattle.std.proofs.Common.{◌≡◌, refl, sym, ap, ◌∙◌, subst, ℕ, ◌<◌, Bool, true, false, Option, Some, None, List, [], ◌∷◌, length, map}
use Rattle.std.specs.Prelude.{ℤ, All, IsTrue, slice_get}
use Rattle.std.proofs.lemmas.List.Elements.{All-cons, All-head, All-nil, All-tail}
use Rattle.subscripts.specs.Classes as old
use Rattle.subscripts.specs.Forms.{HasNoPair, IsPairOf}
use Rattle.subscripts.specs.Refutations as refuting
use Rattle.subscripts.specs.declared.affine.Dir.{Dir}
use Rattle.subscripts.specs.declared.pairing.Class.{Class}
use Rattle.subscripts.specs.declared.pairing.Class.TheVariants as class
use Rattle.subscripts.specs.declared.pairing.Pairing.{Pairing}
use Rattle.subscripts.specs.declared.verdict.Test.{Test}
use Rattle.subscripts.specs.declared.verdict.Test.TheVariants.{Trip, Scalar, Ziv, Strong, WeakZero, Crossing, Siv, Delta, Gcd, Range, Miv, Unknown}
use Rattle.direction_vectors.specs.vector_tests.Words as words
use Rattle.direction_vectors.specs.declared.vector_tests.refs.RefPair.{RefPair}
use Rattle.dependence_graph.specs.nest_graph.Arcs.{in_places}
use Rattle.dependence_graph.specs.nest_graph.Indices.{Contains, EachGrouped, HasClass, IsChain, IsGeneral, IsSeparable, IsWeakCrossing, IsWeakZero, IsZiv, SubscriptPair, subscript_pairs}
use Rattle.dependence_graph.specs.nest_graph.Paired.{pairing_of, refs_of}
use Rattle.dependence_graph.specs.nest_graph.Refuted.{AreEqual, AreNeverEqual, IsInVector, IsOneSided, IsRefutedByGcd}
use Rattle.dependence_graph.specs.nest_graph.Tested.{Both, common_of}
use Rattle.dependence_graph.specs.nest_graph.Words.{HasRefutedGroup, HasSeparable, IsCause, IsDropWord, IsEdgeWord, IsFirstNotZiv}
use Rattle.dependence_graph.proofs.dep_graph.Coupling.{chain_of, coupled_of, from_map, linear_at, no_trip_of, old_coupled, old_no_trip, pairing_at, same_pair}
use Rattle.dependence_graph.proofs.dep_graph.Lists.{with_ones}
use Rattle.dependence_graph.proofs.dep_graph.Pairings.{AreShallow, AreShort, difference_is, gcd_of, never_of, old_gcd, old_loop, old_siv, old_ziv, region_none, region_of, sided_of, siv_where, ziv_of}

-- the word of a class
abbrev pub word_of : Class → Test
word_of class.Unknown = Unknown
word_of class.Ziv = Ziv
word_of class.Strong = Strong
word_of class.WeakZero = WeakZero
word_of class.WeakCrossing = Crossing
word_of class.GeneralSiv = Siv
word_of class.Miv = Miv

unknown_not : false ≡ true → ⊥
unknown_not e = cc

known_not : true ≡ false → ⊥
known_not e = cc

module _ (b : Both) (turn : Bool) (shallow : AreShallow b) where
  abbrev r : RefPair
  r = refs_of b turn

  -- ---- classes

  general : (x y : ℤ) → old.IsGeneral x y → IsGeneral x y
  general x y h = record { not_strong = h.not_strong; not_zero = h.not_zero; not_crossing = h.not_crossing }

  class_of : (o : Option SubscriptPair) (c : Class) → old.HasClass (pairing_of b o) c → HasClass b o (word_of c)
  class_of None class.Unknown h = refl
  class_of None class.Ziv h = absurd (unknown_not h.known)
  class_of None class.Strong h = absurd (unknown_not h.1.0.known)
  class_of None class.WeakZero h = absurd (unknown_not h.1.0.known)
  class_of None class.WeakCrossing h = absurd (unknown_not h.1.0.known)
  class_of None class.GeneralSiv h = absurd (unknown_not h.1.0.known)
  class_of None class.Miv h = absurd (unknown_not h.known)
  class_of (Some p) class.Unknown h = absurd (known_not h)
  class_of (Some p) class.Ziv h = ziv_of b shallow p h
  class_of (Some p) class.Strong h = siv_where b shallow p old.IsStrong (λ x y. x ≡ y) (λ x y e. e) h
  class_of (Some p) class.WeakZero h = siv_where b shallow p old.IsWeakZero IsWeakZero (λ x y e. e) h
  class_of (Some p) class.WeakCrossing h = siv_where b shallow p old.IsWeakCrossing IsWeakCrossing (λ x y e. e) h
  class_of (Some p) class.GeneralSiv h = siv_where b shallow p old.IsGeneral IsGeneral general h
  class_of (Some p) class.Miv h = record {
    not_ziv = λ z. h.not_ziv (old_ziv b shallow p z);
    not_siv = λ i z. h.not_siv (old_loop i) (old_siv b shallow p i z);
  }

  old_ziv_of : (o : Option SubscriptPair) → HasClass b o Ziv → old.IsZiv (pairing_of b o)
  old_ziv_of None h = absurd (differ h)
    where
      differ : Ziv ≡ Unknown → ⊥
      differ e = cc
  old_ziv_of (Some p) h = old_ziv b shallow p h

  new_ziv_of : (o : Option SubscriptPair) → old.IsZiv (pairing_of b o) → HasClass b o Ziv
  new_ziv_of o h = class_of o class.Ziv h

  -- ---- separable pairs

  separable_of : (k : ℕ) → words.IsSeparable r.subs k → IsSeparable b k
  separable_of k h m c = h m (old_coupled b turn shallow k m c)

  old_separable : (k : ℕ) → IsSeparable b k → words.IsSeparable r.subs k
  old_separable k h m c = h m (coupled_of b turn shallow k m c)

  known_by : (c : Class) (x : Pairing) → (c ≡ class.Unknown → ⊥) → old.HasClass x c → IsTrue x.known
  known_by class.Unknown x n h = absurd (n refl)
  known_by class.Ziv x n h = h.known
  known_by class.Strong x n h = h.1.0.known
  known_by class.WeakZero x n h = h.1.0.known
  known_by class.WeakCrossing x n h = h.1.0.known
  known_by class.GeneralSiv x n h = h.1.0.known
  known_by class.Miv x n h = h.known

  has_separable : (c : Class) (P : Pairing → Type 0) (Q : SubscriptPair → Type 0) → (c ≡ class.Unknown → ⊥)
      → ((k : ℕ) (p : SubscriptPair) → slice_get (subscript_pairs b) k ≡ Some (Some p) → P (pairing_of b (Some p)) → Q p)
      → words.HasSeparable r.subs c P → HasSeparable b (word_of c) Q
  has_separable c P Q n f h =
      let l = linear_at b turn shallow h.at h.pairing h.is_at (known_by c h.pairing n h.has_class) in
      record {
        at = h.at;
        pair = l.0;
        is_at = l.1;
        separable = separable_of h.at h.separable;
        has_class = class_of (Some l.0) c (subst (λ (x : Pairing). old.HasClass x c) l.2 h.has_class);
        so = f h.at l.0 l.1 (subst P l.2 h.so);
      }

  -- ---- constants

  constants_of : words.HasUnequalConstants r.subs → HasSeparable b Ziv (λ p. p.first.constant ≡ p.second.constant → ⊥)
  constants_of h =
      let l = linear_at b turn shallow h.at h.pairing h.is_at h.ziv.known in
      let z : IsZiv b l.0 = ziv_of b shallow l.0 (subst old.IsZiv l.2 h.ziv) in
      record {
        at = h.at;
        pair = l.0;
        is_at = l.1;
        separable = λ m c. absurd (z.none c.index
            (subst (λ (p : SubscriptPair). Contains b p c.index) (same_pair (slice_get (subscript_pairs b) h.at) c.first l.0 c.first_is l.1) c.in_first));
        has_class = z;
        so = subst (λ (x : Pairing). x.from.constant ≡ x.to.constant → ⊥) l.2 h.differ;
      }

  old_constants : HasSeparable b Ziv (λ p. p.first.constant ≡ p.second.constant → ⊥) → words.HasUnequalConstants r.subs
  old_constants h = record {
    at = h.at;
    pairing = pairing_of b (Some h.pair);
    is_at = pairing_at b turn shallow h.at (Some h.pair) h.is_at;
    ziv = old_ziv b shallow h.pair h.has_class;
    differ = h.so;
  }

  module _ (short : (k : ℕ) (p : SubscriptPair) → slice_get (subscript_pairs b) k ≡ Some (Some p) → AreShort b p) (v : List Dir)
      (long : length v ≡ common_of b.first.loops b.second.loops) where
    -- ---- a dropped vector

    group_of : words.HasRefutedGroup r.subs (in_places v) → HasRefutedGroup b v
    group_of h = record {
      at = h.at;
      several = λ s. h.several (old_separable h.at s);
      none = λ x y region each.
          h.none (with_ones x) (with_ones y) (λ j q g e. member x y region each j q g.0 (chain_of b turn shallow g.0 h.at j g.1) e);
    }
      where
        member : (x y : List ℤ) → IsInVector b v x y → EachGrouped b h.at (λ p. AreEqual b p x y) → (j : ℕ) (q : Pairing) (ks : List ℕ)
            → IsChain b h.at ks j → slice_get r.subs j ≡ Some q → IsPairOf q (in_places v) (with_ones x) (with_ones y)
        member x y region each j q ks c e = let f = from_map (pairing_of b) (subscript_pairs b) j q e in by f.source f.is_at f.is
          where
            by : (o : Option SubscriptPair) → slice_get (subscript_pairs b) j ≡ Some o → q ≡ pairing_of b o → IsPairOf q (in_places v) (with_ones x) (with_ones y)
            by None i s =
                subst (λ (z : Pairing). IsPairOf z (in_places v) (with_ones x) (with_ones y)) (sym s)
                (record { region = region_none b shallow v long x y region; equal = λ k. absurd (unknown_not k) })
            by (Some p) i s =
                let a = each j p ks c i in
                subst (λ (z : Pairing). IsPairOf z (in_places v) (with_ones x) (with_ones y)) (sym s)
                (record {
                  region = region_of b shallow p (short j p i) v long x y region;
                  equal = λ k. (a.0, difference_is b shallow p (short j p i) v long a.0 x y region ∙ a.1);
                })

    separable_word : (c : Class) → (c ≡ class.Unknown → ⊥) → words.HasSeparable r.subs c (λ p. HasNoPair p (in_places v)) → HasSeparable b (word_of c) (AreNeverEqual b v)
    separable_word c n h = has_separable c (λ p. HasNoPair p (in_places v)) (AreNeverEqual b v) n (λ k p e. never_of b shallow p (short k p e) v long) h

    later_trips : words.IsLater r (in_places v) → IsCause b v Trip → ⊥
    later_trips l h = l.trips (old_no_trip b turn shallow v long h)

    later_constants : words.IsLater r (in_places v) → IsCause b v Ziv → ⊥
    later_constants l h = l.constants (old_constants h)

    later : (w : Test) → words.IsLater r (in_places v) → IsCause b v w → IsDropWord b v w
    later w l c = record { cause = c; trips = λ n. later_trips l; constants = λ n m. later_constants l }

    pub drop_word_of : (w : Test) → words.IsDropWord r (in_places v) w → IsDropWord b v w
    drop_word_of Trip h = record { cause = no_trip_of b turn shallow v long h; trips = λ n g. n refl; constants = λ n m g. n refl }
    drop_word_of Ziv h = record {
      cause = constants_of h.1;
      trips = λ n g. h.0 (old_no_trip b turn shallow v long g);
      constants = λ n m g. m refl;
    }
    drop_word_of Strong h = later Strong h.0 (separable_word class.Strong (λ e. cc) h.1)
    drop_word_of WeakZero h = later WeakZero h.0 (separable_word class.WeakZero (λ e. cc) h.1)
    drop_word_of Crossing h = later Crossing h.0 (separable_word class.WeakCrossing (λ e. cc) h.1)
    drop_word_of Siv h = later Siv h.0 (separable_word class.GeneralSiv (λ e. cc) h.1)
    drop_word_of Delta h = later Delta h.0 (group_of h.1)
    drop_word_of Gcd h =
        later Gcd h.0 (has_separable class.Miv refuting.IsRefutedByGcd (IsRefutedByGcd b) (λ e. cc) (λ k p e. gcd_of b shallow p) h.1)
    drop_word_of Range h =
        later Range h.0
        (has_separable class.Miv (λ p. refuting.IsOneSided p (in_places v) × (refuting.IsRefutedByGcd p → ⊥)) (λ p. IsOneSided b v p × (IsRefutedByGcd b p → ⊥)) (λ e. cc)
        (λ k p e g. (sided_of b shallow p (short k p e) v long g.0, λ d. g.1 (old_gcd b shallow p d))) h.1)
    drop_word_of Scalar h = absurd h
    drop_word_of Miv h = absurd h
    drop_word_of Unknown h = absurd h

  -- ---- an edge

  old_first : (k : ℕ) (o : Option SubscriptPair) → IsFirstNotZiv b k o → words.IsFirstNotZiv r.subs k (pairing_of b o)
  old_first k o h = record {
    is_at = pairing_at b turn shallow k o h.is_at;
    not_ziv = λ z. h.not_ziv (new_ziv_of o z);
    earlier = λ j q l e. let f = from_map (pairing_of b) (subscript_pairs b) j q e in earlier_one j q l (f.source, f.is_at, f.is);
  }
    where
      earlier_one : (j : ℕ) (q : Pairing) → j < k → (x : Option SubscriptPair) × (slice_get (subscript_pairs b) j ≡ Some x) × (q ≡ pairing_of b x) → old.IsZiv q
      earlier_one j q l x = subst old.IsZiv (sym x.2) (old_ziv_of x.0 (h.earlier j x.0 l x.1))

  class_word : (o : Option SubscriptPair) (w : Test) → words.IsClassWord (pairing_of b o) w → HasClass b o w
  class_word o Strong h = class_of o class.Strong h
  class_word o WeakZero h = class_of o class.WeakZero h
  class_word o Crossing h = class_of o class.WeakCrossing h
  class_word o Siv h = class_of o class.GeneralSiv h
  class_word o Miv h = class_of o class.Miv h
  class_word o Unknown h = class_of o class.Unknown h
  class_word o Trip h = absurd h
  class_word o Scalar h = absurd h
  class_word o Ziv h = absurd h
  class_word o Delta h = absurd h
  class_word o Gcd h = absurd h
  class_word o Range h = absurd h

  no_pairs : (os : List (Option SubscriptPair)) → map (pairing_of b) os ≡ [] → os ≡ []
  no_pairs [] e = refl
  no_pairs (o ∷ os) e = cc

  all_ziv : (os : List (Option SubscriptPair)) → All (λ o. HasClass b o Ziv) os → All old.IsZiv (map (pairing_of b) os)
  all_ziv [] h = All-nil old.IsZiv
  all_ziv (o ∷ os) h =
      All-cons old.IsZiv (pairing_of b o) (map (pairing_of b) os) (old_ziv_of o (All-head (λ x. HasClass b x Ziv) o os h)) (all_ziv os (All-tail (λ x. HasClass b x Ziv) o os h))

  pub edge_word_of : (w : Test) → words.IsEdgeWord r.subs w → IsEdgeWord b w
  edge_word_of w h = record {
    scalar = λ e. h.scalar (ap (map (pairing_of b)) e);
    ziv = λ n a. h.ziv (λ e. n (no_pairs (subscript_pairs b) e)) (all_ziv (subscript_pairs b) a);
    separable = λ k o f s. class_word o w (h.separable k (pairing_of b o) (old_first k o f) (old_separable k s));
    group = λ k o f s. h.group k (pairing_of b o) (old_first k o f) (λ e. s (separable_of k e));
  }
