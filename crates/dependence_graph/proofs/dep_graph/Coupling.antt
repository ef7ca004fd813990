-- The subscripts of two references and the pairings that the tests have of them: coupled ones, the exact class, and the
-- ways in which a vector is refuted.
use Rattle.std.proofs.Common.{◌≡◌, ◌⊎◌, inl, inr, refl, sym, ap, ◌∙◌, subst, ℕ, zero, suc, ◌-◌, ◌<◌, arith, Bool, true, false, Option, Some, None, List, [], ◌∷◌, ◌++◌, length, map, get_or, replicate}
use Rattle.std.specs.Prelude.{ℤ, pos, ◌+ℤ◌, ◌*ℤ◌, All, IsSomeAnd, IsTrue, slice_get}
use Rattle.std.proofs.lemmas.Bool.{cases_lt}
use Rattle.std.proofs.lemmas.Int.{ints}
use Rattle.std.proofs.lemmas.List.{get_or_past}
use Rattle.std.proofs.lemmas.List.Elements.{All-cons, All-head, All-nil, All-tail}
use Rattle.subscripts.specs.Classes as old
use Rattle.subscripts.specs.Iterations.{IsRelated, WithinSpan, once}
use Rattle.subscripts.specs.Partitions as old_groups
use Rattle.subscripts.specs.declared.affine.Dir.{Dir}
use Rattle.subscripts.specs.declared.affine.Dir.TheVariants.{Lt, Eq, Gt, Any}
use Rattle.subscripts.specs.declared.affine.Span.{Span}
use Rattle.subscripts.specs.declared.pairing.Pairing.{Pairing}
use Rattle.dependence_tests.specs.loop_lines.OneLoop.{dir_of}
use Rattle.direction_vectors.specs.vector_tests.Ways as ways
use Rattle.direction_vectors.specs.declared.vector_tests.refs.RefPair.{RefPair}
use Rattle.dependence_graph.specs.nest_graph.Arcs.{in_places}
use Rattle.dependence_graph.specs.nest_graph.Indices.{AreCoupled, Contains, First, Index, IsIndex, IsChain, IsSivIn, IsZiv, Second, Shared, SubscriptPair, subscript_pairs}
use Rattle.dependence_graph.specs.nest_graph.Paired.{pairing_of, refs_of}
use Rattle.dependence_graph.specs.nest_graph.Refuted.{EndsBefore, HasConstantLoop, HasNoTrip, IsCarrying, IsExactClass, IsRefuted, IsRefutedByOneLoop, IsRefutedByPair, IsWithin, SolvesAt, direction_of, last_at, last_of_index}
use Rattle.dependence_graph.specs.nest_graph.Spans.{spans_of}
use Rattle.dependence_graph.specs.nest_graph.Tested.{Both, common_of}
use Rattle.dependence_graph.proofs.dep_graph.Couples.{common_first}
use Rattle.dependence_graph.proofs.dep_graph.Directions.{at_place_is}
use Rattle.dependence_graph.proofs.dep_graph.Lasts.{IsFixed, all_constant, all_fixed, fixed_at, last_in}
use Rattle.dependence_graph.proofs.dep_graph.Pairings.{AreShallow, AreShort, contains_of, first_is, lasts_round_are, matters_of, new_index, old_gcd, old_loop, old_sided, old_siv, old_ziv, second_is, siv_of, spans_round, ziv_of}

-- ---- places of a list

at_map : {A B : Type 0} (f : A → B) (xs : List A) (k : ℕ) (x : A) → slice_get xs k ≡ Some x → slice_get (map f xs) k ≡ Some (f x)
at_map f [] k x e = cc
at_map f (y ∷ xs) zero x e = (let g : y ≡ x = cc in ap (λ z. Some (f z)) g)
at_map f (y ∷ xs) (suc k) x e = at_map f xs k x e

pub record IsFrom {A B : Type 0} (f : A → B) (xs : List A) (k : ℕ) (y : B) : Type 0 where
  pub source : A
  pub is_at : slice_get xs k ≡ Some source
  pub is : y ≡ f source

pub from_map : {A B : Type 0} (f : A → B) (xs : List A) (k : ℕ) (y : B) → slice_get (map f xs) k ≡ Some y → IsFrom f xs k y
from_map f [] k y e = cc
from_map f (x ∷ xs) zero y e = record { source = x; is_at = refl; is = (let g : f x ≡ y = cc in sym g) }
from_map f (x ∷ xs) (suc k) y e = let r = from_map f xs k y e in record { source = r.source; is_at = r.is_at; is = r.is }

same_some : {A : Type 0} (o : Option A) (x y : A) → o ≡ Some x → o ≡ Some y → x ≡ y
same_some o x y e f = let g : Some x ≡ Some y = sym e ∙ f in cc

pub same_pair : (o : Option (Option SubscriptPair)) (x y : SubscriptPair) → o ≡ Some (Some x) → o ≡ Some (Some y) → x ≡ y
same_pair o x y e f = let g : Some x ≡ Some y = same_some o (Some x) (Some y) e f in cc

unknown_not : false ≡ true → ⊥
unknown_not e = cc

-- ---- spans in seven places

padded_at : (ss : List Span) (m k : ℕ) → k < length ss → get_or (ss ++ replicate m once) k once ≡ get_or ss k once
padded_at [] m k h = absurd (omega arith)
padded_at (s ∷ ss) m zero h = refl
padded_at (s ∷ ss) m (suc k) h = padded_at ss m k (omega arith)

last_there : (ss : List Span) (k : ℕ) → k < length ss → get_or (map last_in ss) k None ≡ (get_or ss k once).last
last_there [] k h = absurd (omega arith)
last_there (s ∷ ss) zero h = refl
last_there (s ∷ ss) (suc k) h = last_there ss k (omega arith)

ends_there : (z : ℤ) (ss : List Span) (k : ℕ) → EndsBefore z (get_or (map last_in ss) k None) → (k < length ss) × ways.EndsBefore z (get_or ss k once)
ends_there z [] k h = absurd h
ends_there z (s ∷ ss) zero h = (omega arith, h)
ends_there z (s ∷ ss) (suc k) h = let r = ends_there z ss k h in let l = r.0 in (omega arith, r.1)

ends_of : (z : ℤ) (ss : List Span) (k : ℕ) → k < length ss → ways.EndsBefore z (get_or ss k once) → EndsBefore z (get_or (map last_in ss) k None)
ends_of z ss k l h = subst (EndsBefore z) (sym (last_there ss k l)) h

one_end : ways.EndsBefore (pos 1) once → ⊥
one_end h = omega (arith, ints)

ends_first : (ss : List Span) (k : ℕ) → ways.EndsBefore (pos 1) (get_or ss k once) → EndsBefore (pos 1) (get_or (map last_in ss) k None)
ends_first ss k h =
    elim (cases_lt k (length ss)) [
      | inl l ↦ ends_of (pos 1) ss k l h
      | inr l ↦ absurd (one_end (subst (ways.EndsBefore (pos 1)) (get_or_past ss k once l) h))
    ]

-- ---- directions

carrying_of : (e : Dir) → ways.IsCarrying e → IsCarrying e
carrying_of Lt h = inl refl
carrying_of Eq h = absurd h
carrying_of Gt h = inr refl
carrying_of Any h = absurd h

old_carrying : (e : Dir) → IsCarrying e → ways.IsCarrying e
old_carrying e (inl h) = subst ways.IsCarrying (sym h) tt
old_carrying e (inr h) = subst ways.IsCarrying (sym h) tt

module _ (b : Both) (turn : Bool) (shallow : AreShallow b) where
  abbrev r : RefPair
  r = refs_of b turn

  abbrev fs : List Span
  fs = spans_of [] b.first.loops

  abbrev ts : List Span
  ts = spans_of [] b.second.loops

  first_last : (k : ℕ) → get_or (map last_in fs) k None ≡ last_at b.first k
  first_last k = ap (λ (os : List (Option ℤ)). get_or os k None) (lasts_round_are b.first)

  second_last : (k : ℕ) → get_or (map last_in ts) k None ≡ last_at b.second k
  second_last k = ap (λ (os : List (Option ℤ)). get_or os k None) (lasts_round_are b.second)

  -- ---- trips

  module _ (v : List Dir) (long : length v ≡ common_of b.first.loops b.second.loops) where
    pub no_trip_of : ways.HasNoTrip r (in_places v) → HasNoTrip b v
    no_trip_of h = (h.0, by h.1.1)
      where
        by : ways.LacksTripAt r (in_places v) h.0
            → EndsBefore (pos 1) (last_at b.first h.0) ⊎ (EndsBefore (pos 1) (last_at b.second h.0) ⊎ (IsCarrying (get_or v h.0 Any) × EndsBefore (pos 2) (last_at b.first h.0)))
        by (inl e) = inl (subst (EndsBefore (pos 1)) (first_last h.0) (ends_first fs h.0 e))
        by (inr (inl e)) = inr (inl (subst (EndsBefore (pos 1)) (second_last h.0) (ends_first ts h.0 e)))
        by (inr (inr e)) =
            let c = carrying_of (get_or v h.0 Any) (subst ways.IsCarrying (at_place_is v h.0) e.0) in
            inr (inr (c, subst (EndsBefore (pos 2)) (first_last h.0) (ends_of (pos 2) fs h.0 (inside c) e.1)))
          where
            past_end : Any ≡ Lt → ⊥
            past_end f = cc

            past_end_too : Any ≡ Gt → ⊥
            past_end_too f = cc

            outside : IsCarrying Any → ⊥
            outside (inl f) = past_end f
            outside (inr f) = past_end_too f

            inside : IsCarrying (get_or v h.0 Any) → h.0 < length fs
            inside c =
                let m = common_first b.first.loops b.second.loops in let n = spans_round [] b.first.loops in
                elim (cases_lt h.0 (length v)) [
                  | inl l ↦ omega arith
                  | inr l ↦ absurd (outside (subst IsCarrying (get_or_past v h.0 Any l) c))
                ]

    pub old_no_trip : HasNoTrip b v → ways.HasNoTrip r (in_places v)
    old_no_trip h = by h.1
      where
        by : EndsBefore (pos 1) (last_at b.first h.0) ⊎ (EndsBefore (pos 1) (last_at b.second h.0) ⊎ (IsCarrying (get_or v h.0 Any) × EndsBefore (pos 2) (last_at b.first h.0)))
            → ways.HasNoTrip r (in_places v)
        by (inl e) =
            let f = ends_there (pos 1) fs h.0 (subst (EndsBefore (pos 1)) (sym (first_last h.0)) e) in
            let s = shallow.first in let n = spans_round [] b.first.loops in let l = f.0 in
            (h.0, (omega arith, inl f.1))
        by (inr (inl e)) =
            let f = ends_there (pos 1) ts h.0 (subst (EndsBefore (pos 1)) (sym (second_last h.0)) e) in
            let s = shallow.second in let n = spans_round [] b.second.loops in let l = f.0 in
            (h.0, (omega arith, inr (inl f.1)))
        by (inr (inr e)) =
            let f = ends_there (pos 2) fs h.0 (subst (EndsBefore (pos 2)) (sym (first_last h.0)) e.1) in
            let s = shallow.first in let n = spans_round [] b.first.loops in let l = f.0 in
            (h.0, (omega arith, inr (inr (subst ways.IsCarrying (sym (at_place_is v h.0)) (old_carrying (get_or v h.0 Any) e.0), f.1))))

  -- ---- the exact class

  abbrev IsOneOrNone : Option SubscriptPair → Type 0
  IsOneOrNone o = IsSomeAnd o (λ p. IsZiv b p ⊎ ((i : Index) × IsSivIn b p i))

  one_or_none : (o : Option SubscriptPair) → ways.IsZivOrSiv (pairing_of b o) → IsOneOrNone o
  one_or_none None (inl z) = absurd (unknown_not z.known)
  one_or_none None (inr z) = absurd (unknown_not z.1.known)
  one_or_none (Some p) (inl z) = inl (ziv_of b shallow p z)
  one_or_none (Some p) (inr z) = inr (new_index z.0, siv_of b shallow p z.0 z.1)

  old_one_or_none : (o : Option SubscriptPair) → IsOneOrNone o → ways.IsZivOrSiv (pairing_of b o)
  old_one_or_none None h = absurd h
  old_one_or_none (Some p) (inl z) = inl (old_ziv b shallow p z)
  old_one_or_none (Some p) (inr z) = inr (old_loop z.0, old_siv b shallow p z.0 z.1)

  all_one : (os : List (Option SubscriptPair)) → All ways.IsZivOrSiv (map (pairing_of b) os) → All IsOneOrNone os
  all_one [] h = All-nil IsOneOrNone
  all_one (o ∷ os) h =
      All-cons IsOneOrNone o os (one_or_none o (All-head ways.IsZivOrSiv (pairing_of b o) (map (pairing_of b) os) h))
      (all_one os (All-tail ways.IsZivOrSiv (pairing_of b o) (map (pairing_of b) os) h))

  all_old_one : (os : List (Option SubscriptPair)) → All IsOneOrNone os → All ways.IsZivOrSiv (map (pairing_of b) os)
  all_old_one [] h = All-nil ways.IsZivOrSiv
  all_old_one (o ∷ os) h =
      All-cons ways.IsZivOrSiv (pairing_of b o) (map (pairing_of b) os) (old_one_or_none o (All-head IsOneOrNone o os h)) (all_old_one os (All-tail IsOneOrNone o os h))

  pub exact_of : ways.IsExactClass r → IsExactClass b
  exact_of h = record {
    subscripts = all_one (subscript_pairs b) h.subscripts;
    first_trips = all_constant [] b.first.loops h.from_fixed;
    second_trips = all_constant [] b.second.loops h.to_fixed;
  }

  pub old_exact : IsExactClass b → ways.IsExactClass r
  old_exact h = record {
    subscripts = all_old_one (subscript_pairs b) h.subscripts;
    from_fixed = all_fixed [] b.first.loops h.first_trips;
    to_fixed = all_fixed [] b.second.loops h.second_trips;
  }

  -- ---- coupled pairs

  pub linear_at : (k : ℕ) (x : Pairing) → slice_get r.subs k ≡ Some x → IsTrue x.known → (p : SubscriptPair) × (slice_get (subscript_pairs b) k ≡ Some (Some p)) × (x ≡ pairing_of b (Some p))
  linear_at k x e h = let f = from_map (pairing_of b) (subscript_pairs b) k x e in by f.source f.is_at f.is
    where
      by : (o : Option SubscriptPair) → slice_get (subscript_pairs b) k ≡ Some o → x ≡ pairing_of b o
          → (p : SubscriptPair) × (slice_get (subscript_pairs b) k ≡ Some (Some p)) × (x ≡ pairing_of b (Some p))
      by None i j = absurd (unknown_not (subst (λ (z : Pairing). IsTrue z.known) j h))
      by (Some p) i j = (p, i, j)

  pub pairing_at : (k : ℕ) (o : Option SubscriptPair) → slice_get (subscript_pairs b) k ≡ Some o → slice_get r.subs k ≡ Some (pairing_of b o)
  pairing_at k o e = at_map (pairing_of b) (subscript_pairs b) k o e

  pub coupled_of : (k m : ℕ) → old_groups.AreCoupled r.subs k m → AreCoupled b k m
  coupled_of k m h =
      let f = linear_at k h.first h.at_first h.shares.first_known in
      let g = linear_at m h.second h.at_second h.shares.second_known in
      record {
        first = f.0;
        second = g.0;
        first_is = f.1;
        second_is = g.1;
        index = new_index h.shares.loop;
        in_first = contains_of b shallow f.0 h.shares.loop (subst (λ (z : Pairing). old.Matters z h.shares.loop) f.2 h.shares.first);
        in_second = contains_of b shallow g.0 h.shares.loop (subst (λ (z : Pairing). old.Matters z h.shares.loop) g.2 h.shares.second);
      }

  pub old_coupled : (k m : ℕ) → AreCoupled b k m → old_groups.AreCoupled r.subs k m
  old_coupled k m h = record {
    first = pairing_of b (Some h.first);
    second = pairing_of b (Some h.second);
    at_first = pairing_at k (Some h.first) h.first_is;
    at_second = pairing_at m (Some h.second) h.second_is;
    shares = record {
      loop = old_loop h.index;
      first_known = refl;
      second_known = refl;
      first = matters_of b shallow h.first h.index h.in_first;
      second = matters_of b shallow h.second h.index h.in_second;
    };
  }

  pub chain_of : (ks : List ℕ) (k m : ℕ) → old_groups.IsChain r.subs k ks m → IsChain b k ks m
  chain_of [] k m h = h
  chain_of (j ∷ ks) k m h = (coupled_of k j h.0, chain_of ks j m h.1)

  -- ---- refuted vectors

  module _ (short : (k : ℕ) (p : SubscriptPair) → slice_get (subscript_pairs b) k ≡ Some (Some p) → AreShort b p) (v : List Dir)
      (long : length v ≡ common_of b.first.loops b.second.loops) where
    by_pair : IsRefutedByPair b v → ways.IsRefutedByPair r (in_places v)
    by_pair h = record {
      at = h.at;
      pairing = pairing_of b (Some h.pair);
      is_at = pairing_at h.at (Some h.pair) h.is_at;
      linear = refl;
      refuted = elim h.refuted [
        | inl g ↦ inl (old_gcd b shallow h.pair g)
        | inr s ↦ inr (old_sided b shallow h.pair (short h.at h.pair h.is_at) v long s)
      ];
    }

    -- a pair that contains the variable of this loop
    record HasIt (i : Index) (k : ℕ) : Type 0 where
      pair : SubscriptPair
      is_at : slice_get (subscript_pairs b) k ≡ Some (Some pair)
      contained : Contains b pair i

    abbrev IsAlone : Index → Type 0
    IsAlone i = (k : ℕ) (p : SubscriptPair) → slice_get (subscript_pairs b) k ≡ Some (Some p) → Contains b p i → IsSivIn b p i

    one_step : (i : Index) → IsAlone i → (k m : ℕ) → HasIt i k → AreCoupled b k m → HasIt i m
    one_step i alone k m h c =
        let same : h.pair ≡ c.first = same_pair (slice_get (subscript_pairs b) k) h.pair c.first h.is_at c.first_is in
        let index : c.index ≡ i = (alone k h.pair h.is_at h.contained).alone c.index (subst (λ (z : SubscriptPair). Contains b z c.index) (sym same) c.in_first) in
        record { pair = c.second; is_at = c.second_is; contained = subst (Contains b c.second) index c.in_second }

    all_steps : (i : Index) → IsAlone i → (ks : List ℕ) (k m : ℕ) → HasIt i k → IsChain b k ks m → HasIt i m
    all_steps i alone [] k m h c = subst (HasIt i) c h
    all_steps i alone (j ∷ ks) k m h c = all_steps i alone ks j m (one_step i alone k j h c.0) c.1

    span_fixed : (p : SubscriptPair) (i : Index) → IsIndex b i → HasConstantLoop b i → IsFixed (old.span_of (pairing_of b (Some p)) (old_loop i))
    span_fixed p (Shared k) h c =
        let m = common_first b.first.loops b.second.loops in let n = spans_round [] b.first.loops in
        subst IsFixed (sym (padded_at fs (7 - length fs) k (omega arith))) (fixed_at [] b.first.loops k c)
    span_fixed p (First k) h c =
        let l = h.1 in let n = spans_round [] b.first.loops in
        subst IsFixed (sym (padded_at fs (7 - length fs) k (omega arith))) (fixed_at [] b.first.loops k c)
    span_fixed p (Second k) h c =
        let l = h.1 in let n = spans_round [] b.second.loops in
        subst IsFixed (sym (padded_at ts (7 - length ts) k (omega arith))) (fixed_at [] b.second.loops k c)

    -- the last iteration of the loop
    span_last : (p : SubscriptPair) (i : Index) → IsIndex b i → (old.span_of (pairing_of b (Some p)) (old_loop i)).last ≡ last_of_index b i
    span_last p (Shared k) h =
        let m = common_first b.first.loops b.second.loops in let n = spans_round [] b.first.loops in
        let l : k < length fs = omega arith in
        ap last_in (padded_at fs (7 - length fs) k l) ∙ sym (last_there fs k l) ∙ first_last k
    span_last p (First k) h =
        let g = h.1 in let n = spans_round [] b.first.loops in
        let l : k < length fs = omega arith in
        ap last_in (padded_at fs (7 - length fs) k l) ∙ sym (last_there fs k l) ∙ first_last k
    span_last p (Second k) h =
        let g = h.1 in let n = spans_round [] b.second.loops in
        let l : k < length ts = omega arith in
        ap last_in (padded_at ts (7 - length ts) k l) ∙ sym (last_there ts k l) ∙ second_last k

    direction_is : (i : Index) → dir_of (in_places v) (old_loop i) ≡ direction_of v i
    direction_is (Shared k) = at_place_is v k
    direction_is (First k) = refl
    direction_is (Second k) = refl

    within_last : (p : SubscriptPair) (i : Index) (x : ℤ) → IsIndex b i → WithinSpan (old.span_of (pairing_of b (Some p)) (old_loop i)) x → IsWithin (last_of_index b i) x
    within_last p i x h w = subst (λ (o : Option ℤ). IsWithin o x) (span_last p i h) (w.low, w.high)

    by_one_loop : IsRefutedByOneLoop b v → ways.IsRefutedByOneLoop r (in_places v)
    by_one_loop h = record {
      at = h.at;
      some = (pairing_of b (Some h.pair), pairing_at h.at (Some h.pair) h.is_at);
      loop = old_loop h.index;
      each = λ j x g e. each_one j x (all_steps h.index h.alone g.0 h.at j here (chain_of g.0 h.at j g.1)) e;
      none = λ x y solves.
          let own = solves h.at (pairing_of b (Some h.pair)) ([], refl) (pairing_at h.at (Some h.pair) h.is_at) in
          h.none x y (record {
            first = within_last h.pair h.index x h.contained.index own.first;
            second = within_last h.pair h.index y h.contained.index own.second;
            related = subst (λ (e : Dir). IsRelated e x y) (direction_is h.index) own.related;
          }) (λ k p e c. solved k p e c (solves k (pairing_of b (Some p)) (k ∷ [], (old_coupled h.at k (together k p e c), refl)) (pairing_at k (Some p) e)));
    }
      where
        here : HasIt h.index h.at
        here = record { pair = h.pair; is_at = h.is_at; contained = h.contained }

        each_one : (j : ℕ) (x : Pairing) → HasIt h.index j → slice_get r.subs j ≡ Some x
            → old.HasOneLoop x (old_loop h.index) × IsTrue (old.span_of x (old_loop h.index)).fixed
        each_one j x i e =
            let same : pairing_of b (Some i.pair) ≡ x =
            same_some (slice_get r.subs j) (pairing_of b (Some i.pair)) x (pairing_at j (Some i.pair) i.is_at) e in
            subst (λ (z : Pairing). old.HasOneLoop z (old_loop h.index) × IsTrue (old.span_of z (old_loop h.index)).fixed) same
            (old_siv b shallow i.pair h.index (h.alone j i.pair i.is_at i.contained), span_fixed i.pair h.index i.contained.index h.constant)

        together : (k : ℕ) (p : SubscriptPair) → slice_get (subscript_pairs b) k ≡ Some (Some p) → Contains b p h.index → AreCoupled b h.at k
        together k p e c = record {
          first = h.pair;
          second = p;
          first_is = h.is_at;
          second_is = e;
          index = h.index;
          in_first = h.contained;
          in_second = c;
        }

        solved : {x y : ℤ} (k : ℕ) (p : SubscriptPair) → slice_get (subscript_pairs b) k ≡ Some (Some p) → (c : Contains b p h.index)
            → ways.IsSolution (pairing_of b (Some p)) (in_places v) (old_loop h.index) x y → SolvesAt p h.index x y
        solved {x} {y} k p e c s =
            ap (λ (a : ℤ). a *ℤ x +ℤ p.first.constant) (sym (first_is b shallow p h.index c.index)) ∙ s.equal
            ∙ ap (λ (a : ℤ). a *ℤ y +ℤ p.second.constant) (second_is b shallow p h.index c.index)

    pub old_refuted : IsRefuted b v → ways.IsRefutedVector r (in_places v)
    old_refuted (inl h) = inl (old_no_trip v long h)
    old_refuted (inr (inl h)) = inr (inl (by_pair h))
    old_refuted (inr (inr h)) = inr (inr (by_one_loop h))
