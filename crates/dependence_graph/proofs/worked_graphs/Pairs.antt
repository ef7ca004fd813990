-- Subscripts that are linear in the only loop, whose trip is a constant: their class, and the words that it gives.
use Rattle.std.proofs.Common.{◌≡◌, ◌⊎◌, inl, inr, ℕ, zero, suc, ◌+◌, refl, sym, ap, ◌∙◌, subst, arith, Option, Some, None, List, [], ◌∷◌, get_or, length}
use Rattle.std.specs.Prelude.{ℤ, pos, ◌-ℤ◌, ◌≤ℤ◌, int_div, All, IsSomeAnd, slice_get}
use Rattle.std.specs.List.{AllZip}
use Rattle.std.proofs.lemmas.Int.{ints}
use Rattle.std.proofs.lemmas.List.Elements.{All-cons, All-nil}
use Rattle.tree.specs.Plain.{Expression, Reference}
use Rattle.linear_forms.specs.Linear.{Form}
use Rattle.subscripts.specs.declared.affine.Dir.{Dir}
use Rattle.subscripts.specs.declared.affine.Dir.TheVariants.{Lt, Any}
use Rattle.subscripts.specs.declared.verdict.Test.{Test}
use Rattle.subscripts.specs.declared.verdict.Test.TheVariants.{Trip, Scalar, Ziv, Strong, WeakZero, Crossing, Siv, Delta, Gcd, Range, Miv, Unknown}
use Rattle.dependence_graph.specs.nest_graph.Indices.{Contains, First, HasClass, Index, IsGeneral, IsPairAt, IsSeparable, IsSivIn, IsSivWhere, IsWeakCrossing, IsWeakZero, IsZiv, Second, Shared, SubscriptPair, coefficient_at, first_of, second_of}
use Rattle.dependence_graph.specs.nest_graph.References.{references_of}
use Rattle.dependence_graph.specs.nest_graph.Refuted.{EndsBefore, HasNoTrip, IsCarrying, IsExactClass, last_at}
use Rattle.dependence_graph.specs.nest_graph.Tested.{Both, common_of}
use Rattle.dependence_graph.specs.nest_graph.Trips.{HasConstantTrip}
use Rattle.dependence_graph.specs.nest_graph.Vectors.{Allows, StandsFor}
use Rattle.dependence_graph.specs.nest_graph.Words.{HasSeparable, IsDropWord, IsEdgeWord, IsFirstNotZiv}
use Rattle.dependence_graph.specs.worked_graphs.Listed.{less}
use Rattle.dependence_graph.specs.worked_graphs.Nests.{loop_to}
use Rattle.dependence_graph.proofs.worked_graphs.OneLoop.{IsEnd, pair, pairs_are, standing, two}

-- ---- the vector

less_any : Lt ≡ Any → ⊥
less_any e = cc

pub stands : StandsFor less less
stands = record { plain = (less_any, tt); allowed = (inr refl, tt) }

pub only_less : (v : List Dir) → StandsFor less v → v ≡ less
only_less v h = by v h.allowed
  where
    by : (v : List Dir) → AllZip Allows less v → v ≡ less
    by [] g = absurd g
    by (e ∷ []) g = elim g.0 [ inl a ↦ absurd (less_any a) | inr a ↦ ap (λ (d : Dir). d ∷ []) (sym a) ]
    by (e ∷ f ∷ v) g = absurd g.1

-- the coefficients have this word, and no other
abbrev pub IsOfWord : ℤ → ℤ → Test → Type 0
IsOfWord a b Strong = a ≡ b
IsOfWord a b WeakZero = IsWeakZero a b
IsOfWord a b Crossing = IsWeakCrossing a b
IsOfWord a b Trip = ⊥
IsOfWord a b Scalar = ⊥
IsOfWord a b Ziv = ⊥
IsOfWord a b Siv = ⊥
IsOfWord a b Delta = ⊥
IsOfWord a b Gcd = ⊥
IsOfWord a b Range = ⊥
IsOfWord a b Miv = ⊥
IsOfWord a b Unknown = ⊥

module _ (a b : ℤ) (some : a ≡ pos 0 → b ≡ pos 0 → ⊥) where
  strong_zero : a ≡ b → IsWeakZero a b → ⊥
  strong_zero e z = elim z [ inl f ↦ some f (sym e ∙ f) | inr f ↦ some (e ∙ f) f ]

  strong_crossing : a ≡ b → IsWeakCrossing a b → ⊥
  strong_crossing e z = some (omega (arith, ints)) (omega (arith, ints))

  zero_crossing : IsWeakZero a b → IsWeakCrossing a b → ⊥
  zero_crossing e z = elim e [ inl f ↦ some f (omega (arith, ints)) | inr f ↦ some (omega (arith, ints)) f ]

  only_strong : (w : Test) → IsOfWord a b w → a ≡ b → Strong ≡ w
  only_strong Strong h e = refl
  only_strong WeakZero h e = absurd (strong_zero e h)
  only_strong Crossing h e = absurd (strong_crossing e h)
  only_strong Trip h e = absurd h
  only_strong Scalar h e = absurd h
  only_strong Ziv h e = absurd h
  only_strong Siv h e = absurd h
  only_strong Delta h e = absurd h
  only_strong Gcd h e = absurd h
  only_strong Range h e = absurd h
  only_strong Miv h e = absurd h
  only_strong Unknown h e = absurd h

  only_zero : (w : Test) → IsOfWord a b w → IsWeakZero a b → WeakZero ≡ w
  only_zero Strong h e = absurd (strong_zero h e)
  only_zero WeakZero h e = refl
  only_zero Crossing h e = absurd (zero_crossing e h)
  only_zero Trip h e = absurd h
  only_zero Scalar h e = absurd h
  only_zero Ziv h e = absurd h
  only_zero Siv h e = absurd h
  only_zero Delta h e = absurd h
  only_zero Gcd h e = absurd h
  only_zero Range h e = absurd h
  only_zero Miv h e = absurd h
  only_zero Unknown h e = absurd h

  only_crossing : (w : Test) → IsOfWord a b w → IsWeakCrossing a b → Crossing ≡ w
  only_crossing Strong h e = absurd (strong_crossing h e)
  only_crossing WeakZero h e = absurd (zero_crossing h e)
  only_crossing Crossing h e = refl
  only_crossing Trip h e = absurd h
  only_crossing Scalar h e = absurd h
  only_crossing Ziv h e = absurd h
  only_crossing Siv h e = absurd h
  only_crossing Delta h e = absurd h
  only_crossing Gcd h e = absurd h
  only_crossing Range h e = absurd h
  only_crossing Miv h e = absurd h
  only_crossing Unknown h e = absurd h

  not_general : (w : Test) → IsOfWord a b w → IsGeneral a b → ⊥
  not_general Strong h e = e.not_strong h
  not_general WeakZero h e = e.not_zero h
  not_general Crossing h e = e.not_crossing h
  not_general Trip h e = h
  not_general Scalar h e = h
  not_general Ziv h e = h
  not_general Siv h e = h
  not_general Delta h e = h
  not_general Gcd h e = h
  not_general Range h e = h
  not_general Miv h e = h
  not_general Unknown h e = h

-- two references in one loop that goes to this number
pub record AreInOneLoop (last : ℕ) (b : Both) : Type 0 where
  pub first : length b.first.loops ≡ 1
  pub second : length b.second.loops ≡ 1
  pub common : common_of b.first.loops b.second.loops ≡ 1
  pub first_last : last_at b.first 0 ≡ Some (pos last)
  pub second_last : last_at b.second 0 ≡ Some (pos last)
  pub first_past : (k : ℕ) → last_at b.first (suc k) ≡ None
  pub second_past : (k : ℕ) → last_at b.second (suc k) ≡ None

-- a form with this coefficient of the loop, and no other
pub record HasOnlyFront (f : Form) (a : ℤ) : Type 0 where
  pub front : coefficient_at f 0 ≡ a
  pub past : (k : ℕ) → coefficient_at f (suc k) ≡ pos 0

-- the only linear pair, which is the first one
pub record IsOnlyPair (b : Both) (one : SubscriptPair) : Type 0 where
  pub is_at : IsPairAt b 0 one
  pub only : (k : ℕ) (p : SubscriptPair) → IsPairAt b k p → (k ≡ 0) × (one ≡ p)

module _ (last : ℕ) (refs : Both) (one : SubscriptPair) (a b : ℤ) (loops : AreInOneLoop last refs) (pairs : IsOnlyPair refs one) (first : HasOnlyFront one.first a)
    (second : HasOnlyFront one.second b) (some : a ≡ pos 0 → b ≡ pos 0 → ⊥) where
  -- ---- the class

  contains : Contains refs one (Shared 0)
  contains = record {
    index = (let c = loops.common in omega arith);
    some = λ e f. some (sym first.front ∙ e) (sym second.front ∙ f);
  }

  alone : (i : Index) → Contains refs one i → i ≡ Shared 0
  alone (Shared zero) h = refl
  alone (Shared (suc k)) h = (let c = loops.common in let l = h.index in absurd (omega arith))
  alone (First k) h = (let c = loops.common in let d = loops.first in let l = h.index.0 in let m = h.index.1 in absurd (omega arith))
  alone (Second k) h = (let c = loops.common in let d = loops.second in let l = h.index.0 in let m = h.index.1 in absurd (omega arith))

  no_difference : (x y : ℤ) → x ≡ pos 0 → y ≡ pos 0 → x -ℤ y ≡ pos 0
  no_difference x y e f = omega (arith, ints)

  past_first : (k m : ℕ) → m ≡ suc k → coefficient_at one.first m ≡ pos 0
  past_first k m e = ap (coefficient_at one.first) e ∙ first.past k

  past_second : (k m : ℕ) → m ≡ suc k → coefficient_at one.second m ≡ pos 0
  past_second k m e = ap (coefficient_at one.second) e ∙ second.past k

  pub one_loop : IsSivIn refs one (Shared 0)
  one_loop = record {
    cancels = λ k. no_difference (coefficient_at one.first (length refs.first.loops + k)) (coefficient_at one.second (length refs.second.loops + k))
        (past_first k (length refs.first.loops + k) (let d = loops.first in omega arith))
        (past_second k (length refs.second.loops + k) (let d = loops.second in omega arith));
    contained = contains;
    alone = alone;
  }

  not_ziv : IsZiv refs one → ⊥
  not_ziv z = z.none (Shared 0) contains

  separable : (k : ℕ) → IsSeparable refs k
  separable k m h = (pairs.only m h.second h.second_is).0 ∙ sym (pairs.only k h.first h.first_is).0

  -- the class of a pair of one loop, by that loop
  of_where : (P : ℤ → ℤ → Type 0) → IsSivWhere P refs one → P a b
  of_where P h =
      subst (λ (x : ℤ). P x b) first.front
      (subst (λ (y : ℤ). P (first_of one (Shared 0)) y) second.front
      (subst (λ (i : Index). P (first_of one i) (second_of one i)) (alone h.0 h.1.0.contained) h.1.1))

  pub class_is : (word : Test) → IsOfWord a b word → (w : Test) → HasClass refs (Some one) w → w ≡ word
  class_is word k Ziv h = absurd (not_ziv h)
  class_is word k Strong h = only_strong a b some word k (of_where (λ x y. x ≡ y) h)
  class_is word k WeakZero h = only_zero a b some word k (of_where IsWeakZero h)
  class_is word k Crossing h = only_crossing a b some word k (of_where IsWeakCrossing h)
  class_is word k Siv h = absurd (not_general a b some word k (of_where IsGeneral h))
  class_is word k Miv h = absurd (h.not_siv (Shared 0) one_loop)
  class_is word k Trip h = absurd h
  class_is word k Scalar h = absurd h
  class_is word k Delta h = absurd h
  class_is word k Gcd h = absurd h
  class_is word k Range h = absurd h
  class_is word k Unknown h = absurd h

  first_not_ziv : IsFirstNotZiv refs 0 (Some one)
  first_not_ziv = record { is_at = pairs.is_at; not_ziv = not_ziv; earlier = λ m x l e. absurd (omega arith) }

  pub edge_word : (word : Test) → IsOfWord a b word → (w : Test) → IsEdgeWord refs w → w ≡ word
  edge_word word k w h = class_is word k w (h.separable 0 (Some one) first_not_ziv (separable 0))

  class_at : (w : Test) (P : SubscriptPair → Type 0) → HasSeparable refs w P → HasClass refs (Some one) w
  class_at w P h = subst (λ (x : SubscriptPair). HasClass refs (Some x) w) (sym (pairs.only h.at h.pair h.is_at).1) h.has_class

  separable_class : (word : Test) → IsOfWord a b word → (w : Test) (P : SubscriptPair → Type 0) → HasSeparable refs w P → w ≡ word
  separable_class word k w P h = class_is word k w (class_at w P h)

  not_miv : (P : SubscriptPair → Type 0) → HasSeparable refs Miv P → ⊥
  not_miv P h = (class_at Miv P h).not_siv (Shared 0) one_loop

  -- the loop has a turn, and another one
  has_trip : pos 2 ≤ℤ pos last → HasNoTrip refs less → ⊥
  has_trip m h = at h.0 h.1
    where
      no_first : EndsBefore (pos 1) (Some (pos last)) → ⊥
      no_first e = omega (arith, ints)

      no_second : EndsBefore (pos 2) (Some (pos last)) → ⊥
      no_second e = omega (arith, ints)

      at : (k : ℕ) → EndsBefore (pos 1) (last_at refs.first k)
          ⊎ (EndsBefore (pos 1) (last_at refs.second k) ⊎ (IsCarrying (get_or less k Any) × EndsBefore (pos 2) (last_at refs.first k))) → ⊥
      at zero (inl e) = no_first (subst (EndsBefore (pos 1)) loops.first_last e)
      at zero (inr (inl e)) = no_first (subst (EndsBefore (pos 1)) loops.second_last e)
      at zero (inr (inr e)) = no_second (subst (EndsBefore (pos 2)) loops.first_last e.1)
      at (suc k) (inl e) = subst (EndsBefore (pos 1)) (loops.first_past k) e
      at (suc k) (inr (inl e)) = subst (EndsBefore (pos 1)) (loops.second_past k) e
      at (suc k) (inr (inr e)) = subst (EndsBefore (pos 2)) (loops.first_past k) e.1

  abbrev IsMore : Type 0
  IsMore = pos 2 ≤ℤ pos last

  pub drop_word : (word : Test) → IsOfWord a b word → IsMore → (w : Test) → IsDropWord refs less w → w ≡ word
  drop_word word k m Trip h = absurd (has_trip m h.cause)
  drop_word word k m Ziv h = absurd (not_ziv (class_at Ziv _ h.cause))
  drop_word word k m Strong h = separable_class word k Strong _ h.cause
  drop_word word k m WeakZero h = separable_class word k WeakZero _ h.cause
  drop_word word k m Crossing h = separable_class word k Crossing _ h.cause
  drop_word word k m Siv h = separable_class word k Siv _ h.cause
  drop_word word k m Delta h = absurd (h.cause.several (separable h.cause.at))
  drop_word word k m Gcd h = absurd (not_miv _ h.cause)
  drop_word word k m Range h = absurd (not_miv _ h.cause)
  drop_word word k m Scalar h = absurd h.cause
  drop_word word k m Miv h = absurd h.cause
  drop_word word k m Unknown h = absurd h.cause

  -- a loop of one turn
  lacks : last ≡ 1 → HasNoTrip refs less
  lacks e = (0, inr (inr (inl refl, subst (EndsBefore (pos 2)) (sym (loops.first_last ∙ ap (λ (n : ℕ). Some (pos n)) e)) (omega (arith, ints)))))

  pub trip_word : last ≡ 1 → (w : Test) → IsDropWord refs less w → w ≡ Trip
  trip_word e Trip h = refl
  trip_word e Ziv h = absurd (h.trips (λ f. cc) (lacks e))
  trip_word e Strong h = absurd (h.trips (λ f. cc) (lacks e))
  trip_word e WeakZero h = absurd (h.trips (λ f. cc) (lacks e))
  trip_word e Crossing h = absurd (h.trips (λ f. cc) (lacks e))
  trip_word e Siv h = absurd (h.trips (λ f. cc) (lacks e))
  trip_word e Delta h = absurd (h.trips (λ f. cc) (lacks e))
  trip_word e Gcd h = absurd (h.trips (λ f. cc) (lacks e))
  trip_word e Range h = absurd (h.trips (λ f. cc) (lacks e))
  trip_word e Scalar h = absurd h.cause
  trip_word e Miv h = absurd h.cause
  trip_word e Unknown h = absurd h.cause

-- ---- in a nest of one loop

module _ (last : ℕ) (whole : int_div (pos last) (pos 1) ≡ pos last) (left : Reference) (right : Expression) (p q : ℕ) (r u : Reference)
    (first : slice_get (references_of (standing last whole left right)) p ≡ Some r) (second : slice_get (references_of (standing last whole left right)) q ≡ Some u) where
  pub in_one_loop : AreInOneLoop last (two last whole left right p q r u first second)
  in_one_loop = record {
    first = refl;
    second = refl;
    common = refl;
    first_last = ap (λ (z : ℤ). Some z) whole;
    second_last = ap (λ (z : ℤ). Some z) whole;
    first_past = λ k. refl;
    second_past = λ k. refl;
  }

module _ (last : ℕ) (whole : int_div (pos last) (pos 1) ≡ pos last) (left : Reference) (right : Expression) (p q : ℕ) (r u : Reference) (a c b d : ℤ)
    (first : IsEnd (references_of (standing last whole left right)) p r a c) (second : IsEnd (references_of (standing last whole left right)) q u b d)
    (some : a ≡ pos 0 → b ≡ pos 0 → ⊥) where
  abbrev pub both_of : Both
  both_of = two last whole left right p q r u first.there second.there

  abbrev pub pair_of_both : SubscriptPair
  pair_of_both = pair last whole left right p q r u a c b d first second

  pub only_pair : IsOnlyPair both_of pair_of_both
  only_pair = record {
    is_at = ap (λ (os : List (Option SubscriptPair)). slice_get os 0) (pairs_are last whole left right p q r u a c b d first second);
    only = λ k x e. by k x (subst (λ (os : List (Option SubscriptPair)). slice_get os k ≡ Some (Some x)) (pairs_are last whole left right p q r u a c b d first second) e);
  }
    where
      by : (k : ℕ) (x : SubscriptPair) → slice_get (Some pair_of_both ∷ []) k ≡ Some (Some x) → (k ≡ 0) × (pair_of_both ≡ x)
      by zero x f = (refl, cc)
      by (suc k) x f = cc

  pub first_front : HasOnlyFront first.found a
  first_front = record { front = first.line.front; past = first.line.past }

  pub second_front : HasOnlyFront second.found b
  second_front = record { front = second.line.front; past = second.line.past }

  abbrev IsOne : Option SubscriptPair → Type 0
  IsOne o = IsSomeAnd o (λ x. IsZiv both_of x ⊎ ((i : Index) × IsSivIn both_of x i))

  -- the tests are exact
  pub exact : IsExactClass both_of
  exact =
      let siv = one_loop last both_of pair_of_both a b (in_one_loop last whole left right p q r u first.there second.there) only_pair first_front second_front some in
      record {
        subscripts = subst (λ (os : List (Option SubscriptPair)). All IsOne os) (sym (pairs_are last whole left right p q r u a c b d first second))
            (All-cons IsOne (Some pair_of_both) [] (inr (Shared 0, siv)) (All-nil IsOne));
        first_trips = All-cons HasConstantTrip (loop_to last) [] refl (All-nil HasConstantTrip);
        second_trips = All-cons HasConstantTrip (loop_to last) [] refl (All-nil HasConstantTrip);
      }

  pub edge_word_of : (word : Test) → IsOfWord a b word → (w : Test) → IsEdgeWord both_of w → w ≡ word
  edge_word_of =
      edge_word last both_of pair_of_both a b (in_one_loop last whole left right p q r u first.there second.there) only_pair first_front second_front some

  pub drop_word_of : (word : Test) → IsOfWord a b word → pos 2 ≤ℤ pos last → (w : Test) → IsDropWord both_of less w → w ≡ word
  drop_word_of =
      drop_word last both_of pair_of_both a b (in_one_loop last whole left right p q r u first.there second.there) only_pair first_front second_front some

  pub trip_word_of : last ≡ 1 → (w : Test) → IsDropWord both_of less w → w ≡ Trip
  trip_word_of =
      trip_word last both_of pair_of_both a b (in_one_loop last whole left right p q r u first.there second.there) only_pair first_front second_front some
