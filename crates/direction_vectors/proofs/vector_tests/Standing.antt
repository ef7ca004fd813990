-- Where no test refutes a vector, none of the ways does.
use Rattle.std.proofs.Common.{◌≡◌, ℕ, ◌+◌, ◌<◌, ◌≤◌, ◌⊎◌, List, [], ◌∷◌, length, get_or, zero, suc, refl, ap, subst, sym, arith, ◌∙◌, inl, inr, Bool, true, false, cond}
use Rattle.std.specs.Prelude.{ℤ, pos, ◌+ℤ◌, ◌-ℤ◌, ◌*ℤ◌, ◌≤ℤ◌, ◌<ℤ◌, IsTrue, IsSomeAnd, IfSome, Option, Some, None, nat_eq, slice_get, unsigned_abs}
use Prim.Native.Nat.{◌∣◌}
use Rattle.std.proofs.Math.IntN.{zero-*ℤ}
use Rattle.std.proofs.lemmas.Bool.{cases_eq, cases_lt, eq-eqb, ne_eqb}
use Rattle.std.proofs.lemmas.Int.{ints, by_lt_z}
use Rattle.std.proofs.lemmas.Option.{slice_get_within}
use Rattle.subscripts.specs.Classes.{Loop, Shared, First, Second, HasOneLoop, IsMiv, IsZiv, at_place, first_of, second_of, span_of}
use Rattle.subscripts.specs.Forms.{IsPairOf, difference, over_loops, over_symbols}
use Rattle.subscripts.specs.Iterations.{WithinSpan, IsRelated, once}
use Rattle.subscripts.specs.Partitions.{AreGrouped}
use Rattle.subscripts.specs.Refutations.{IsExact, IsOneSided, IsRefutedByGcd}
use Rattle.subscripts.specs.declared.affine.Dir.{Dir}
use Rattle.subscripts.specs.declared.affine.Dir.TheVariants.{Lt, Eq, Gt, Any}
use Rattle.subscripts.specs.declared.affine.Dirs.{Dirs}
use Rattle.subscripts.specs.declared.affine.Span.{Span}
use Rattle.subscripts.specs.declared.pairing.Pairing.{Pairing}
use Rattle.subscripts.proofs.Coupling.{alone}
use Rattle.dependence_tests.proofs.gcd_banerjee.Gcds.{difference_is, divides_constant, same_difference}
use Rattle.dependence_tests.proofs.gcd_banerjee.OneSided.{no_pair}
use Rattle.dependence_tests.proofs.loop_lines.LinePoints.Ring.{linear}
use Rattle.dependence_tests.proofs.loop_lines.Crossings.{along, difference_along, place_of, within_seven, zero_unless}
use Rattle.dependence_tests.proofs.loop_lines.Indexed.{over_none}
use Rattle.dependence_tests.specs.loop_lines.OneLoop.{HasSevenLists, dir_of, first_at, second_at}
use Rattle.direction_vectors.proofs.vector_tests.Groups.{group_of_one, same_pairing}
use Rattle.direction_vectors.proofs.vector_tests.Meetings.{any_related, dirs_of, padded_at, region_of, seven_places, subscript_at}
use Rattle.direction_vectors.specs.vector_tests.Pairs.{IsInVector, IsIteration}
use Rattle.direction_vectors.specs.vector_tests.Places.{IsGroupLeft, IsLeft, IsLoopIn, IsMivLeft, IsOneLeft, IsSivLeft}
use Rattle.direction_vectors.specs.vector_tests.Refs.{IsRefPair, IsSubscriptOf, IsVectorOf}
use Rattle.direction_vectors.specs.vector_tests.Ways.{AreEqualAt, EachGrouped, EndsBefore, HasNoTrip, IsCarrying, IsRefutedByOneLoop, IsRefutedByPair, IsRefutedVector, IsSolution, LacksTripAt}
use Rattle.direction_vectors.specs.vector_tests.Words.{HasUnequalConstants, IsSeparable}
use Rattle.direction_vectors.specs.declared.vector_tests.refs.RefPair.{RefPair}

-- ---- a list of seven, from what stands in each place

abbrev pub seven : (ℕ → ℤ) → List ℤ
seven f = f 0 ∷ f 1 ∷ f 2 ∷ f 3 ∷ f 4 ∷ f 5 ∷ f 6 ∷ []

pub seven_at : (f : ℕ → ℤ) (k : ℕ) → k < 7 → at_place (seven f) k ≡ f k
seven_at f zero h = refl
seven_at f (suc zero) h = refl
seven_at f (suc (suc zero)) h = refl
seven_at f (suc (suc (suc zero))) h = refl
seven_at f (suc (suc (suc (suc zero)))) h = refl
seven_at f (suc (suc (suc (suc (suc zero))))) h = refl
seven_at f (suc (suc (suc (suc (suc (suc zero)))))) h = refl
seven_at f (suc (suc (suc (suc (suc (suc (suc k))))))) h = absurd (omega arith)

pub seven_iterations : (ss : List Span) (f : ℕ → ℤ) → ((k : ℕ) → k < 7 → WithinSpan (get_or ss k once) (f k)) → IsIteration ss (seven f)
seven_iterations ss f w = record {
  places = refl;
  within = λ k b. subst (λ (z : ℤ). WithinSpan (get_or ss k once) z) (sym (seven_at f k b)) (w k b);
}

pub record AreInPlaces (r : RefPair) (d : Dirs) (f g : ℕ → ℤ) : Type 0 where
  pub first : (k : ℕ) → k < 7 → WithinSpan (get_or r.from_spans k once) (f k)
  pub second : (k : ℕ) → k < 7 → WithinSpan (get_or r.to_spans k once) (g k)
  pub related : (k : ℕ) → k < 7 → IsRelated (get_or d.at k Any) (f k) (g k)

pub in_vector : (r : RefPair) (d : Dirs) (f g : ℕ → ℤ) → IsRefPair r → AreInPlaces r d f g → IsInVector r d (seven f) (seven g)
in_vector r d f g c h = record {
  first = seven_iterations r.from_spans f h.first;
  second = seven_iterations r.to_spans g h.second;
  related = λ k b.
      let u = c.from_common in
      let w = c.from_depth in
      let s : k < 7 = omega arith in
      subst (λ (z : ℤ). IsRelated (get_or d.at k Any) z (at_place (seven g) k)) (sym (seven_at f k s))
      (subst (λ (z : ℤ). IsRelated (get_or d.at k Any) (f k) z) (sym (seven_at g k s)) (h.related k s));
}

-- ---- the first turns that a vector asks for

abbrev pub first_turn : Dir → ℤ
first_turn Lt = pos 1
first_turn Eq = pos 1
first_turn Gt = pos 2
first_turn Any = pos 1

abbrev pub second_turn : Dir → ℤ
second_turn Lt = pos 2
second_turn Eq = pos 1
second_turn Gt = pos 1
second_turn Any = pos 1

pub turns_related : (d : Dir) → IsRelated d (first_turn d) (second_turn d)
turns_related Lt = omega (arith, ints)
turns_related Eq = refl
turns_related Gt = omega (arith, ints)
turns_related Any = tt

up_to : (o : Option ℤ) (n : ℤ) → (IsSomeAnd o (λ last. last <ℤ n) → ⊥) → IfSome o (λ last. n ≤ℤ last)
up_to None n h = tt
up_to (Some m) n h = by_lt_z m n (λ b. absurd (h b)) (λ k. k)

pub one_within : (s : Span) → (EndsBefore (pos 1) s → ⊥) → WithinSpan s (pos 1)
one_within s h = record { low = omega (arith, ints); high = up_to s.last (pos 1) h }

two_within : (s : Span) → (EndsBefore (pos 2) s → ⊥) → WithinSpan s (pos 2)
two_within s h = record { low = omega (arith, ints); high = up_to s.last (pos 2) h }

first_turn_within : (d : Dir) (s : Span) → (EndsBefore (pos 1) s → ⊥) → (IsCarrying d → EndsBefore (pos 2) s → ⊥) → WithinSpan s (first_turn d)
first_turn_within Lt s h t = one_within s h
first_turn_within Eq s h t = one_within s h
first_turn_within Gt s h t = two_within s (t tt)
first_turn_within Any s h t = one_within s h

second_turn_within : (d : Dir) (s : Span) → (EndsBefore (pos 1) s → ⊥) → (IsCarrying d → EndsBefore (pos 2) s → ⊥) → WithinSpan s (second_turn d)
second_turn_within Lt s h t = two_within s (t tt)
second_turn_within Eq s h t = one_within s h
second_turn_within Gt s h t = one_within s h
second_turn_within Any s h t = one_within s h

-- a place where two turns are asked for is that of a common loop
carries_common : (r : RefPair) (d : Dirs) (k : ℕ) → IsVectorOf r d → IsCarrying (get_or d.at k Any) → k < r.common
carries_common r d k v c =
    elim (cases_lt k r.common) [ inl b ↦ b | inr b ↦ let n : ⊥ = subst IsCarrying (v.past_len k b) c in absurd n ]

pub turns_in_places : (r : RefPair) (d : Dirs) → IsRefPair r → IsVectorOf r d → (HasNoTrip r d → ⊥) → AreInPlaces r d (λ k. first_turn (get_or d.at k Any)) (λ k. second_turn (get_or d.at k Any))
turns_in_places r d c v t = record {
  first = λ k b. first_turn_within (get_or d.at k Any) (get_or r.from_spans k once) (λ e. t (k, (b, inl e))) (λ y e. t (k, (b, inr (inr (y, e)))));
  second = λ k b. second_turn_within (get_or d.at k Any) (get_or r.to_spans k once) (λ e. t (k, (b, inr (inl e))))
      (λ y e. t (k, (b, inr (inr (y, subst (λ (s : Span). EndsBefore (pos 2) s) (sym (c.common_spans k (carries_common r d k v y))) e)))));
  related = λ k b. turns_related (get_or d.at k Any);
}

-- ---- with the iterations of one loop put in

abbrev pub put_first : Loop → ℤ → (ℕ → ℤ) → ℕ → ℤ
put_first (Shared m) i f k = cond (nat_eq k m) i (f k)
put_first (First m) i f k = cond (nat_eq k m) i (f k)
put_first (Second m) i f k = f k

abbrev pub put_second : Loop → ℤ → (ℕ → ℤ) → ℕ → ℤ
put_second (Shared m) i f k = cond (nat_eq k m) i (f k)
put_second (First m) i f k = f k
put_second (Second m) i f k = cond (nat_eq k m) i (f k)

-- whether it is this place or another
put_cases : (P : ℤ → Type 0) (k m : ℕ) (i j : ℤ) → (k ≡ m → P i) → P j → P (cond (nat_eq k m) i j)
put_cases P k m i j h g =
    elim (cases_eq k m) [
      | inl e ↦ subst (λ (b : Bool). P (cond b i j)) (sym (eq-eqb k m e)) (h e)
      | inr u ↦ subst (λ (b : Bool). P (cond b i j)) (sym (ne_eqb k m u)) g
    ]

both_cases : (P : ℤ → ℤ → Type 0) (k m : ℕ) (i i' j j' : ℤ) → (k ≡ m → P i j) → P i' j' → P (cond (nat_eq k m) i i') (cond (nat_eq k m) j j')
both_cases P k m i i' j j' h g =
    elim (cases_eq k m) [
      | inl e ↦ subst (λ (b : Bool). P (cond b i i') (cond b j j')) (sym (eq-eqb k m e)) (h e)
      | inr u ↦ subst (λ (b : Bool). P (cond b i i') (cond b j j')) (sym (ne_eqb k m u)) g
    ]

own_put : (m : ℕ) (i : ℤ) (f : ℕ → ℤ) → cond (nat_eq m m) i (f m) ≡ i
own_put m i f = ap (λ (b : Bool). cond b i (f m)) (eq-eqb m m refl)

-- the span of a loop of a subscript pair is that of the references
pub from_span_is : (r : RefPair) (p : Pairing) (k : ℕ) → IsSubscriptOf r p → get_or p.from_spans k once ≡ get_or r.from_spans k once
from_span_is r p k s = ap (λ (ss : List Span). get_or ss k once) s.from_spans ∙ padded_at r.from_spans k

pub to_span_is : (r : RefPair) (p : Pairing) (k : ℕ) → IsSubscriptOf r p → get_or p.to_spans k once ≡ get_or r.to_spans k once
to_span_is r p k s = ap (λ (ss : List Span). get_or ss k once) s.to_spans ∙ padded_at r.to_spans k

at_same : (P : ℕ → Type 0) (m k : ℕ) → k ≡ m → P m → P k
at_same P m k e h = subst P (sym e) h

pub put_in_places : (r : RefPair) (d : Dirs) (p : Pairing) (l : Loop) (i j : ℤ) (f g : ℕ → ℤ) → IsRefPair r → IsVectorOf r d → IsSubscriptOf r p → HasOneLoop p l → IsSolution p d l i j → AreInPlaces r d f g
    → AreInPlaces r d (put_first l i f) (put_second l j g)
put_in_places r d p (Shared m) i j f g c v s h n w = record {
  first = λ k b. put_cases (λ z. WithinSpan (get_or r.from_spans k once) z) k m i (f k)
      (λ e. at_same (λ q. WithinSpan (get_or r.from_spans q once) i) m k e (subst (λ (z : Span). WithinSpan z i) (from_span_is r p m s) n.first)) (w.first k b);
  second = λ k b. put_cases (λ z. WithinSpan (get_or r.to_spans k once) z) k m j (g k)
      (λ e. at_same (λ q. WithinSpan (get_or r.to_spans q once) j) m k e
      (subst (λ (z : Span). WithinSpan z j) (from_span_is r p m s ∙ c.common_spans m (let b = h.matters.loop in let t = s.common in omega arith)) n.second)) (w.second k b);
  related = λ k b. both_cases (λ z y. IsRelated (get_or d.at k Any) z y) k m i (f k) j (g k) (λ e. at_same (λ q. IsRelated (get_or d.at q Any) i j) m k e n.related) (w.related k b);
}
put_in_places r d p (First m) i j f g c v s h n w = record {
  first = λ k b. put_cases (λ z. WithinSpan (get_or r.from_spans k once) z) k m i (f k)
      (λ e. at_same (λ q. WithinSpan (get_or r.from_spans q once) i) m k e (subst (λ (z : Span). WithinSpan z i) (from_span_is r p m s) n.first)) (w.first k b);
  second = w.second;
  related = λ k b. put_cases (λ z. IsRelated (get_or d.at k Any) z (g k)) k m i (f k)
      (λ e. any_related (get_or d.at k Any) i (g k) (v.past_len k (let a = h.matters.loop.0 in let t = s.common in omega arith))) (w.related k b);
}
put_in_places r d p (Second m) i j f g c v s h n w = record {
  first = w.first;
  second = λ k b. put_cases (λ z. WithinSpan (get_or r.to_spans k once) z) k m j (g k)
      (λ e. at_same (λ q. WithinSpan (get_or r.to_spans q once) j) m k e (subst (λ (z : Span). WithinSpan z j) (to_span_is r p m s) n.second)) (w.second k b);
  related = λ k b. put_cases (λ z. IsRelated (get_or d.at k Any) (f k) z) k m j (g k)
      (λ e. any_related (get_or d.at k Any) (f k) j (v.past_len k (let a = h.matters.loop.0 in let t = s.common in omega arith))) (w.related k b);
}

-- ---- both sides of a pair of one loop, or of none

difference_none : (f s c e i j : ℤ) → f *ℤ i +ℤ c ≡ s *ℤ j +ℤ e → (f *ℤ i -ℤ s *ℤ j) +ℤ (c -ℤ e) ≡ pos 0
difference_none f s c e i j h = omega (arith, linear)

none_difference : (f s c e i j : ℤ) → (f *ℤ i -ℤ s *ℤ j) +ℤ (c -ℤ e) ≡ pos 0 → f *ℤ i +ℤ c ≡ s *ℤ j +ℤ e
none_difference f s c e i j h = omega (arith, linear)

pub met_at : (p : Pairing) (d : Dirs) (l : Loop) (v : ℕ → ℤ) (x y : List ℤ) (r : RefPair) → IsVectorOf r d → IsSubscriptOf r p → HasOneLoop p l → length x ≡ 7 → length y ≡ 7
    → AreEqualAt p l (first_at l x) (second_at l y) → difference p v x y ≡ pos 0
met_at p d l v x y r w s h ex ey e =
    difference_along p d l v x y s.pairing (seven_places r d p w s) h ex ey
    ∙ difference_none (first_of p l) (second_of p l) p.from.constant p.to.constant (first_at l x) (second_at l y) e

pub at_met : (p : Pairing) (d : Dirs) (l : Loop) (v : ℕ → ℤ) (x y : List ℤ) (r : RefPair) → IsVectorOf r d → IsSubscriptOf r p → HasOneLoop p l → length x ≡ 7 → length y ≡ 7
    → difference p v x y ≡ pos 0 → AreEqualAt p l (first_at l x) (second_at l y)
at_met p d l v x y r w s h ex ey e =
    none_difference (first_of p l) (second_of p l) p.from.constant p.to.constant (first_at l x) (second_at l y)
    (sym (difference_along p d l v x y s.pairing (seven_places r d p w s) h ex ey) ∙ e)

ziv_first : (p : Pairing) → IsZiv p → (k : ℕ) → k < 7 → at_place p.from.loops k ≡ pos 0
ziv_first p z k b =
    zero_unless (at_place p.from.loops k)
    (λ n. elim (cases_lt k p.common) [
      | inl c ↦ z.none (Shared k) (record { loop = c; some = λ u w. n u })
      | inr c ↦ z.none (First k) (record { loop = (c, b); some = λ u w. n u })
    ])

ziv_second : (p : Pairing) → IsZiv p → (k : ℕ) → k < 7 → at_place p.to.loops k ≡ pos 0
ziv_second p z k b =
    zero_unless (at_place p.to.loops k)
    (λ n. elim (cases_lt k p.common) [
      | inl c ↦ z.none (Shared k) (record { loop = c; some = λ u w. n w })
      | inr c ↦ z.none (Second k) (record { loop = (c, b); some = λ u w. n w })
    ])

equal_difference : (c e : ℤ) → c ≡ e → (pos 0 -ℤ pos 0) +ℤ (c -ℤ e) ≡ pos 0
equal_difference c e h = omega (arith, linear)

pub ziv_difference : (p : Pairing) (v : ℕ → ℤ) (x y : List ℤ) → IsZiv p → HasSevenLists p → difference p v x y ≡ (pos 0 -ℤ pos 0) +ℤ (p.from.constant -ℤ p.to.constant)
ziv_difference p v x y z n =
    let a = n.from_loops in
    let b = n.to_loops in
    along (pos 0) (pos 0) p.from.constant p.to.constant (over_loops p.from.loops x) (over_loops p.to.loops y) (over_symbols p.from.syms v) (over_symbols p.to.syms v)
    (over_none p.from.loops x (λ k l. ziv_first p z k (omega arith))) (over_none p.to.loops y (λ k l. ziv_second p z k (omega arith))) (z.cancels v)

pub ziv_met : (p : Pairing) (v : ℕ → ℤ) (x y : List ℤ) → IsZiv p → HasSevenLists p → p.from.constant ≡ p.to.constant → difference p v x y ≡ pos 0
ziv_met p v x y z n e = ziv_difference p v x y z n ∙ equal_difference p.from.constant p.to.constant e

-- ---- a pair of iterations speaks against the tests

gcd_not : (p : Pairing) (d : Dirs) (x y : List ℤ) → IsTrue p.known → IsPairOf p d x y → IsRefutedByGcd p → ⊥
gcd_not p d x y t q r =
    let e = q.equal t in
    r.1.1 (subst (λ (n : ℕ). r.0 ∣ n) (same_difference p)
    (divides_constant p r.0 (p.from.constant -ℤ p.to.constant) e.0 x y r.1.0.divides (difference_is p e.0 x y ∙ e.1)))

pub left_by_pair : (p : Pairing) (d : Dirs) (x y : List ℤ) → IsTrue p.known → IsPairOf p d x y → IsLeft p d
left_by_pair p d x y t q = record {
  gcd = gcd_not p d x y t q;
  range = λ s. no_pair p d t s x y q;
}

-- a solution of the one loop, with the first turns of the others
own_equal : (p : Pairing) (l : Loop) (i j : ℤ) (f g : ℕ → ℤ) → IsLoopIn (place_of l) l → place_of l < 7 → AreEqualAt p l i j → AreEqualAt p l (first_at l (seven (put_first l i f))) (second_at l (seven (put_second l j g)))
own_equal p (Shared m) i j f g o b e =
    subst (λ (z : ℤ). AreEqualAt p (Shared m) z (at_place (seven (put_second (Shared m) j g)) m)) (sym (seven_at (put_first (Shared m) i f) m b ∙ own_put m i f))
    (subst (λ (z : ℤ). AreEqualAt p (Shared m) i z) (sym (seven_at (put_second (Shared m) j g) m b ∙ own_put m j g)) e)
own_equal p (First m) i j f g o b e =
    subst (λ (z : ℤ). AreEqualAt p (First m) z (pos 1)) (sym (seven_at (put_first (First m) i f) m b ∙ own_put m i f))
    (e ∙ ap (λ (z : ℤ). z +ℤ p.to.constant) (zero-*ℤ j ∙ sym (zero-*ℤ (pos 1))))
own_equal p (Second m) i j f g o b e =
    subst (λ (z : ℤ). AreEqualAt p (Second m) (pos 1) z) (sym (seven_at (put_second (Second m) j g) m b ∙ own_put m j g))
    (ap (λ (z : ℤ). z +ℤ p.from.constant) (zero-*ℤ (pos 1) ∙ sym (zero-*ℤ i)) ∙ e)

pub own_place : (l : Loop) → IsLoopIn (place_of l) l
own_place (Shared m) = refl
own_place (First m) = refl
own_place (Second m) = refl

module _ (r : RefPair) (d : Dirs) (c : IsRefPair r) (v : IsVectorOf r d) (t : HasNoTrip r d → ⊥) where
  pub left_by_solution : (p : Pairing) (l : Loop) (i j : ℤ) → IsSubscriptOf r p → HasOneLoop p l → IsSolution p d l i j → IsLeft p d
  left_by_solution p l i j s h n =
      let f : ℕ → ℤ = λ k. first_turn (get_or d.at k Any) in
      let g : ℕ → ℤ = λ k. second_turn (get_or d.at k Any) in
      let w = in_vector r d (put_first l i f) (put_second l j g) c (put_in_places r d p l i j f g c v s h n (turns_in_places r d c v t)) in
      let b = within_seven p l s.pairing h in
      let e = own_equal p l i j f g (own_place l) b n.equal in
      left_by_pair p d (seven (put_first l i f)) (seven (put_second l j g)) h.known (record {
        region = region_of r d (seven (put_first l i f)) (seven (put_second l j g)) p c v s w;
        equal = λ k. ((λ q. pos 0), met_at p d l (λ q. pos 0) (seven (put_first l i f)) (seven (put_second l j g)) r v s h refl refl e);
      })

  pub left_by_constants : (p : Pairing) → IsSubscriptOf r p → IsZiv p → p.from.constant ≡ p.to.constant → IsLeft p d
  left_by_constants p s z e =
      let f : ℕ → ℤ = λ k. first_turn (get_or d.at k Any) in
      let g : ℕ → ℤ = λ k. second_turn (get_or d.at k Any) in
      let w = in_vector r d f g c (turns_in_places r d c v t) in
      left_by_pair p d (seven f) (seven g) z.known (record {
        region = region_of r d (seven f) (seven g) p c v s w;
        equal = λ k. ((λ q. pos 0), ziv_met p (λ q. pos 0) (seven f) (seven g) z s.places e);
      })

refuted_not : (p : Pairing) (d : Dirs) → IsLeft p d → IsRefutedByGcd p ⊎ IsOneSided p d → ⊥
refuted_not p d l h = elim h [ inl g ↦ l.gcd g | inr s ↦ l.range s ]

only_one : (ps : List Pairing) (i j : ℕ) (p q : Pairing) (d : Dirs) (l : Loop) (a b : ℤ) → IsSeparable ps i → AreGrouped ps i j → slice_get ps i ≡ Some p → slice_get ps j ≡ Some q → IsSolution p d l a b → IsSolution q d l a b
only_one ps i j p q d l a b s g e f n =
    let k : j ≡ i = group_of_one ps i j s g in
    subst (λ (z : Pairing). IsSolution z d l a b) (same_pairing ps i p q e (subst (λ (m : ℕ). slice_get ps m ≡ Some q) k f)) n

-- what the tests have left
pub record IsUnrefuted (r : RefPair) (d : Dirs) : Type 0 where
  pub trips : HasNoTrip r d → ⊥
  pub constants : HasUnequalConstants r.subs → ⊥
  pub siv : (k : ℕ) → k < length r.subs → IsSivLeft r.subs d k
  pub groups : (k : ℕ) → k < length r.subs → (IsSeparable r.subs k → ⊥) → IsGroupLeft r.subs d k
  pub miv : (k : ℕ) → k < length r.subs → IsMivLeft r.subs d k

module _ (r : RefPair) (d : Dirs) (c : IsRefPair r) (v : IsVectorOf r d) (u : IsUnrefuted r d) where
  one_stands : (at : ℕ) (p : Pairing) (l : Loop) → slice_get r.subs at ≡ Some p → IsSeparable r.subs at → HasOneLoop p l → IsRefutedByGcd p ⊎ IsOneSided p d → ⊥
  one_stands at p l e s h f =
      let left = u.siv at (slice_get_within r.subs at p e) p l e s h in
      refuted_not p d
      (left.ways (λ x. let n = left.loop x.0 x.1.0 x.1.1 in refuted_not p d (left_by_solution r d c v u.trips p x.0 n.0 n.1.0 (subscript_at r at p c e) x.1.0 n.1.1) f)) f

  ziv_stands : (at : ℕ) (p : Pairing) → slice_get r.subs at ≡ Some p → IsZiv p → IsRefutedByGcd p ⊎ IsOneSided p d → ⊥
  ziv_stands at p e z f =
      u.constants (record {
        at = at;
        pairing = p;
        is_at = e;
        ziv = z;
        differ = λ k. refuted_not p d (left_by_constants r d c v u.trips p (subscript_at r at p c e) z k) f;
      })

  pair_stands : IsRefutedByPair r d → ⊥
  pair_stands h =
      let b = slice_get_within r.subs h.at h.pairing h.is_at in
      let several : IsSeparable r.subs h.at → ⊥ =
      λ s. refuted_not h.pairing d
      (u.miv h.at b h.pairing h.is_at s
      (record {
        known = h.linear;
        not_ziv = λ z. ziv_stands h.at h.pairing h.is_at z h.refuted;
        not_siv = λ l o. one_stands h.at h.pairing l h.is_at s o h.refuted;
      })) h.refuted in
      let left = u.groups h.at b several in
      refuted_not h.pairing d
      (left.ways
      (λ l x. let n = left.loop l x in
      refuted_not h.pairing d
      (left_by_solution r d c v u.trips h.pairing l n.0 n.1.0 (subscript_at r h.at h.pairing c h.is_at) (x h.at h.pairing (alone r.subs h.at) h.is_at).0
      (n.1.1 h.at h.pairing (alone r.subs h.at) h.is_at)) h.refuted)
      h.at h.pairing (alone r.subs h.at) h.is_at) h.refuted

  loop_stands : IsRefutedByOneLoop r d → ⊥
  loop_stands h =
      let p = h.some.0 in
      let e = h.some.1 in
      let b = slice_get_within r.subs h.at p e in
      let mine = h.each h.at p (alone r.subs h.at) e in
      let several : IsSeparable r.subs h.at → ⊥ =
      λ s.
      let n = (u.siv h.at b p h.loop e s mine.0).loop h.loop mine.0 mine.1 in
      h.none n.0 n.1.0 (λ j q g f. only_one r.subs h.at j p q d h.loop n.0 n.1.0 s g e f n.1.1) in
      let n = (u.groups h.at b several).loop h.loop h.each in
      h.none n.0 n.1.0 n.1.1

  pub stands : IsRefutedVector r d → ⊥
  stands h = elim h [ inl t ↦ u.trips t | inr g ↦ elim g [ inl p ↦ pair_stands p | inr l ↦ loop_stands l ] ]
