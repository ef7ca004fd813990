-- The least meeting in the exact class: each loop is by itself.
use Rattle.std.proofs.Common.{◌≡◌, ℕ, ◌+◌, ◌<◌, ◌≤◌, ◌⊎◌, ◌↔◌, List, [], ◌∷◌, ◌++◌, length, get_or, zero, suc, refl, ap, subst, sym, arith, ◌∙◌, inl, inr, Bool, true}
use Rattle.std.specs.Prelude.{ℤ, pos, ◌+ℤ◌, ◌-ℤ◌, ◌*ℤ◌, ◌≤ℤ◌, ◌<ℤ◌, All, IsTrue, IsSome, Option, Some, slice_get}
use Rattle.std.proofs.Math.IntN.{zero-*ℤ}
use Rattle.std.proofs.lemmas.Bool.{cases_eq, cases_lt}
use Rattle.std.proofs.lemmas.Int.{ints, by_lt_z}
use Rattle.std.proofs.lemmas.List.{get_or_past}
use Rattle.std.proofs.lemmas.List.Elements.{All-nil, All-cons, All-head, All-tail}
use Rattle.std.proofs.lemmas.Option.{get_or_from_slice_get, slice_get-get_or, slice_get_within}
use Rattle.subscripts.specs.Classes.{Loop, Shared, First, Second, HasOneLoop, IsZiv, at_place, first_of, second_of, span_of}
use Rattle.subscripts.specs.Cuts.{IsNoLater}
use Rattle.subscripts.specs.Forms.{IsInRegion, difference}
use Rattle.subscripts.specs.Iterations.{WithinSpan, IsRelated, once}
use Rattle.subscripts.specs.Partitions.{AreCoupled, AreGrouped, IsChain, SharesLoop}
use Rattle.subscripts.specs.Refutations.{IsOneSided}
use Rattle.subscripts.specs.declared.affine.Dir.{Dir}
use Rattle.subscripts.specs.declared.affine.Dir.TheVariants.{Lt, Eq, Gt, Any}
use Rattle.subscripts.specs.declared.affine.Dirs.{Dirs}
use Rattle.subscripts.specs.declared.affine.Span.{Span}
use Rattle.subscripts.specs.declared.pairing.Pairing.{Pairing}
use Rattle.subscripts.proofs.Coupling.{alone, one_step}
use Rattle.dependence_tests.proofs.loop_lines.LinePoints.Ring.{linear}
use Rattle.dependence_tests.specs.loop_lines.line_points.Least.{IsAtMost, IsWithin}
use Rattle.dependence_tests.specs.delta_test.Constraints.{Allows}
use Rattle.dependence_tests.specs.delta_test.IterationsLeft.{IsLeastLeft, IsNoneLeft}
use Rattle.dependence_tests.specs.declared.delta_test.constraint.Constraint.{Constraint}
use Rattle.dependence_tests.proofs.loop_lines.Crossings.{place_of, within_seven}
use Rattle.dependence_tests.specs.loop_lines.OneLoop.{dir_of, first_at, second_at}
use Rattle.direction_vectors.proofs.vector_tests.Groups.{first_is, same_pairing, span_within}
use Rattle.direction_vectors.proofs.vector_tests.Meetings.{any_related, related_in, subscript_at}
use Rattle.direction_vectors.proofs.vector_tests.Standing.{at_met, first_turn, second_turn, from_span_is, met_at, one_within, own_place, to_span_is, turns_in_places, ziv_difference, ziv_met}
use Rattle.direction_vectors.specs.vector_tests.Pairs.{IsInVector, IsLeastMeeting, IsMeeting}
use Rattle.direction_vectors.specs.vector_tests.Places.{HasEachDirection, HasSolution, IsAllowedAt, IsLeastAllowed, IsLeastSolution, IsLoopIn, IsLoopSolution, IsPlaceOf, LeavesSome, SolvesEach, loop_span}
use Rattle.direction_vectors.specs.vector_tests.Refs.{IsRefPair, IsSubscriptOf, IsVectorOf}
use Rattle.direction_vectors.specs.vector_tests.Ways.{AreEqualAt, IsExactClass, IsRefutedVector, IsZivOrSiv}
use Rattle.direction_vectors.specs.declared.vector_tests.refs.RefPair.{RefPair}

-- ---- pairs that are coupled have one and the same loop

ziv_or_siv_at : (ps : List Pairing) (i : ℕ) (p : Pairing) → All IsZivOrSiv ps → slice_get ps i ≡ Some p → IsZivOrSiv p
ziv_or_siv_at ps i p a e = subst IsZivOrSiv (get_or_from_slice_get ps i p p e) (a i p (slice_get_within ps i p e))

coupled_loop : (p q : Pairing) (l : Loop) → HasOneLoop p l → SharesLoop p q → IsZivOrSiv q → HasOneLoop q l
coupled_loop p q l h s z =
    elim z [
      | inl y ↦ absurd (y.none s.loop s.second)
      | inr o ↦ subst (λ (m : Loop). HasOneLoop q m) (sym (o.1.alone s.loop s.second) ∙ h.alone s.loop s.first) o.1
    ]

along_chain : (ps : List Pairing) (i : ℕ) (ks : List ℕ) (j : ℕ) (l : Loop) (p q : Pairing) → All IsZivOrSiv ps → slice_get ps i ≡ Some p → HasOneLoop p l → IsChain ps i ks j → slice_get ps j ≡ Some q → HasOneLoop q l
along_chain ps i [] j l p q a e h c f = subst (λ (m : Pairing). HasOneLoop m l) (same_pairing ps j p q (subst (λ (n : ℕ). slice_get ps n ≡ Some p) c e) f) h
along_chain ps i (k ∷ ks) j l p q a e h c f =
    let g : HasOneLoop c.0.first l = subst (λ (m : Pairing). HasOneLoop m l) (sym (first_is ps i k p c.0 e)) h in
    along_chain ps k ks j l c.0.second q a c.0.at_second (coupled_loop c.0.first c.0.second l g c.0.shares (ziv_or_siv_at ps k c.0.second a c.0.at_second)) c.1 f

with_loop : (ps : List Pairing) (i j : ℕ) (l : Loop) (p q : Pairing) → slice_get ps i ≡ Some p → slice_get ps j ≡ Some q → HasOneLoop p l → HasOneLoop q l → AreGrouped ps i j
with_loop ps i j l p q e f h g =
    one_step ps i j (record {
      first = p;
      second = q;
      at_first = e;
      at_second = f;
      shares = record { loop = l; first_known = h.known; second_known = g.known; first = h.matters; second = g.matters };
    })

-- ---- whether some pair has the loop

other_loop : (l m : Loop) → (l ≡ m) ⊎ (l ≡ m → ⊥)
other_loop (Shared k) (Shared n) = elim (cases_eq k n) [ inl e ↦ inl (ap Shared e) | inr u ↦ inr (λ t. u (ap place_of t)) ]
other_loop (Shared k) (First n) = inr (λ t. cc)
other_loop (Shared k) (Second n) = inr (λ t. cc)
other_loop (First k) (Shared n) = inr (λ t. cc)
other_loop (First k) (First n) = elim (cases_eq k n) [ inl e ↦ inl (ap First e) | inr u ↦ inr (λ t. u (ap place_of t)) ]
other_loop (First k) (Second n) = inr (λ t. cc)
other_loop (Second k) (Shared n) = inr (λ t. cc)
other_loop (Second k) (First n) = inr (λ t. cc)
other_loop (Second k) (Second n) = elim (cases_eq k n) [ inl e ↦ inl (ap Second e) | inr u ↦ inr (λ t. u (ap place_of t)) ]

has_or_not : (p : Pairing) (l : Loop) → IsZivOrSiv p → (HasOneLoop p l) ⊎ (HasOneLoop p l → ⊥)
has_or_not p l z =
    elim z [
      | inl y ↦ inr (λ h. y.none l h.matters)
      | inr o ↦ elim (other_loop o.0 l) [ inl e ↦ inl (subst (λ (m : Loop). HasOneLoop p m) e o.1) | inr u ↦ inr (λ h. u (sym (o.1.alone l h.matters))) ]
    ]

record HasLoopAt (ps : List Pairing) (l : Loop) : Type 0 where
  at : ℕ
  pairing : Pairing
  is_at : slice_get ps at ≡ Some pairing
  one : HasOneLoop pairing l

find_loop : (ps : List Pairing) (l : Loop) → All IsZivOrSiv ps → HasLoopAt ps l ⊎ All (λ p. HasOneLoop p l → ⊥) ps
find_loop [] l a = inr (All-nil (λ p. HasOneLoop p l → ⊥))
find_loop (p ∷ ps) l a =
    elim (has_or_not p l (All-head IsZivOrSiv p ps a)) [
      | inl h ↦ inl (record { at = zero; pairing = p; is_at = refl; one = h })
      | inr n ↦ elim (find_loop ps l (All-tail IsZivOrSiv p ps a)) [
        | inl f ↦ inl (record { at = suc f.at; pairing = f.pairing; is_at = f.is_at; one = f.one })
        | inr b ↦ inr (All-cons (λ q. HasOneLoop q l → ⊥) p ps n b)
      ]
    ]

-- ---- spans in the exact class

fixed_at : (ss : List Span) (k : ℕ) → All (λ s. IsTrue s.fixed) ss → IsTrue (get_or ss k once).fixed
fixed_at ss k a =
    elim (cases_lt k (length ss)) [ inl b ↦ a k once b | inr b ↦ subst (λ (s : Span). IsTrue s.fixed) (sym (get_or_past ss k once b)) refl ]

some_end : (n : ℤ) → IsSome (Some n)
some_end n = refl

end_at : (ss : List Span) (k : ℕ) → All (λ s. IsTrue s.fixed → IsSome s.last) ss → All (λ s. IsTrue s.fixed) ss → IsSome (get_or ss k once).last
end_at ss k e a =
    elim (cases_lt k (length ss)) [ inl b ↦ e k once b (a k once b) | inr b ↦ subst (λ (s : Span). IsSome s.last) (sym (get_or_past ss k once b)) (some_end (pos 1)) ]

span_is : (r : RefPair) (p : Pairing) (l : Loop) → IsSubscriptOf r p → span_of p l ≡ loop_span r l
span_is r p (Shared k) s = from_span_is r p k s
span_is r p (First k) s = from_span_is r p k s
span_is r p (Second k) s = to_span_is r p k s

loop_fixed : (r : RefPair) (l : Loop) → IsExactClass r → IsTrue (loop_span r l).fixed
loop_fixed r (Shared k) x = fixed_at r.from_spans k x.from_fixed
loop_fixed r (First k) x = fixed_at r.from_spans k x.from_fixed
loop_fixed r (Second k) x = fixed_at r.to_spans k x.to_fixed

pub loop_ends : (r : RefPair) (l : Loop) → IsRefPair r → IsExactClass r → IsSome (loop_span r l).last
loop_ends r (Shared k) c x = end_at r.from_spans k c.from_ends x.from_fixed
loop_ends r (First k) c x = end_at r.from_spans k c.from_ends x.from_fixed
loop_ends r (Second k) c x = end_at r.to_spans k c.to_ends x.to_fixed

-- ---- a loop without a solution refutes the vector

turns_of : (r : RefPair) (d : Dirs) (l : Loop) → IsRefPair r → IsVectorOf r d → IsPlaceOf r l → (IsRefutedVector r d → ⊥) → All (λ p. HasOneLoop p l → ⊥) r.subs
    → (i : ℤ) × ((j : ℤ) × IsLoopSolution r d l i j)
turns_of r d (Shared k) c v b n a =
    let t = turns_in_places r d c v (λ h. n (inl h)) in
    let u = c.from_common in
    let w = c.from_depth in
    let s : k < 7 = omega arith in (
      first_turn (get_or d.at k Any),
      (
        second_turn (get_or d.at k Any),
        record {
          first = t.first k s;
          second = subst (λ (z : Span). WithinSpan z (second_turn (get_or d.at k Any))) (sym (c.common_spans k b)) (t.second k s);
          related = t.related k s;
          solves = λ m q h o. absurd (a m q h o);
        },
      ),
    )
turns_of r d (First k) c v b n a =
    let w : WithinSpan (get_or r.from_spans k once) (pos 1) = one_within (get_or r.from_spans k once) (λ e. n (inl (k, (b, inl e)))) in
    (pos 1, (pos 1, record { first = w; second = w; related = tt; solves = λ m q h o. absurd (a m q h o) }))
turns_of r d (Second k) c v b n a =
    let w : WithinSpan (get_or r.to_spans k once) (pos 1) = one_within (get_or r.to_spans k once) (λ e. n (inl (k, (b, inr (inl e))))) in
    (pos 1, (pos 1, record { first = w; second = w; related = tt; solves = λ m q h o. absurd (a m q h o) }))

pub some_solution : (r : RefPair) (d : Dirs) (l : Loop) → IsRefPair r → IsVectorOf r d → IsExactClass r → IsPlaceOf r l → (IsRefutedVector r d → ⊥) → ((i j : ℤ) → IsLoopSolution r d l i j → ⊥) → ⊥
some_solution r d l c v x b n none =
    elim (find_loop r.subs l x.subscripts) [
      | inl f ↦ n (inr (inr (record {
        at = f.at;
        some = (f.pairing, f.is_at);
        loop = l;
        each = λ j q g e.
            let h = along_chain r.subs f.at g.0 j l f.pairing q x.subscripts f.is_at f.one g.1 e in
            (h, subst (λ (z : Span). IsTrue z.fixed) (sym (span_is r q l (subscript_at r j q c e))) (loop_fixed r l x));
        none = λ i j each.
            let mine = each f.at f.pairing (alone r.subs f.at) f.is_at in
            let same = span_is r f.pairing l (subscript_at r f.at f.pairing c f.is_at) in
            none i j (record {
              first = subst (λ (z : Span). WithinSpan z i) same mine.first;
              second = subst (λ (z : Span). WithinSpan z j) same mine.second;
              related = mine.related;
              solves = λ k q h o.
                  (each k (get_or r.subs k q) (with_loop r.subs f.at k l f.pairing (get_or r.subs k q) f.is_at (slice_get-get_or r.subs k q h) f.one o) (slice_get-get_or r.subs k q h)).equal;
            });
      })))
      | inr a ↦ let t = turns_of r d l c v b n a in none t.0 t.1.0 t.1.1
    ]

-- ---- the least iterations of a loop

within_from_solution : (r : RefPair) (d : Dirs) (l : Loop) (trip i j : ℤ) → (loop_span r l).last ≡ Some trip → IsLoopSolution r d l i j → IsWithin trip (dir_of d l) i j
within_from_solution r d l trip i j t s = record {
  first = record { low = s.first.low; high = rw t at s.first.high };
  second = record { low = s.second.low; high = rw t at s.second.high };
  related = s.related;
}

pub no_solution : (r : RefPair) (d : Dirs) (l : Loop) (left : Constraint) (trip : ℤ) → ((i j : ℤ) → Allows left i j ↔ SolvesEach r.subs l i j) → (loop_span r l).last ≡ Some trip → IsNoneLeft left trip (dir_of d l)
    → (i j : ℤ) → IsLoopSolution r d l i j → ⊥
no_solution r d l left trip same t none i j s = none i j ((same i j).1 s.solves) (within_from_solution r d l trip i j t s)

pub least_solution : (r : RefPair) (d : Dirs) (l : Loop) (left : Constraint) (trip i j : ℤ) → ((i j : ℤ) → Allows left i j ↔ SolvesEach r.subs l i j) → (loop_span r l).last ≡ Some trip → IsLeastLeft left trip (dir_of d l) i j
    → IsLeastSolution r d l i j
least_solution r d l left trip i j same t m = record {
  solution = record {
    first = span_within (loop_span r l) trip i t m.within.first;
    second = span_within (loop_span r l) trip j t m.within.second;
    related = m.within.related;
    solves = (same i j).0 m.left;
  };
  least = λ i' j' s. m.least i' j' ((same i' j').1 s.solves) (within_from_solution r d l trip i' j' t s);
}

-- some iterations in a direction
solution_left : (r : RefPair) (k : ℕ) (e : Dir) (left : Constraint) (trip : ℤ) → ((i j : ℤ) → Allows left i j ↔ SolvesEach r.subs (Shared k) i j)
    → (loop_span r (Shared k)).last ≡ Some trip → LeavesSome left trip e → HasSolution r k e
solution_left r k e left trip same t (i, (j, m)) = record {
  i = i;
  j = j;
  first = span_within (loop_span r (Shared k)) trip i t m.within.first;
  second = span_within (loop_span r (Shared k)) trip j t m.within.second;
  related = m.within.related;
  solves = (same i j).0 m.left;
}

pub each_direction : (r : RefPair) (k : ℕ) (left : Constraint) (trip : ℤ) → ((i j : ℤ) → Allows left i j ↔ SolvesEach r.subs (Shared k) i j)
    → (loop_span r (Shared k)).last ≡ Some trip → LeavesSome left trip Lt → LeavesSome left trip Eq → LeavesSome left trip Gt → HasEachDirection r k
each_direction r k left trip same t l e g Lt n = solution_left r k Lt left trip same t l
each_direction r k left trip same t l e g Eq n = solution_left r k Eq left trip same t e
each_direction r k left trip same t l e g Gt n = solution_left r k Gt left trip same t g
each_direction r k left trip same t l e g Any n = absurd (n refl)

-- ---- the least iterations in a place

-- the iteration of the other reference doesn't count
first_alone : (p : Pairing) (k : ℕ) (i j j' : ℤ) → AreEqualAt p (First k) i j → AreEqualAt p (First k) i j'
first_alone p k i j j' e = e ∙ ap (λ (z : ℤ). z +ℤ p.to.constant) (zero-*ℤ j ∙ sym (zero-*ℤ j'))

second_alone : (p : Pairing) (k : ℕ) (i i' j : ℤ) → AreEqualAt p (Second k) i j → AreEqualAt p (Second k) i' j
second_alone p k i i' j e = ap (λ (z : ℤ). z +ℤ p.from.constant) (zero-*ℤ i' ∙ sym (zero-*ℤ i)) ∙ e

at_loop : (r : RefPair) (m k : ℕ) (i j : ℤ) (L : ℕ → Loop) → m ≡ k → SolvesEach r.subs (L k) i j → SolvesEach r.subs (L m) i j
at_loop r m k i j L e s = subst (λ (n : ℕ). SolvesEach r.subs (L n) i j) (sym e) s

pub shared_solves : (r : RefPair) (k : ℕ) (i j : ℤ) (l : Loop) → IsRefPair r → k < r.common → SolvesEach r.subs (Shared k) i j → IsLoopIn k l → SolvesEach r.subs l i j
shared_solves r k i j (Shared m) c b s e = at_loop r m k i j Shared e s
shared_solves r k i j (First m) c b s e = λ n q h o. let z = o.matters.loop.0 in let t = (c.subscripts n q h).common in absurd (omega arith)
shared_solves r k i j (Second m) c b s e = λ n q h o. let z = o.matters.loop.0 in let t = (c.subscripts n q h).common in absurd (omega arith)

pub shared_allowed : (r : RefPair) (d : Dirs) (k : ℕ) (i j : ℤ) → IsRefPair r → k < r.common → IsLeastSolution r d (Shared k) i j → IsLeastAllowed r d k i j
shared_allowed r d k i j c b s = record {
  allowed = record {
    first = s.solution.first;
    second = subst (λ (z : Span). WithinSpan z j) (c.common_spans k b) s.solution.second;
    related = s.solution.related;
    solves = λ l e. shared_solves r k i j l c b s.solution.solves e;
  };
  least = λ i' j' a. s.least i' j' (record {
    first = a.first;
    second = subst (λ (z : Span). WithinSpan z j') (sym (c.common_spans k b)) a.second;
    related = a.related;
    solves = a.solves (Shared k) refl;
  });
}

own_solves : (r : RefPair) (k : ℕ) (i i' j j' : ℤ) (l : Loop) → IsRefPair r → r.common ≤ k → SolvesEach r.subs (First k) i j' → SolvesEach r.subs (Second k) i' j → IsLoopIn k l → SolvesEach r.subs l i j
own_solves r k i i' j j' (Shared m) c b s t e = λ n q h o. let z = o.matters.loop in let w = (c.subscripts n q h).common in absurd (omega arith)
own_solves r k i i' j j' (First m) c b s t e = at_loop r m k i j First e (λ n q h o. first_alone (get_or r.subs n q) k i j' j (s n q h o))
own_solves r k i i' j j' (Second m) c b s t e = at_loop r m k i j Second e (λ n q h o. second_alone (get_or r.subs n q) k i' i j (t n q h o))

first_least : (i j i' : ℤ) → IsAtMost i j i' j → i ≤ℤ i'
first_least i j i' (inl b) = omega (arith, ints)
first_least i j i' (inr e) = let f = e.0 in omega (arith, ints)

second_least : (i j j' : ℤ) → IsAtMost i j i j' → j ≤ℤ j'
second_least i j j' (inl b) = absurd (omega (arith, ints))
second_least i j j' (inr e) = e.1

both_least : (i j i' j' : ℤ) → i ≤ℤ i' → j ≤ℤ j' → IsAtMost i j i' j'
both_least i j i' j' h g = by_lt_z i i' (λ b. inl b) (λ k. inr (omega (arith, ints), g))

pub own_allowed : (r : RefPair) (d : Dirs) (k : ℕ) (i j' i' j : ℤ) → IsRefPair r → IsVectorOf r d → r.common ≤ k → IsLeastSolution r d (First k) i j' → IsLeastSolution r d (Second k) i' j → IsLeastAllowed r d k i j
own_allowed r d k i j' i' j c v b s t = record {
  allowed = record {
    first = s.solution.first;
    second = t.solution.second;
    related = any_related (get_or d.at k Any) i j (v.past_len k b);
    solves = λ l e. own_solves r k i i' j j' l c b s.solution.solves t.solution.solves e;
  };
  least = λ u w a.
      both_least i j u w
      (first_least i j' u (s.least u j' (record {
        first = a.first;
        second = s.solution.second;
        related = tt;
        solves = λ n q h o. first_alone (get_or r.subs n q) k u w j' (a.solves (First k) refl n q h o);
      })))
      (second_least i' j w (t.least i' w (record {
        first = t.solution.first;
        second = a.second;
        related = tt;
        solves = λ n q h o. second_alone (get_or r.subs n q) k u i' w (a.solves (Second k) refl n q h o);
      })));
}

-- ---- lists of iterations in order

abbrev IsEarlier : List ℤ → List ℤ → Type 0
IsEarlier [] x' = ⊥
IsEarlier (i ∷ x) [] = ⊥
IsEarlier (i ∷ x) (i' ∷ x') = (i <ℤ i') ⊎ ((i ≡ i') × IsEarlier x x')

earlier_first : (x y x' y' : List ℤ) → IsEarlier x x' → IsNoLater (x ++ y) (x' ++ y')
earlier_first [] y x' y' h = absurd h
earlier_first (i ∷ x) y [] y' h = absurd h
earlier_first (i ∷ x) y (i' ∷ x') y' h = elim h [ inl b ↦ inl b | inr e ↦ inr (e.0, earlier_first x y x' y' e.1) ]

no_later : (y y' : List ℤ) → ((k : ℕ) → k < length y → at_place y k ≤ℤ at_place y' k) → IsNoLater y y'
no_later [] y' h = tt
no_later (j ∷ y) [] h = tt
no_later (j ∷ y) (j' ∷ y') h =
    let b : j ≤ℤ j' = h zero (omega arith) in
    by_lt_z j j' (λ l. inl l) (λ l. inr (omega (arith, ints), no_later y y' (λ k m. h (suc k) (omega arith))))

after : (x y y' : List ℤ) → IsNoLater y y' → IsNoLater (x ++ y) (x ++ y')
after [] y y' h = h
after (i ∷ x) y y' h = inr (refl, after x y y' h)

same_first : (x x' y y' : List ℤ) → x ≡ x' → IsNoLater y y' → IsNoLater (x ++ y) (x' ++ y')
same_first x x' y y' e h = subst (λ (z : List ℤ). IsNoLater (x ++ y) (z ++ y')) e (after x y y' h)

cons_same : (i i' : ℤ) (x x' : List ℤ) → i ≡ i' → x ≡ x' → i ∷ x ≡ i' ∷ x'
cons_same i i' x x' e f = cc

at_each : (j j' : ℤ) (y y' : List ℤ) (n : ℕ) → j ≤ℤ j' → ((k : ℕ) → k < n → at_place y k ≤ℤ at_place y' k) → (k : ℕ) → k < suc n → at_place (j ∷ y) k ≤ℤ at_place (j' ∷ y') k
at_each j j' y y' n b h zero l = b
at_each j j' y y' n b h (suc k) l = h k (omega arith)

-- place by place
earlier_or_same : (x x' y y' : List ℤ) → length x' ≡ length x → length y ≡ length x → length y' ≡ length x → ((k : ℕ) → k < length x → IsAtMost (at_place x k) (at_place y k) (at_place x' k) (at_place y' k))
    → IsEarlier x x' ⊎ ((x ≡ x') × ((k : ℕ) → k < length x → at_place y k ≤ℤ at_place y' k))
earlier_or_same [] [] y y' e f g h = inr (refl, λ k b. absurd (omega arith))
earlier_or_same [] (i' ∷ x') y y' e f g h = absurd (omega arith)
earlier_or_same (i ∷ x) [] y y' e f g h = absurd (omega arith)
earlier_or_same (i ∷ x) (i' ∷ x') [] y' e f g h = absurd (omega arith)
earlier_or_same (i ∷ x) (i' ∷ x') (j ∷ y) [] e f g h = absurd (omega arith)
earlier_or_same (i ∷ x) (i' ∷ x') (j ∷ y) (j' ∷ y') e f g h =
    elim (h zero (omega arith)) [
      | inl b ↦ inl (inl b)
      | inr m ↦ elim (earlier_or_same x x' y y' (omega arith) (omega arith) (omega arith) (λ k b. h (suc k) (omega arith))) [
        | inl b ↦ inl (inr (m.0, b))
        | inr n ↦ inr (cons_same i i' x x' m.0 n.0, at_each j j' y y' (length x) m.1 n.1)
      ]
    ]

pub in_order : (x x' y y' : List ℤ) → length x ≡ 7 → length x' ≡ 7 → length y ≡ 7 → length y' ≡ 7 → ((k : ℕ) → k < 7 → IsAtMost (at_place x k) (at_place y k) (at_place x' k) (at_place y' k))
    → IsNoLater (x ++ y) (x' ++ y')
in_order x x' y y' a b c d h =
    elim (earlier_or_same x x' y y' (omega arith) (omega arith) (omega arith) (λ k l. h k (omega arith))) [
      | inl e ↦ earlier_first x y x' y' e
      | inr s ↦ same_first x x' y y' s.0 (no_later y y' (λ k l. s.1 k (omega arith)))
    ]

-- ---- meetings, place by place

to_own : (p : Pairing) (l : Loop) (x y : List ℤ) → AreEqualAt p l (at_place x (place_of l)) (at_place y (place_of l)) → AreEqualAt p l (first_at l x) (second_at l y)
to_own p (Shared m) x y e = e
to_own p (First m) x y e = first_alone p m (at_place x m) (at_place y m) (pos 1) e
to_own p (Second m) x y e = second_alone p m (at_place x m) (pos 1) (at_place y m) e

from_own : (p : Pairing) (l : Loop) (x y : List ℤ) → AreEqualAt p l (first_at l x) (second_at l y) → AreEqualAt p l (at_place x (place_of l)) (at_place y (place_of l))
from_own p (Shared m) x y e = e
from_own p (First m) x y e = first_alone p m (at_place x m) (pos 1) (at_place y m) e
from_own p (Second m) x y e = second_alone p m (pos 1) (at_place x m) (at_place y m) e

in_place : (k : ℕ) (l : Loop) → IsLoopIn k l → place_of l ≡ k
in_place k (Shared m) e = e
in_place k (First m) e = e
in_place k (Second m) e = e

pub meeting_allowed : (r : RefPair) (d : Dirs) (x y : List ℤ) (k : ℕ) → IsRefPair r → IsVectorOf r d → IsMeeting r d x y → k < 7 → IsAllowedAt r d k (at_place x k) (at_place y k)
meeting_allowed r d x y k c v m b = record {
  first = m.within.first.within k b;
  second = m.within.second.within k b;
  related = related_in r d x y k v m.within;
  solves = λ l e n q h o.
      subst (λ (z : ℕ). AreEqualAt (get_or r.subs n q) l (at_place x z) (at_place y z)) (in_place k l e)
      (from_own (get_or r.subs n q) l x y
      (at_met (get_or r.subs n q) d l m.values x y r v (c.subscripts n q h) o m.within.first.places m.within.second.places (m.equal n q h o.known)));
}

-- constants of a pair without a loop are equal, where nothing refutes the vector
above_none : (c e : ℤ) (z : ℤ) → z ≡ (pos 0 -ℤ pos 0) +ℤ (c -ℤ e) → e <ℤ c → pos 0 <ℤ z
above_none c e z h b = omega (arith, ints)

below_none : (c e : ℤ) (z : ℤ) → z ≡ (pos 0 -ℤ pos 0) +ℤ (c -ℤ e) → c <ℤ e → z <ℤ pos 0
below_none c e z h b = omega (arith, ints)

same_constants : (r : RefPair) (d : Dirs) (i : ℕ) (p : Pairing) → IsSubscriptOf r p → slice_get r.subs i ≡ Some p → IsZiv p → (IsRefutedVector r d → ⊥) → p.from.constant ≡ p.to.constant
same_constants r d i p s e z n =
    let refuted : IsOneSided p d → p.from.constant ≡ p.to.constant =
    λ o. absurd (n (inr (inl (record { at = i; pairing = p; is_at = e; linear = z.known; refuted = inr o })))) in
    by_lt_z p.from.constant p.to.constant
    (λ b. refuted (inr (λ v x y h. below_none p.from.constant p.to.constant (difference p v x y) (ziv_difference p v x y z s.places) b)))
    (λ k. by_lt_z p.to.constant p.from.constant
    (λ b. refuted (inl (λ v x y h. above_none p.from.constant p.to.constant (difference p v x y) (ziv_difference p v x y z s.places) b)))
    (λ l. omega (arith, ints)))

pub places_meet : (r : RefPair) (d : Dirs) (x y : List ℤ) → IsRefPair r → IsVectorOf r d → IsExactClass r
    → ((i : ℕ) (p : Pairing) → slice_get r.subs i ≡ Some p → IsZiv p → p.from.constant ≡ p.to.constant) → length x ≡ 7 → length y ≡ 7
    → ((k : ℕ) → k < 7 → IsAllowedAt r d k (at_place x k) (at_place y k)) → IsMeeting r d x y
places_meet r d x y c v e n ex ey a = record {
  within = record {
    first = record { places = ex; within = λ k b. (a k b).first };
    second = record { places = ey; within = λ k b. (a k b).second };
    related = λ k b. let u = c.from_common in let w = c.from_depth in (a k (omega arith)).related;
  };
  values = λ s. pos 0;
  equal = λ k q h t.
      elim (e.subscripts k q h) [
        | inl z ↦ ziv_met (get_or r.subs k q) (λ s. pos 0) x y z (c.subscripts k q h).places (n k (get_or r.subs k q) (slice_get-get_or r.subs k q h) z)
        | inr o ↦ met_at (get_or r.subs k q) d o.0 (λ s. pos 0) x y r v (c.subscripts k q h) o.1 ex ey
            (to_own (get_or r.subs k q) o.0 x y ((a (place_of o.0) (within_seven (get_or r.subs k q) o.0 (c.subscripts k q h).pairing o.1)).solves o.0 (own_place o.0) k q h o.1))
      ];
}

pub least_of_places : (r : RefPair) (d : Dirs) (x y : List ℤ) → IsRefPair r → IsVectorOf r d → IsExactClass r → (IsRefutedVector r d → ⊥) → length x ≡ 7 → length y ≡ 7
    → ((k : ℕ) → k < 7 → IsLeastAllowed r d k (at_place x k) (at_place y k)) → IsLeastMeeting r d x y
least_of_places r d x y c v e n ex ey a = record {
  meeting = places_meet r d x y c v e (λ i p h z. same_constants r d i p (subscript_at r i p c h) h z n) ex ey (λ k b. (a k b).allowed);
  least = λ x' y' m. in_order x x' y y' ex m.within.first.places ey m.within.second.places (λ k b. (a k b).least (at_place x' k) (at_place y' k) (meeting_allowed r d x' y' k c v m b));
}
