-- A meeting of a box of the exact class, moved into a vector of the box: loop by loop.
use Rattle.std.proofs.Common.{◌≡◌, ℕ, ◌<◌, ◌≤◌, ◌⊎◌, List, refl, subst, sym, arith, ◌∙◌, inl, inr}
use Rattle.std.specs.Prelude.{ℤ, pos, IsTrue, slice_get, Some, ◌-ℤ◌, ◌+ℤ◌}
use Rattle.std.proofs.lemmas.Bool.{cases_lt}
use Rattle.std.proofs.lemmas.Int.{ints}
use Rattle.std.proofs.lemmas.Option.{get_or_from_slice_get, slice_get_within}
use Rattle.subscripts.specs.Classes.{IsZiv, at_place}
use Rattle.subscripts.specs.Forms.{difference}
use Rattle.subscripts.specs.Iterations.{IsRelated, WithinSpan}
use Rattle.subscripts.specs.declared.affine.Dir.{Dir}
use Rattle.subscripts.specs.declared.affine.Dirs.{Dirs}
use Rattle.subscripts.specs.declared.affine.Span.{Span}
use Rattle.subscripts.specs.declared.pairing.Pairing.{Pairing}
use Rattle.direction_vectors.proofs.vector_tests.LeastMeetings.{meeting_allowed, places_meet, shared_solves}
use Rattle.direction_vectors.proofs.vector_tests.Meetings.{subscript_at}
use Rattle.direction_vectors.proofs.vector_tests.Standing.{first_turn, second_turn, seven, seven_at, turns_in_places, ziv_difference}
use Rattle.direction_vectors.specs.vector_tests.Pairs.{IsMeeting}
use Rattle.direction_vectors.specs.vector_tests.Places.{HasSolution, IsAllowedAt}
use Rattle.direction_vectors.specs.vector_tests.Refs.{IsRefPair, IsVectorOf}
use Rattle.direction_vectors.specs.vector_tests.Ways.{HasNoTrip, IsExactClass}
use Rattle.direction_vectors.specs.declared.vector_tests.refs.RefPair.{RefPair}
use Rattle.direction_vectors.specs.Boxes.{InStarred, IsFree, IsUnnamed}
use Rattle.direction_vectors.specs.Candidates.{IsCovered, dir_at}

same_constants : (c e z : ℤ) → z ≡ (pos 0 -ℤ pos 0) +ℤ (c -ℤ e) → z ≡ pos 0 → c ≡ e
same_constants c e z h k = omega (arith, ints)

module _ (r : RefPair) (d u : Dirs) (x y : List ℤ) (c : IsRefPair r) (vd : IsVectorOf r d) (ex : IsExactClass r) (k : IsCovered r d u) (trips : HasNoTrip r u → ⊥)
    (free : InStarred r d (IsFree r)) (met : IsMeeting r d x y) where
  -- iterations that the vector allows in a place
  record IsThere (m : ℕ) : Type 0 where
    i : ℤ
    j : ℤ
    allowed : IsAllowedAt r u m i j

  solution_there : (m : ℕ) → m < r.common → HasSolution r m (dir_at u m) → IsThere m
  solution_there m b s = record {
    i = s.i;
    j = s.j;
    allowed = record {
      first = s.first;
      second = subst (λ (z : Span). WithinSpan z s.j) (c.common_spans m b) s.second;
      related = s.related;
      solves = λ l e. shared_solves r m s.i s.j l c b s.solves e;
    };
  }

  -- no subscript pair has a coefficient in the place: any turn of the loop does
  unnamed_solution : (m : ℕ) → m < r.common → m < 7 → IsUnnamed r m → HasSolution r m (dir_at u m)
  unnamed_solution m b s none =
      let t = turns_in_places r u c k.vector trips in
      record {
        i = first_turn (dir_at u m);
        j = second_turn (dir_at u m);
        first = t.first m s;
        second = subst (λ (z : Span). WithinSpan z (second_turn (dir_at u m))) (sym (c.common_spans m b)) (t.second m s);
        related = t.related m s;
        solves = λ n q h o. let z = none n q h o.known in absurd (o.matters.some z.first z.second);
      }

  same_there : (m : ℕ) → m < 7 → dir_at d m ≡ dir_at u m → IsThere m
  same_there m s e =
      let a = meeting_allowed r d x y m c vd met s in
      record {
        i = at_place x m;
        j = at_place y m;
        allowed = record {
          first = a.first;
          second = a.second;
          related = subst (λ (z : Dir). IsRelated z (at_place x m) (at_place y m)) e a.related;
          solves = a.solves;
        };
      }

  there : (m : ℕ) → m < 7 → IsThere m
  there m s =
      elim (cases_lt m r.common) [
        | inl b ↦ elim (k.covers.at m b) [
          | inl star ↦ elim (free m b star) [
            | inl none ↦ solution_there m b (unnamed_solution m b s none)
            | inr each ↦ solution_there m b (each.1 (dir_at u m) (k.plain m b))
          ]
          | inr same ↦ same_there m s same
        ]
        | inr b ↦ same_there m s (vd.past_len m b ∙ sym (k.vector.past_len m b))
      ]

  pick : (m : ℕ) → (m < 7) ⊎ (7 ≤ m) → ℤ × ℤ
  pick m (inl s) = ((there m s).i, (there m s).j)
  pick m (inr s) = (pos 1, pos 1)

  abbrev first_in : ℕ → ℤ
  first_in m = (pick m (cases_lt m 7)).0

  abbrev second_in : ℕ → ℤ
  second_in m = (pick m (cases_lt m 7)).1

  picked_allowed : (m : ℕ) (o : (m < 7) ⊎ (7 ≤ m)) → m < 7 → IsAllowedAt r u m (pick m o).0 (pick m o).1
  unfolding pick
  picked_allowed m (inl s) h = (there m s).allowed
  picked_allowed m (inr s) h = absurd (omega arith)

  pub meets_in : (i : List ℤ) × ((j : List ℤ) × IsMeeting r u i j)
  meets_in = (
    seven first_in,
    (
      seven second_in,
      places_meet r u (seven first_in) (seven second_in) c k.vector ex constants refl refl
          (λ m s.
          subst (λ (z : ℤ). IsAllowedAt r u m z (at_place (seven second_in) m)) (sym (seven_at first_in m s))
          (subst (λ (z : ℤ). IsAllowedAt r u m (first_in m) z) (sym (seven_at second_in m s)) (picked_allowed m (cases_lt m 7) s))),
    ),
  )
    where
      constants : (n : ℕ) (p : Pairing) → slice_get r.subs n ≡ Some p → IsZiv p → p.from.constant ≡ p.to.constant
      constants n p e z =
          let same = get_or_from_slice_get r.subs n p p e in
          let equal = subst (λ (q : Pairing). IsTrue q.known → difference q met.values x y ≡ pos 0) same (met.equal n p (slice_get_within r.subs n p e)) in
          same_constants p.from.constant p.to.constant (difference p met.values x y)
          (ziv_difference p met.values x y z (subscript_at r n p c e).places) (equal z.known)
