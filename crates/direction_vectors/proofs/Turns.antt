-- Iterations of a box, moved into a vector in it: they change in places that no subscript pair names.
use Rattle.std.proofs.Common.{◌≡◌, ℕ, ◌<◌, ◌⊎◌, List, [], ◌∷◌, length, get_or, zero, suc, refl, ap, subst, sym, arith, ◌∙◌, inl, inr}
use Rattle.std.specs.Prelude.{ℤ, pos, ◌+ℤ◌, ◌-ℤ◌, ◌*ℤ◌}
use Rattle.std.proofs.Math.IntN.{zero-*ℤ}
use Rattle.std.proofs.lemmas.Bool.{cases_lt}
use Rattle.dependence_tests.proofs.loop_lines.Indexed.{related_at, within_at}
use Rattle.dependence_tests.specs.loop_lines.OneLoop.{HasNoneAt}
use Rattle.subscripts.specs.Classes.{at_place}
use Rattle.subscripts.specs.Forms.{IsInRegion, WithinSpans, difference, over_loops, over_symbols, value_at}
use Rattle.subscripts.specs.Iterations.{IsRelated, WithinSpan, once}
use Rattle.subscripts.specs.declared.affine.Affine.{Affine}
use Rattle.subscripts.specs.declared.affine.Dir.{Dir}
use Rattle.subscripts.specs.declared.affine.Dir.TheVariants.{Lt, Eq, Gt, Any}
use Rattle.subscripts.specs.declared.affine.Dirs.{Dirs}
use Rattle.subscripts.specs.declared.affine.Span.{Span}
use Rattle.subscripts.specs.declared.pairing.Pairing.{Pairing}
use Rattle.direction_vectors.proofs.vector_tests.Meetings.{any_related, related_in}
use Rattle.direction_vectors.proofs.vector_tests.Standing.{AreInPlaces, first_turn, from_span_is, second_turn, seven, seven_at, to_span_is, turns_in_places, turns_related}
use Rattle.direction_vectors.specs.vector_tests.Pairs.{IsInVector}
use Rattle.direction_vectors.specs.vector_tests.Refs.{IsRefPair, IsSubscriptOf, IsVectorOf}
use Rattle.direction_vectors.specs.vector_tests.Ways.{HasNoTrip}
use Rattle.direction_vectors.specs.declared.vector_tests.refs.RefPair.{RefPair}
use Rattle.direction_vectors.specs.Candidates.{IsCovered, IsPlain, dir_at}
use Rattle.direction_vectors.proofs.Within.{allows_at, inside}

-- ---- one place

-- the vector's own turn where the box has `*` and the vector has none
abbrev pub put : Dir → Dir → ℤ → ℤ → ℤ
put Any Any i j = j
put Any Lt i j = i
put Any Eq i j = i
put Any Gt i j = i
put Lt e i j = j
put Eq e i j = j
put Gt e i j = j

pub put_both : (P : ℤ → ℤ → Type 0) (d e : Dir) (i i' j j' : ℤ) → (d ≡ Any → IsPlain e → P i i') → ((d ≡ Any → ⊥) ⊎ (e ≡ Any) → P j j') → P (put d e i j) (put d e i' j')
put_both P Any Any i i' j j' h g = g (inr refl)
put_both P Any Lt i i' j j' h g = h refl (λ t. cc)
put_both P Any Eq i i' j j' h g = h refl (λ t. cc)
put_both P Any Gt i i' j j' h g = h refl (λ t. cc)
put_both P Lt e i i' j j' h g = g (inl (λ t. cc))
put_both P Eq e i i' j j' h g = g (inl (λ t. cc))
put_both P Gt e i i' j j' h g = g (inl (λ t. cc))

abbrev pub moved_first : Dirs → Dirs → List ℤ → ℕ → ℤ
moved_first d u x k = put (dir_at d k) (dir_at u k) (first_turn (dir_at u k)) (at_place x k)

abbrev pub moved_second : Dirs → Dirs → List ℤ → ℕ → ℤ
moved_second d u y k = put (dir_at d k) (dir_at u k) (second_turn (dir_at u k)) (at_place y k)

module _ (r : RefPair) (d u : Dirs) (x y : List ℤ) (c : IsRefPair r) (v : IsVectorOf r d) (k : IsCovered r d u) (t : HasNoTrip r u → ⊥) (w : IsInVector r d x y) where
  turns : AreInPlaces r u (λ m. first_turn (get_or u.at m Any)) (λ m. second_turn (get_or u.at m Any))
  turns = turns_in_places r u c k.vector t

  related_still : (m : ℕ) → (dir_at d m ≡ Any → ⊥) ⊎ (dir_at u m ≡ Any) → IsRelated (dir_at u m) (at_place x m) (at_place y m)
  related_still m o =
      elim o [
        | inl n ↦ elim (allows_at r d u m (inside r d u k)) [
          | inl s ↦ absurd (n s)
          | inr s ↦ subst (λ (z : Dir). IsRelated z (at_place x m) (at_place y m)) s (related_in r d x y m v w)
        ]
        | inr s ↦ any_related (dir_at u m) (at_place x m) (at_place y m) s
      ]

  pub moved : AreInPlaces r u (moved_first d u x) (moved_second d u y)
  moved = record {
    first = λ m b. put_both (λ i j. WithinSpan (get_or r.from_spans m once) i) (dir_at d m) (dir_at u m) (first_turn (dir_at u m)) (pos 0) (at_place x m) (pos 0) (λ s n. turns.first m b) (λ o. w.first.within m b);
    second = λ m b. put_both (λ i j. WithinSpan (get_or r.to_spans m once) i) (dir_at d m) (dir_at u m) (second_turn (dir_at u m)) (pos 0) (at_place y m) (pos 0) (λ s n. turns.second m b) (λ o. w.second.within m b);
    related = λ m b. put_both (λ i j. IsRelated (dir_at u m) i j) (dir_at d m) (dir_at u m) (first_turn (dir_at u m)) (second_turn (dir_at u m)) (at_place x m) (at_place y m) (λ s n. turns_related (dir_at u m)) (related_still m);
  }

-- ---- what a subscript is worth

over_same : (cs xs ys : List ℤ) → length xs ≡ length ys → ((k : ℕ) → k < length xs → (at_place cs k ≡ pos 0) ⊎ (at_place xs k ≡ at_place ys k)) → over_loops cs xs ≡ over_loops cs ys
over_same [] xs ys n h = refl
over_same (a ∷ cs) [] [] n h = refl
over_same (a ∷ cs) [] (j ∷ ys) n h = absurd (omega arith)
over_same (a ∷ cs) (i ∷ xs) [] n h = absurd (omega arith)
over_same (a ∷ cs) (i ∷ xs) (j ∷ ys) n h =
    let here : a *ℤ i ≡ a *ℤ j =
    elim (h zero (omega arith)) [
      | inl e ↦ ap (λ (z : ℤ). z *ℤ i) e ∙ zero-*ℤ i ∙ sym (zero-*ℤ j) ∙ sym (ap (λ (z : ℤ). z *ℤ j) e)
      | inr e ↦ ap (λ (z : ℤ). a *ℤ z) e
    ] in
    ap (λ (z : ℤ). z +ℤ over_loops cs xs) here ∙ ap (λ (z : ℤ). a *ℤ j +ℤ z) (over_same cs xs ys (omega arith) (λ k b. h (suc k) (omega arith)))

value_same : (a : Affine) (v : ℕ → ℤ) (x y : List ℤ) → over_loops a.loops x ≡ over_loops a.loops y → value_at a v x ≡ value_at a v y
value_same a v x y e = ap (λ (z : ℤ). z +ℤ (over_symbols a.syms v +ℤ a.constant)) e

difference_same : (p : Pairing) (v : ℕ → ℤ) (x y m n : List ℤ) → over_loops p.from.loops x ≡ over_loops p.from.loops m → over_loops p.to.loops y ≡ over_loops p.to.loops n → difference p v x y ≡ difference p v m n
difference_same p v x y m n e f =
    ap (λ (z : ℤ). z -ℤ value_at p.to v y) (value_same p.from v x m e) ∙ ap (λ (z : ℤ). value_at p.from v m -ℤ z) (value_same p.to v y n f)

-- the pair has no coefficient in a place with `*`
abbrev pub HasNoneStarred : RefPair → Dirs → Pairing → Type 0
HasNoneStarred r d p = (m : ℕ) → m < r.common → dir_at d m ≡ Any → HasNoneAt p m

-- a plain direction is that of a common loop
plain_common : (r : RefPair) (u : Dirs) (m : ℕ) → IsVectorOf r u → IsPlain (dir_at u m) → m < r.common
plain_common r u m v n = elim (cases_lt m r.common) [ inl b ↦ b | inr b ↦ absurd (n (v.past_len m b)) ]

module _ (r : RefPair) (d u : Dirs) (p : Pairing) (k : IsCovered r d u) (n : HasNoneStarred r d p) where
  first_same : (x : List ℤ) → length x ≡ 7 → over_loops p.from.loops x ≡ over_loops p.from.loops (seven (moved_first d u x))
  first_same x l =
      over_same p.from.loops x (seven (moved_first d u x)) l
      (λ m b.
      let s : m < 7 = omega arith in
      subst (λ (z : ℤ). (at_place p.from.loops m ≡ pos 0) ⊎ (at_place x m ≡ z)) (sym (seven_at (moved_first d u x) m s))
      (put_both (λ i j. (at_place p.from.loops m ≡ pos 0) ⊎ (at_place x m ≡ i)) (dir_at d m) (dir_at u m) (first_turn (dir_at u m)) (pos 0) (at_place x m) (pos 0)
      (λ e q. inl (n m (plain_common r u m k.vector q) e).first) (λ o. inr refl)))

  second_same : (y : List ℤ) → length y ≡ 7 → over_loops p.to.loops y ≡ over_loops p.to.loops (seven (moved_second d u y))
  second_same y l =
      over_same p.to.loops y (seven (moved_second d u y)) l
      (λ m b.
      let s : m < 7 = omega arith in
      subst (λ (z : ℤ). (at_place p.to.loops m ≡ pos 0) ⊎ (at_place y m ≡ z)) (sym (seven_at (moved_second d u y) m s))
      (put_both (λ i j. (at_place p.to.loops m ≡ pos 0) ⊎ (at_place y m ≡ i)) (dir_at d m) (dir_at u m) (second_turn (dir_at u m)) (pos 0) (at_place y m) (pos 0)
      (λ e q. inl (n m (plain_common r u m k.vector q) e).second) (λ o. inr refl)))

  pub moved_difference : (v : ℕ → ℤ) (x y : List ℤ) → length x ≡ 7 → length y ≡ 7 → difference p v x y ≡ difference p v (seven (moved_first d u x)) (seven (moved_second d u y))
  moved_difference v x y e f =
      difference_same p v x y (seven (moved_first d u x)) (seven (moved_second d u y)) (first_same x e) (second_same y f)

-- ---- a region of a subscript pair is in the vector

within_length : (ss : List Span) (x : List ℤ) → WithinSpans ss x → length x ≡ length ss
within_length [] [] h = refl
within_length [] (i ∷ x) h = absurd h
within_length (s ∷ ss) [] h = absurd h
within_length (s ∷ ss) (i ∷ x) h = ap suc (within_length ss x h.1)

pub in_vector_of : (r : RefPair) (d : Dirs) (p : Pairing) (x y : List ℤ) → IsRefPair r → IsVectorOf r d → IsSubscriptOf r p → IsInRegion p d x y → IsInVector r d x y
in_vector_of r d p x y c v s h =
    let lx = within_length p.from_spans x h.from_within ∙ s.places.from_spans in
    let ly = within_length p.to_spans y h.to_within ∙ s.places.to_spans in
    let common = c.from_common in
    let depth = c.from_depth in
    let seven_dirs = v.places in
    record {
      first = record {
        places = lx;
        within = λ k b. subst (λ (z : Span). WithinSpan z (at_place x k)) (from_span_is r p k s) (within_at p.from_spans x k h.from_within (omega (arith, s.places.from_spans)));
      };
      second = record {
        places = ly;
        within = λ k b. subst (λ (z : Span). WithinSpan z (at_place y k)) (to_span_is r p k s) (within_at p.to_spans y k h.to_within (omega (arith, s.places.to_spans)));
      };
      related = λ k b. related_at d.at x y k h.related (omega arith) (omega arith) (omega arith);
    }
