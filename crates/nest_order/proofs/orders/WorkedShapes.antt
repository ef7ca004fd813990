-- Worked shapes.
use Rattle.std.proofs.Common.{◌≡◌, refl, sym, ap, ◌∙◌, inl, inr, ℕ, zero, suc, List, [], ◌∷◌}
use Rattle.nest_order.specs.orders.Emission.{Components, IsEmitted}
use Rattle.nest_order.specs.orders.Lists.{In}
use Rattle.nest_order.specs.orders.Nests.{Carried, Edge, Remains}
use Rattle.nest_order.specs.orders.Shapes.{Instance, Loop, Shape, Shapes, Single, instances, instances_in, no_shapes, shape}

abbrev at : ℕ → List ℕ → Instance
at s is = record { statement = s; iterations = is }

-- ---- a triangular nest: statement 1 in loop 1, statement 2 in loop 2 from 1 to the iteration of loop 1, statement 3 in
-- loop 3 after it
abbrev triangle : Shape
triangle = Loop 1 (shape (Single 1) (shape (Loop 2 (shape (Single 2) no_shapes)) (shape (Loop 3 (shape (Single 3) no_shapes)) no_shapes)))

abbrev last : List ℕ → ℕ
last [] = 0
last (i ∷ is) = i

abbrev trips : ℕ → List ℕ → ℕ
trips (suc zero) is = 2
trips (suc (suc zero)) is = last is
trips l is = 1

triangle_in_turn : instances trips triangle [] ≡ at 1 (1 ∷ []) ∷ at 2 (1 ∷ 1 ∷ []) ∷ at 3 (1 ∷ 1 ∷ []) ∷ at 1 (2 ∷ []) ∷ at 2 (2 ∷ 1 ∷ []) ∷ at 2 (2 ∷ 2 ∷ []) ∷ at 3 (2 ∷ 1 ∷ []) ∷ []
triangle_in_turn = refl

-- a loop that is never entered leaves out what stands in it
abbrev no_trips : ℕ → List ℕ → ℕ
no_trips l is = 0

never_entered : instances no_trips triangle [] ≡ []
never_entered = refl

-- ---- two statements in one loop, of which the first depends on the second, an iteration before: emitted, the second
-- one comes first, in a loop of its own
abbrev one_loop : ℕ → List ℕ
one_loop s = 1 ∷ []

abbrev backward : List Edge
backward = record { from = 2; to = 1; level = Carried 0 } ∷ []

abbrev second_first : Shapes
second_first = shape (Loop 1 (shape (Single 2) no_shapes)) (shape (Loop 1 (shape (Single 1) no_shapes)) no_shapes)

alone : (d s : ℕ) → Components backward d (s ∷ []) ((s ∷ []) ∷ [])
alone d s = record {
  same = λ r. ((λ i. i), (λ i. i));
  once = (tt, tt);
  reachable = ((λ q r i j. ([], one q r i j)), tt);
  filled = ((λ e. cc), tt);
  forward = (tt, tt);
}
  where
    one : (q r : ℕ) → In q (s ∷ []) → In r (s ∷ []) → q ≡ r
    one q r (inl e) (inl f) = e ∙ sym f
    one q r (inl e) (inr j) = absurd j
    one q r (inr i) j = absurd i

in_two : Components backward 0 (1 ∷ 2 ∷ []) ((2 ∷ []) ∷ (1 ∷ []) ∷ [])
in_two = record {
  same = λ r. (turned r, turned_back r);
  once = (((λ e. cc), tt), (tt, tt));
  reachable = ((λ q r i j. ([], one 2 q r i j)), ((λ q r i j. ([], one 1 q r i j)), tt));
  filled = ((λ e. cc), ((λ e. cc), tt));
  forward = (((λ e i from to. none e i from), tt), (tt, tt));
}
  where
    turned : (r : ℕ) → In r (1 ∷ 2 ∷ []) → In r (2 ∷ 1 ∷ [])
    turned r (inl e) = inr (inl e)
    turned r (inr (inl e)) = inl e
    turned r (inr (inr i)) = absurd i

    turned_back : (r : ℕ) → In r (2 ∷ 1 ∷ []) → In r (1 ∷ 2 ∷ [])
    turned_back r (inl e) = inr (inl e)
    turned_back r (inr (inl e)) = inl e
    turned_back r (inr (inr i)) = absurd i

    one : (s q r : ℕ) → In q (s ∷ []) → In r (s ∷ []) → q ≡ r
    one s q r (inl e) (inl f) = e ∙ sym f
    one s q r (inl e) (inr j) = absurd j
    one s q r (inr i) j = absurd i

    none : (e : Edge) → In e backward → In e.from (1 ∷ []) → ¬ (Remains 0 e.level)
    none e (inl f) (inl g) h = absurd (let k : 1 ≡ 2 = sym g ∙ ap (λ (z : Edge). z.from) f in cc)
    none e (inl f) (inr j) h = absurd j
    none e (inr i) j h = absurd i

second_comes_first : IsEmitted one_loop backward 0 (1 ∷ 2 ∷ []) second_first
second_comes_first = (
  ((2 ∷ []) ∷ (1 ∷ []) ∷ []),
  in_two,
  (
    ((2, inl refl, ([], refl)), ((2 ∷ []) ∷ [], alone 1 2, ((refl, refl), tt))),
    (((1, inl refl, ([], refl)), ((1 ∷ []) ∷ [], alone 1 1, ((refl, refl), tt))), tt),
  ),
)

abbrev two_turns : ℕ → List ℕ → ℕ
two_turns l is = 2

second_first_in_turn : instances_in two_turns second_first [] ≡ at 2 (1 ∷ []) ∷ at 2 (2 ∷ []) ∷ at 1 (1 ∷ []) ∷ at 1 (2 ∷ []) ∷ []
second_first_in_turn = refl
