-- Loops of a shape, and the loops round them.
use Rattle.std.proofs.Common.{◌≡◌, sym, ◌∙◌, inl, inr, ℕ, List, [], ◌∷◌}
use Rattle.nest_order.specs.orders.Lists.{In, Distinct}
use Rattle.nest_order.specs.orders.Shapes.{Shape, Single, Loop, Shapes, no_shapes, shape, loops_of_shape, loops_of_shapes}
use Rattle.nest_order.proofs.orders.Lists.{Each-In, In-left, In-right}
use Rattle.nest_order.proofs.orders.Once.{Pairwise-left, Pairwise-right}
use Rattle.nest_order.specs.runs.Nests.{LoopStands, LoopStandsIn}

mutual
  pub loop_in : (t : Shape) (round : List ℕ) (l : ℕ) → LoopStands t round l → In l (loops_of_shape t)
  loop_in (Single s) round l h = absurd h
  loop_in (Loop m ts) [] l h = inl (sym h)
  loop_in (Loop m ts) (k ∷ round) l h = inr (loop_in_all ts round l h.1)

  loop_in_all : (ts : Shapes) (round : List ℕ) (l : ℕ) → LoopStandsIn ts round l → In l (loops_of_shapes ts)
  loop_in_all no_shapes round l h = absurd h
  loop_in_all (shape t ts) round l (inl h) = In-left l (loops_of_shape t) (loops_of_shapes ts) (loop_in t round l h)
  loop_in_all (shape t ts) round l (inr h) = In-right l (loops_of_shape t) (loops_of_shapes ts) (loop_in_all ts round l h)

mutual
  pub outer_loop : (t : Shape) (round : List ℕ) (l m : ℕ) → Distinct (loops_of_shape t) → LoopStands t round l → In m round → In m (loops_of_shape t) × (¬ (m ≡ l))
  outer_loop (Single s) round l m d h i = absurd h
  outer_loop (Loop k ts) [] l m d h i = absurd i
  outer_loop (Loop k ts) (j ∷ round) l m d h (inl e) =
      (inl (e ∙ sym h.0), λ f. Each-In (λ y. ¬ (k ≡ y)) (loops_of_shapes ts) d.0 l (loop_in_all ts round l h.1) (h.0 ∙ (sym e ∙ f)))
  outer_loop (Loop k ts) (j ∷ round) l m d h (inr i) = let r = outer_loop_in ts round l m d.1 h.1 i in (inr r.0, r.1)

  outer_loop_in : (ts : Shapes) (round : List ℕ) (l m : ℕ) → Distinct (loops_of_shapes ts) → LoopStandsIn ts round l → In m round → In m (loops_of_shapes ts) × (¬ (m ≡ l))
  outer_loop_in no_shapes round l m d h i = absurd h
  outer_loop_in (shape t ts) round l m d (inl h) i =
      let r = outer_loop t round l m (Pairwise-left (λ x y. ¬ (x ≡ y)) (loops_of_shape t) (loops_of_shapes ts) d) h i in
      (In-left m (loops_of_shape t) (loops_of_shapes ts) r.0, r.1)
  outer_loop_in (shape t ts) round l m d (inr h) i =
      let r = outer_loop_in ts round l m (Pairwise-right (λ x y. ¬ (x ≡ y)) (loops_of_shape t) (loops_of_shapes ts) d) h i in
      (In-right m (loops_of_shape t) (loops_of_shapes ts) r.0, r.1)
