-- What the tables of a nest's run hold of its statements and loops.
use Rattle.std.proofs.Common.{◌≡◌, ◌⊎◌, refl, sym, ap, ap₂, ◌∙◌, subst, inl, inr, ℕ, suc, ◌+◌, ◌<◌, ◌==◌}
use Rattle.std.proofs.Common.{true, false, cond, List, [], ◌∷◌, ◌++◌, map, length, Some, arith}
use Rattle.std.specs.Prelude.{slice_get}
use Rattle.std.proofs.lemmas.Option.{slice_get_within}
use Rattle.components.specs.Lists as components
use Rattle.emission.proofs.EmissionPieces.Ordered.{statements_are}
use Rattle.dependence_graph.specs.nest_graph.Ready.{IsReady}
use Rattle.dependence_graph.specs.nest_graph.References as graph
use Rattle.dependence_graph.specs.nest_graph.Tested as tested
use Rattle.nest_order.specs.orders.Lists.{In}
use Rattle.nest_order.specs.orders.Nests.{common}
use Rattle.nest_order.specs.orders.Shapes.{common_of, statements}
use Rattle.nest_order.proofs.orders.Lists.{In-append, In-left, In-right}
use Rattle.nest_order.specs.runs.Stores.{IsNestText}
use Rattle.nest_order.specs.runs.Touched.{references_of}
use Rattle.nest_order.specs.shapes.Shapes.{ArePlain, IsPlain, guarded_of, loop_numbered, loops_round, numbers_of, shape_of}
use Rattle.nest_order.specs.shapes.Shapes.{variable_of_loop}
use Rattle.nest.specs.Bodies.{Standing, loops_in_parts, loops_of, nest_loops, nest_statements, statements_in}
use Rattle.nest.specs.Bodies.{statements_in_parts}
use Rattle.nest.specs.Plain.{Loop, Nest, Part, Run, Turns, Choice, Label, Jump, Parts, no_parts, part}
use Rattle.emission.specs.graph_orders.Nests.{run_nest}
use Rattle.emission.proofs.GraphOrders.Lists.{in_range, in_there, nth_same, one_there, range_below}
use Rattle.emission.proofs.GraphOrders.References.{references_same}

-- ---- loops by their numbers

same_number : (k : ℕ) → (k == k) ≡ true
same_number k = grind arith

other_number : (k m : ℕ) → ¬ (k ≡ m) → (k == m) ≡ false
other_number k m h = grind arith

apart : (k : ℕ) (ls : List Loop) (l : Loop) → components.Each (λ m. ¬ (k ≡ m)) (numbers_of ls) → In l ls → ¬ (k ≡ l.number)
apart k [] l h i = absurd i
apart k (m ∷ ls) l h (inl e) = subst (λ (z : Loop). ¬ (k ≡ z.number)) (sym e) h.0
apart k (m ∷ ls) l h (inr i) = apart k ls l h.1 i

numbered : (ls : List Loop) (l : Loop) → components.Distinct (numbers_of ls) → In l ls → loop_numbered ls l.number ≡ Some l
numbered [] l d i = absurd i
numbered (m ∷ ls) l d (inl e) =
    subst (λ (z : Loop). cond (m.number == z.number) (Some m) (loop_numbered ls z.number) ≡ Some z) (sym e)
    (ap (λ b. cond b (Some m) (loop_numbered ls m.number)) (same_number m.number))
numbered (m ∷ ls) l d (inr i) =
    ap (λ b. cond b (Some m) (loop_numbered ls l.number)) (other_number m.number l.number (apart m.number ls l d.0 i))
    ∙ numbered ls l d.1 i

-- ---- the loops round a statement are those of its nest

mutual
  loop_within : (p : Part) (ls : List Loop) → IsPlain p → (x : Standing) → In x (statements_in ls p) → (l : Loop)
      → In l x.loops → In l ls ⊎ In l (loops_of p)
  loop_within (Run s) ls plain x (inl e) l j = inl (subst (λ (z : Standing). In l z.loops) e j)
  loop_within (Run s) ls plain x (inr i) l j = absurd i
  loop_within (Turns m ps) ls plain x i l j = by (loop_within_parts ps (ls ++ m ∷ []) plain.1 x i l j)
    where
      in_front : In l ls ⊎ In l (m ∷ []) → In l ls ⊎ In l (m ∷ loops_in_parts ps)
      in_front (inl k) = inl k
      in_front (inr (inl e)) = inr (inl e)
      in_front (inr (inr k)) = absurd k

      by : In l (ls ++ m ∷ []) ⊎ In l (loops_in_parts ps) → In l ls ⊎ In l (m ∷ loops_in_parts ps)
      by (inl k) = in_front (In-append l ls (m ∷ []) k)
      by (inr k) = inr (inr k)
  loop_within (Choice bs ps) ls plain x i l j = absurd plain
  loop_within (Label m) ls plain x i l j = absurd plain
  loop_within (Jump m) ls plain x i l j = absurd plain

  loop_within_parts : (ps : Parts) (ls : List Loop) → ArePlain ps → (x : Standing) → In x (statements_in_parts ls ps)
      → (l : Loop) → In l x.loops → In l ls ⊎ In l (loops_in_parts ps)
  loop_within_parts no_parts ls plain x i l j = absurd i
  loop_within_parts (part p ps) ls plain x i l j =
      by (In-append x (statements_in ls p) (statements_in_parts ls ps) i)
      (λ k. loop_within p ls plain.0 x k l j) (λ k. loop_within_parts ps ls plain.1 x k l j)
    where
      here : In l ls ⊎ In l (loops_of p) → In l ls ⊎ In l (loops_of p ++ loops_in_parts ps)
      here (inl k) = inl k
      here (inr k) = inr (In-left l (loops_of p) (loops_in_parts ps) k)

      later : In l ls ⊎ In l (loops_in_parts ps) → In l ls ⊎ In l (loops_of p ++ loops_in_parts ps)
      later (inl k) = inl k
      later (inr k) = inr (In-right l (loops_of p) (loops_in_parts ps) k)

      by : In x (statements_in ls p) ⊎ In x (statements_in_parts ls ps)
          → (In x (statements_in ls p) → In l ls ⊎ In l (loops_of p))
          → (In x (statements_in_parts ls ps) → In l ls ⊎ In l (loops_in_parts ps))
          → In l ls ⊎ In l (loops_of p ++ loops_in_parts ps)
      by (inl k) f g = here (f k)
      by (inr k) f g = later (g k)

-- ---- the tables

same_variables : (table : ℕ → List ℕ) (ls : List Loop) → ((l : Loop) → In l ls → table l.number ≡ l.variable)
    → map table (numbers_of ls) ≡ map (λ (l : Loop). l.variable) ls
same_variables table [] h = refl
same_variables table (l ∷ ls) h = ap₂ (λ x xs. x ∷ xs) (h l (inl refl)) (same_variables table ls (λ m i. h m (inr i)))

same_common : (ls ms : List Loop) → common_of (numbers_of ls) (numbers_of ms) ≡ tested.common_of ls ms
same_common [] ms = refl
same_common (l ∷ ls) [] = refl
same_common (l ∷ ls) (m ∷ ms) = ap (λ c. cond (l.number == m.number) (suc c) 0) (same_common ls ms)

module _ (n : Nest) (plain : IsPlain n.body) where
  pub standing_there : (k : ℕ) → In k (statements (shape_of 0 n.body))
      → (x : Standing) × (slice_get (nest_statements n) k ≡ Some x)
  standing_there k i =
      let h : k < 0 + length (nest_statements n) =
      range_below 0 (length (nest_statements n)) k (subst (In k) (sym (statements_are n plain)) i) in
      one_there (nest_statements n) k (omega arith)

  pub number_there : (k : ℕ) (x : Standing) → slice_get (nest_statements n) k ≡ Some x
      → In k (statements (shape_of 0 n.body))
  number_there k x e =
      let h : k < length (nest_statements n) = slice_get_within (nest_statements n) k x e in
      subst (In k) (statements_are n plain) (in_range 0 (length (nest_statements n)) k (omega arith) (omega arith))

  pub loop_known : IsReady n → (k : ℕ) (x : Standing) → slice_get (nest_statements n) k ≡ Some x → (l : Loop) → In l x.loops
      → loop_numbered (nest_loops n) l.number ≡ Some l
  loop_known ready k x e l i =
      numbered (nest_loops n) l ready.loops (by (loop_within n.body [] plain x (in_there (nest_statements n) k x e) l i))
    where
      by : In l [] ⊎ In l (nest_loops n) → In l (nest_loops n)
      by (inl j) = absurd j
      by (inr j) = j

pub loops_there : (n : Nest) (k : ℕ) (x : Standing) → slice_get (nest_statements n) k ≡ Some x
    → (run_nest n).loops_of k ≡ numbers_of x.loops
loops_there n k x e = ap loops_round (nth_same (nest_statements n) k ∙ e)

pub variables_there : (n : Nest) → IsPlain n.body → IsReady n → (k : ℕ) (x : Standing)
    → slice_get (nest_statements n) k ≡ Some x
    → map (run_nest n).variable_at ((run_nest n).loops_of k) ≡ graph.variables_round x
variables_there n plain ready k x e =
    ap (map (run_nest n).variable_at) (loops_there n k x e)
    ∙ same_variables (run_nest n).variable_at x.loops (λ l i. ap variable_of_loop (loop_known n plain ready k x e l i))

pub references_there : (n : Nest) → IsPlain n.body → IsNestText (run_nest n) → IsReady n → (k : ℕ) (x : Standing)
    → slice_get (nest_statements n) k ≡ Some x → references_of (run_nest n) k ≡ graph.references_of x
references_there n plain text ready k x e =
    references_same (run_nest n) text k (number_there n plain k x e) x (variables_there n plain ready k x e)
    (ap guarded_of (nth_same (nest_statements n) k ∙ e))

pub common_there : (n : Nest) (k m : ℕ) (x y : Standing) → slice_get (nest_statements n) k ≡ Some x
    → slice_get (nest_statements n) m ≡ Some y → common (run_nest n).loops_of k m ≡ tested.common_of x.loops y.loops
common_there n k m x y e f = ap₂ common_of (loops_there n k x e) (loops_there n m y f) ∙ same_common x.loops y.loops
