-- What is emitted for a nest is an order that keeps the edges.
use Rattle.std.proofs.Common.{◌≡◌, ℕ, zero, suc, ◌+◌, ◌<◌, ◌≤◌, ◌==◌, cond, List, [], ◌∷◌, ◌++◌, length, get_or, map, Option, None, refl, sym, ap, subst, ◌∙◌, arith}
use mathlib.Core.Path.{ap₂, fun_ext}
use Rattle.std.specs.Prelude.{All}
use Rattle.std.specs.List.{range_with_len}
use Rattle.tree.specs.Plain.{Expression}
use Rattle.dependence_graph.specs.declared.graphs.Edge.{Edge as Edge'}
use Rattle.nest_order.specs.orders.Lists.{Each, Pairwise, Distinct}
use Rattle.nest_order.specs.orders.Nests.{Edge, IsEdge, IsNest}
use Rattle.nest_order.specs.orders.Shapes as shapes
use Rattle.nest_order.proofs.orders.Theorems as theorems
use Rattle.nest_order.specs.runs.Touched.{nth_of}
use Rattle.nest_order.specs.shapes.Shapes as nests
use Rattle.nest_order.proofs.shapes.Shapes.{shape_is_nest}
use Rattle.nest.specs.Bodies.{Standing, loops_of, nest_statements, statements_in, statements_in_parts, statements_of}
use Rattle.nest.specs.Plain.{Loop, Nest, Part, Run, Turns, Choice, Label, Jump, Parts, no_parts, part}
use Rattle.array_form.specs.holds.Statements.{no_statement}
use Rattle.emission.specs.emission_pieces.Nests.{loops_at}
use Rattle.emission.specs.emission_pieces.Edges.{AreEdgesOf, IsEdgeOf, common_of}
use Rattle.emission.specs.emission_pieces.Laws.{EmissionKeepsOrder}
use Rattle.emission.specs.emission_pieces.Shapes.{edge_of, edges_of, level_of, numbers_at, shapes_of}
use Rattle.emission.proofs.EmissionPieces.Emitted.{pieces_are_emitted}

-- ---- the tables

loops_there : (xs : List Standing) (s : ℕ) → nests.loops_round (nth_of xs s) ≡ nests.numbers_of (get_or xs s no_statement).loops
loops_there [] s = refl
loops_there (x ∷ xs) zero = refl
loops_there (x ∷ xs) (suc s) = loops_there xs s

abbrev no_linear : ℕ → Expression → Option ((ℕ → Rattle.std.specs.Prelude.ℤ) → List ℕ → Rattle.std.specs.Prelude.ℤ)
no_linear s e = None

abbrev no_turns : (ℕ → Rattle.std.specs.Prelude.ℤ) → ℕ → List ℕ → ℕ
no_turns v l before = 0

pub nest_is : (n : Nest) → nests.IsPlain n.body → Distinct (nests.numbers_of (loops_of n.body)) → IsNest (numbers_at n) (nests.shape_of 0 n.body)
nest_is n plain once =
    subst (λ f. IsNest f (nests.shape_of 0 n.body)) (fun_ext (λ s. loops_there (statements_of n.body) s)) (shape_is_nest n.body [] no_linear no_turns plain once)

-- ---- edges

same_common : (ls ms : List Loop) → shapes.common_of (map (λ (l : Loop). l.number) ls) (map (λ (l : Loop). l.number) ms) ≡ common_of ls ms
same_common [] ms = refl
same_common (l ∷ ls) [] = refl
same_common (l ∷ ls) (m ∷ ms) = ap (λ c. cond (l.number == m.number) (suc c) 0) (same_common ls ms)

edge_is : (n : Nest) (e : Edge') → IsEdgeOf n e → IsEdge (numbers_at n) (edge_of e)
edge_is n e h = by e.level refl
  where
    by : (level : ℕ) → e.level ≡ level → Rattle.nest_order.specs.orders.Nests.LeadsInNest (numbers_at n) e.from.stmt e.to.stmt (level_of level)
    by zero g = h.forward g
    by (suc m) g =
        let carried : e.level ≤ common_of (loops_at n e.from.stmt) (loops_at n e.to.stmt) = h.carried in
        let same = same_common (loops_at n e.from.stmt) (loops_at n e.to.stmt) in
        omega arith

pub edges_are : (n : Nest) (edges : List Edge') → AreEdgesOf n edges → Each (IsEdge (numbers_at n)) (edges_of edges)
edges_are n [] h = tt
edges_are n (e ∷ edges) h = (edge_is n e (h 0 e (omega arith)), edges_are n edges (λ k d g. h (suc k) d (omega arith)))

-- ---- statements

range_append : (a m k : ℕ) → range_with_len a (m + k) ≡ range_with_len a m ++ range_with_len (a + m) k
range_append a zero k = ap₂ range_with_len (let e : a ≡ a + 0 = omega arith in e) (let e : 0 + k ≡ k = omega arith in e)
range_append a (suc m) k =
    (let e : suc m + k ≡ suc (m + k) = omega arith in ap (range_with_len a) e)
    ∙ ap (λ xs. a ∷ xs) (range_append (a + 1) m k ∙ (let e : (a + 1) + m ≡ a + suc m = omega arith in ap (λ b. range_with_len (a + 1) m ++ range_with_len b k) e))

mutual
  part_numbered : (k : ℕ) (p : Part) → nests.IsPlain p → shapes.statements (nests.shape_of k p) ≡ range_with_len k (nests.size_of p)
  part_numbered k (Run s) plain = refl
  part_numbered k (Turns l ps) plain = parts_numbered k ps plain.1
  part_numbered k (Choice bs ps) plain = absurd plain
  part_numbered k (Label m) plain = absurd plain
  part_numbered k (Jump m) plain = absurd plain

  parts_numbered : (k : ℕ) (ps : Parts) → nests.ArePlain ps → shapes.statements_in (nests.shapes_of k ps) ≡ range_with_len k (nests.sizes_of ps)
  parts_numbered k no_parts plain = refl
  parts_numbered k (part p ps) plain =
      ap₂ (λ xs ys. xs ++ ys) (part_numbered k p plain.0) (parts_numbered (k + nests.size_of p) ps plain.1)
      ∙ sym (range_append k (nests.size_of p) (nests.sizes_of ps))

length_both : {X : Type 0} (xs ys : List X) → length (xs ++ ys) ≡ length xs + length ys
length_both [] ys = omega arith
length_both (x ∷ xs) ys = let e = length_both xs ys in omega arith

mutual
  size_is : (p : Part) (ls : List Loop) → nests.IsPlain p → length (statements_in ls p) ≡ nests.size_of p
  size_is (Run s) ls plain = refl
  size_is (Turns l ps) ls plain = sizes_are ps (ls ++ l ∷ []) plain.1
  size_is (Choice bs ps) ls plain = absurd plain
  size_is (Label m) ls plain = absurd plain
  size_is (Jump m) ls plain = absurd plain

  sizes_are : (ps : Parts) (ls : List Loop) → nests.ArePlain ps → length (statements_in_parts ls ps) ≡ nests.sizes_of ps
  sizes_are no_parts ls plain = refl
  sizes_are (part p ps) ls plain =
      length_both (statements_in ls p) (statements_in_parts ls ps) ∙ ap₂ (λ a b. a + b) (size_is p ls plain.0) (sizes_are ps ls plain.1)

pub statements_are : (n : Nest) → nests.IsPlain n.body → range_with_len 0 (length (nest_statements n)) ≡ shapes.statements (nests.shape_of 0 n.body)
statements_are n plain = ap (range_with_len 0) (size_is n.body [] plain) ∙ sym (part_numbered 0 n.body plain)

-- ---- the order

rises_once : (xs : List ℕ) → Pairwise (λ s r. s < r) xs → Distinct xs
rises_once [] h = tt
rises_once (x ∷ xs) h = (each xs h.0, rises_once xs h.1)
  where
    each : (xs : List ℕ) → Each (λ r. x < r) xs → Each (λ r. ¬ (x ≡ r)) xs
    each [] h = tt
    each (y ∷ xs) h = ((λ e. let less : x < y = h.0 in absurd (omega arith)), each xs h.1)

pub emission_keeps_order : EmissionKeepsOrder
emission_keeps_order n edges holds ps trip plain once legal h =
    let nest = nest_is n plain once in
    let all = edges_are n edges legal in
    let same = statements_are n plain in
    let part = range_with_len 0 (length (nest_statements n)) in
    let apart : Distinct part = subst Distinct (sym same) (rises_once (shapes.statements (nests.shape_of 0 n.body)) nest.rising) in
    let emitted = pieces_are_emitted n edges holds 0 part ps apart h in
    let whole = subst (λ xs. Rattle.nest_order.specs.orders.Emission.IsEmitted (numbers_at n) (edges_of edges) 0 xs (shapes_of n 0 ps)) same emitted in (
      theorems.emission_arranges (numbers_at n) (nests.shape_of 0 n.body) (edges_of edges) (shapes_of n 0 ps) nest all whole,
      theorems.emission_keeps_edges (numbers_at n) trip (nests.shape_of 0 n.body) (edges_of edges) (shapes_of n 0 ps) nest all whole,
    )
