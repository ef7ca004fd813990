-- What is emitted for a nest are its lone forms in an order that keeps its edges, of which runs have their law.
use Rattle.std.proofs.Common.{◌≡◌, ℕ, zero, suc, ◌<◌, true, None, List, [], ◌∷◌, length, map, get_or, refl, sym, subst, arith}
use mathlib.Core.Path.{fun_ext}
use Rattle.std.specs.List.{range_with_len}
use Rattle.array_form.proofs.lone.Safe.{run_names_cells}
use Rattle.components.specs.Lists as components
use Rattle.dependence_graph.specs.declared.graphs.Graph.{Graph}
use Rattle.dependence_graph.specs.declared.graphs.Hold.{Hold}
use Rattle.emission.specs.emission_forms.Forms.{formed, marked_layout}
use Rattle.emission.proofs.EmissionForms.FormsLone.{forms_are_lone}
use Rattle.emission.proofs.EmissionForms.WrittenPieces.{pieces_are_written}
use Rattle.emission.specs.emission_pieces.Emission.{AreEmitted}
use Rattle.emission.specs.emission_pieces.Pieces.{Pieces, block_of_pieces}
use Rattle.emission.specs.emission_pieces.Shapes.{edges_of, numbers_at, shapes_of}
use Rattle.emission.proofs.EmissionPieces.Emitted.{pieces_are_emitted}
use Rattle.emission.proofs.EmissionPieces.Ordered.{nest_is, statements_are}
use Rattle.meaning.specs.Run.{Going, does, does_all}
use Rattle.emission.specs.graph_orders.Arcs.{arcs_of}
use Rattle.emission.proofs.GraphOrders.Complete.{graph_has_edges}
use Rattle.emission.proofs.GraphOrders.Edges.{arcs_are_edges}
use Rattle.emission.specs.graph_orders.Nests.{linear_in, run_nest, turns_in}
use Rattle.nest_order.proofs.facts.Facts.{facts_suffice}
use Rattle.dependence_graph.specs.nest_graph.Graph.{IsGraphOf}
use Rattle.dependence_graph.specs.nest_graph.Ready.{IsReady}
use Rattle.nest_order.specs.orders.Emission.{IsEmitted}
use Rattle.nest_order.specs.orders.Graphs.{edge_of}
use Rattle.nest_order.specs.orders.Lists.{Each, Pairwise, Distinct}
use Rattle.nest_order.specs.orders.Shapes as shapes
use Rattle.nest_order.specs.runs.Blocks.{nest_statement}
use Rattle.nest_order.specs.runs.Guarded.{dialect, sequential}
use Rattle.nest_order.specs.runs.Laws.{GoesOnNear}
use Rattle.nest_order.specs.runs.Touched.{nth_of}
use Rattle.nest_order.proofs.runs.Lone.{lone_forms_keep_meaning}
use Rattle.nest_order.specs.shapes.Shapes.{IsPlain, layout_of, loops_round, numbers_of, shape_of}
use Rattle.nest_order.proofs.shapes.Shapes.{statement_is_of_shape}
use Rattle.nest.specs.Bodies.{Standing, nest_loops, nest_statements, statements_of}
use Rattle.nest.specs.Plain.{Nest}
use Rattle.array_form.specs.holds.Statements.{no_statement}
use Rattle.emission.specs.emission_meaning.Laws.{EmissionKeepsMeaning}
use Rattle.tree.specs.Widths.{bits_of}
use Rattle.tree.specs.declared.width.Width.{Width}

-- ---- lists

differ : (x : ℕ) (xs : List ℕ) → components.Each (λ y. ¬ (x ≡ y)) xs → Each (λ y. ¬ (x ≡ y)) xs
differ x [] h = tt
differ x (y ∷ xs) h = (h.0, differ x xs h.1)

distinct : (xs : List ℕ) → components.Distinct xs → Distinct xs
distinct [] h = tt
distinct (x ∷ xs) h = (differ x xs h.0, distinct xs h.1)

rising_apart : (xs : List ℕ) → Pairwise (λ s r. s < r) xs → Distinct xs
rising_apart [] h = tt
rising_apart (x ∷ xs) h = (each xs h.0, rising_apart xs h.1)
  where
    each : (xs : List ℕ) → Each (λ r. x < r) xs → Each (λ r. ¬ (x ≡ r)) xs
    each [] h = tt
    each (y ∷ xs) h = ((λ e. let less : x < y = h.0 in absurd (omega arith)), each xs h.1)

-- ---- the loops round a statement

loops_there : (xs : List Standing) (s : ℕ) → numbers_of (get_or xs s no_statement).loops ≡ loops_round (nth_of xs s)
loops_there [] s = refl
loops_there (x ∷ xs) zero = refl
loops_there (x ∷ xs) (suc s) = loops_there xs s

same_loops : (n : Nest) → numbers_at n ≡ (run_nest n).loops_of
same_loops n = fun_ext (λ s. loops_there (statements_of n.body) s)

-- ---- the meaning

emitted_shapes : (n : Nest) (g : Graph) (holds : List Hold) (ps : Pieces)
    → IsPlain n.body → Distinct (numbers_of (nest_loops n)) → IsReady n → IsGraphOf n g
    → AreEmitted n g.edges holds 1 (range_with_len 0 (length (nest_statements n))) ps
    → IsEmitted (run_nest n).loops_of (map edge_of (arcs_of g.edges)) 0 (shapes.statements (shape_of 0 n.body)) (shapes_of n 0 ps)
emitted_shapes n g holds ps plain once ready graph h =
    let nest = nest_is n plain once in
    let same = statements_are n plain in
    let part = range_with_len 0 (length (nest_statements n)) in
    let apart : Distinct part = subst Distinct (sym same) (rising_apart (shapes.statements (shape_of 0 n.body)) nest.rising) in
    let emitted = pieces_are_emitted n g.edges holds 0 part ps apart h in
    let whole = subst (λ xs. IsEmitted (numbers_at n) (edges_of g.edges) 0 xs (shapes_of n 0 ps)) same emitted in
    let arcs = subst (λ es. IsEmitted (numbers_at n) es 0 (shapes.statements (shape_of 0 n.body)) (shapes_of n 0 ps)) (sym (arcs_are_edges n g ready graph)) whole in
    subst (λ f. IsEmitted f (map edge_of (arcs_of g.edges)) 0 (shapes.statements (shape_of 0 n.body)) (shapes_of n 0 ps)) (same_loops n) arcs

pub emission_keeps_meaning : (width : Width) → EmissionKeepsMeaning width
emission_keeps_meaning width n g holds ps w s plain ready regular facts written_facts guarded graph all emitted held going =
    let once : Distinct (numbers_of (nest_loops n)) = distinct (numbers_of (nest_loops n)) ready.loops in
    let y = layout_of n.line n.body in
    let same = statement_is_of_shape n.line n.body n.symbols (linear_in n) (turns_in n) plain once in
    let ok = facts_suffice (bits_of width) (run_nest n) w facts in
    let runs = subst (λ c. (does (sequential (bits_of width)) None c s).way ≡ Going) same going in
    let kept = lone_forms_keep_meaning (bits_of width) true (run_nest n) w (arcs_of g.edges) (shapes_of n 0 ps) y (marked_layout n) (formed n g.edges holds) s
    (omega arith) ok (graph_has_edges n g plain facts.text ready graph)
    (emitted_shapes n g holds ps plain once ready graph emitted)
    (forms_are_lone width n g holds w plain ready regular graph all facts written_facts guarded (run_names_cells (bits_of width) (run_nest n) w y s ok held runs)) held runs in
    let block = subst (λ b. GoesOnNear (run_nest n) (does (sequential (bits_of width)) None (nest_statement (run_nest n) y [] (shape_of 0 n.body)) s) (does_all (dialect (bits_of width) true) None b s))
    (pieces_are_written n g holds ps plain ready graph emitted) kept in
    subst (λ c. GoesOnNear (run_nest n) (does (sequential (bits_of width)) None c s) (does_all (dialect (bits_of width) true) None (block_of_pieces n 1 ps) s)) (sym same) block
