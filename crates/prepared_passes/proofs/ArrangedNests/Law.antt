-- The nest with its loops moved does what the nest does.
use Rattle.std.proofs.Common.{◌≡◌, refl, sym, ap, ◌∙◌, subst, inl, inr, ℕ, zero, suc, ◌==◌, ◌≤◌, true, false, cond, Some, None, List, [], ◌∷◌, length, map, get_or, arith}
use Rattle.std.specs.List.{range_with_len}
use Rattle.tree.specs.Plain.{no_statements, statement}
use Rattle.meaning.specs.Run.{State, Going, does, does_all}
use Rattle.nest.specs.declared.parts.Trip.{Trip}
use Rattle.nest.specs.Blocks.{statement_of_part}
use Rattle.nest.specs.Bodies.{loops_of, nest_loops, statements_of}
use Rattle.nest.specs.Plain.{Guarded, Loop, Nest, Part, Parts, Turns}
use Rattle.dependence_graph.specs.declared.graphs.Graph.{Graph}
use Rattle.dependence_graph.specs.nest_graph.Spans.{spans_of}
use Rattle.emission.specs.graph_orders.Arcs.{arcs_of}
use Rattle.emission.specs.graph_orders.Nests.{run_nest}
use Rattle.emission.proofs.GraphOrders.Complete.{graph_has_edges}
use Rattle.nest_order.specs.orders.Graphs.{Arc}
use Rattle.nest_order.specs.orders.Lists.{Distinct, Each, In}
use Rattle.nest_order.specs.orders.Shapes.{loops_of_shape}
use Rattle.nest_order.proofs.facts.Facts.{facts_suffice}
use Rattle.nest_order.proofs.orders.Membership.{In-map}
use Rattle.nest_order.proofs.shapes.Shapes.{statement_is_of_shape}
use Rattle.nest_order.specs.runs.Blocks.{Layout, nest_statement}
use Rattle.nest_order.specs.runs.Guarded.{sequential}
use Rattle.nest_order.specs.runs.Forms.{AreCounted}
use Rattle.nest_order.specs.runs.Laws.{GoesOnNear}
use Rattle.nest_order.specs.runs.Nests as runs
use Rattle.nest_order.specs.runs.Stores.{HoldsNest, IsNestIn, Setting}
use Rattle.nest_order.specs.runs.Touched.{AreEdgesOf, Touches, nth_of, references_of}
use Rattle.nest_order.specs.shapes.Shapes.{IsPlain, guarded_of, layout_of, loop_numbered, nest_of, numbers_of, shape_of, sizes_of, trip_of_loop, variable_of_loop}
use Rattle.interchange.specs.Arranged.{in_order, vectors_of}
use Rattle.interchange.specs.Chains.{Chain, are_statements, in_loops, part_in_loops}
use Rattle.interchange.specs.Laws.{IsChainOf}
use Rattle.interchange.specs.Moves.{IsReached, exchanges}
use Rattle.interchange.specs.Orders.{keeps_all, order_of}
use Rattle.interchange.proofs.ChainParts.{chains_are_loops}
use Rattle.interchange.proofs.ExchangedLoops.{indexed, loops_are_exchanged, take_all}
use Rattle.interchange.proofs.Moving.{moves_are_exchanges}
use Rattle.interchange.proofs.Reached.{order_is_reached}
use Rattle.interchange_laws.specs.orders.Laws.{IsChainArc, MayBeRearranged}
use Rattle.interchange_laws.specs.orders.Moves.{chain_of as shape_chain, rearranged}
use Rattle.interchange_laws.proofs.orders.Chains.{HasLoop, chain_loops, still_has_loop}
use Rattle.interchange_laws.proofs.orders.Moves.{Distinct_rearranged, In_rearranged, rearranged_length}
use Rattle.interchange_laws.specs.runs.Counted.{AreCountable, HaveNumbers, HaveSymbolTrips}
use Rattle.interchange_laws.specs.runs.Laws.{MayExchange}
use Rattle.interchange_laws.specs.runs.Nests.{rearranged_nest}
use Rattle.interchange_laws.proofs.runs.Acts.{map_rearranged}
use Rattle.interchange_laws.proofs.runs.Arcs.{chain_arc}
use Rattle.interchange_laws.proofs.runs.Countable.{run_trips_are_countable}
use Rattle.interchange_laws.proofs.runs.Counted.{counted}
use Rattle.interchange_laws.proofs.runs.Law.{exchanged_loops_keep_meaning}
use Rattle.interchange_laws.proofs.runs.OtherNest.{rearranged_nest_is_nest}
use Rattle.prepared_passes.specs.arrangement.Laws.{MayMove, MovedLoopsKeepMeaning, moved_body}
use Rattle.prepared_passes.proofs.ArrangedNests.Counts.{moves_counted}
use Rattle.prepared_passes.proofs.ArrangedNests.Edges.{forward_at_first, may_be_rearranged, others, others_are_kept}
use Rattle.prepared_passes.proofs.ArrangedNests.Numbers.{constants, equal, have_numbers, have_symbol_trips, known, number, turning}
use Rattle.prepared_passes.proofs.ArrangedNests.OwnElements.{reads_what_it_writes}
use Rattle.prepared_passes.proofs.ArrangedNests.Shapes.{all_guarded, chain_plain, loops_are_normal, loops_of_chain, same_written, shape_of_chain, standing_under, statements_of_chain}

module _ (bits : ℕ) (wide : 31 ≤ bits) (high : bits ≤ 63) (m : Nest) (g : Graph) (l : Loop) (ls : List Loop) (body : Parts) (trips : List Trip) (w : Setting)
    (may : MayMove bits m g (record { loops = l ∷ ls; body = body }) trips w) (is : m.body ≡ Turns l (in_loops ls body)) (plain_body : are_statements body ≡ true) where
  abbrev c : Chain
  c = record { loops = l ∷ ls; body = body }

  abbrev N : runs.RunNest
  N = run_nest m

  abbrev ss : List ℕ
  ss = range_with_len 0 (sizes_of body)

  abbrev n : ℕ
  n = length (l ∷ ls)

  abbrev order : List ℕ
  order = order_of trips (spans_of [] (l ∷ ls)) (vectors_of g.edges) n

  reached : IsReached trips (spans_of [] (l ∷ ls)) (vectors_of g.edges) n order
  reached = order_is_reached trips (spans_of [] (l ∷ ls)) (vectors_of g.edges) n

  abbrev ps : List ℕ
  ps = exchanges reached.moves

  order_is : order ≡ rearranged ps (range_with_len 0 n)
  order_is = moves_are_exchanges trips (spans_of [] (l ∷ ls)) reached.moves (range_with_len 0 n) order reached.lead

  abbrev numbers : List ℕ
  numbers = l.number ∷ numbers_of ls

  shape_here : N.shape ≡ shape_chain numbers ss
  shape_here = ap (shape_of 0) is ∙ shape_of_chain l ls body plain_body

  first : HasLoop numbers
  first = record { first = l.number; rest = numbers_of ls; is = refl }

  loops_here : loops_of_shape N.shape ≡ numbers
  loops_here = ap loops_of_shape shape_here ∙ chain_loops numbers ss first

  ok : IsNestIn bits N w
  ok = facts_suffice bits N w may.facts

  edges : AreEdgesOf N (arcs_of g.edges)
  edges = graph_has_edges m g may.plain may.facts.text may.ready may.graph

  map_length : {X Y : Type 0} (f : X → Y) (xs : List X) → length (map f xs) ≡ length xs
  map_length f [] = refl
  map_length f (x ∷ xs) = ap suc (map_length f xs)

  as_many : length numbers ≡ n
  as_many = ap suc (map_length (λ (x : Loop). x.number) ls)

  -- ---- the vectors

  chain_arcs : (a : Arc) → In a (arcs_of (others g.edges)) → IsChainArc n a
  chain_arcs a i =
      subst (λ k. IsChainArc k a) as_many
      (chain_arc N.loops_of N.turns_of (λ s. length (references_of N s)) (Touches N) numbers ss first N.shape shape_here may.facts.text.nest (arcs_of g.edges) edges a
      ((others_are_kept m g may.graph).among a i))

  forward : keeps_all (vectors_of g.edges) (range_with_len 0 n) ≡ true
  forward = forward_at_first (others g.edges) n chain_arcs (λ a i. edges.level a ((others_are_kept m g may.graph).among a i))

  allowed : MayBeRearranged ps (arcs_of (others g.edges))
  allowed = may_be_rearranged (others g.edges) n chain_arcs ps order order_is (reached.keeps forward)

  -- ---- the trips

  trips_here : HaveSymbolTrips bits N w numbers
  trips_here = have_symbol_trips bits high m g c trips w may

  abbrev has : HaveNumbers bits N w numbers
  has = have_numbers bits high m g c trips w may

  exchange : MayExchange bits N w l.number (numbers_of ls) ss ps (arcs_of g.edges)
  exchange = record {
    nest = ok;
    chain = shape_here;
    turns = has.turns;
    rectangular = λ k before i. has.same k before i;
    edges = edges;
    kept = arcs_of (others g.edges);
    others = others_are_kept m g may.graph;
    may = allowed;
    reads = reads_what_it_writes m may.plain may.facts.text may.ready may.own;
  }

  abbrev other : runs.RunNest
  other = rearranged_nest ps N numbers ss

  other_ok : IsNestIn bits other w
  other_ok = rearranged_nest_is_nest bits N w l.number (numbers_of ls) ss ps ok shape_here trips_here

  has_other : HaveNumbers bits other w numbers
  has_other = record {
    top = has.top;
    gives = λ k s i inside. has.gives k s i (record { program = inside.program; bounds = inside.bounds; symbols = inside.symbols });
    turns = has.turns;
    same = has.same;
  }

  -- the numbers of the loops by their places
  abbrev at : ℕ → ℕ
  at = number bits high m g c trips w may l

  by_places : (ks : List ℕ) → map at ks ≡ map (λ (x : Loop). x.number) (map (λ k. get_or (l ∷ ls) k l) ks)
  by_places [] = refl
  by_places (k ∷ ks) = ap (λ zs. at k ∷ zs) (by_places ks)

  numbers_at_first : map at (range_with_len 0 n) ≡ numbers
  numbers_at_first = by_places (range_with_len 0 n) ∙ ap (map (λ (x : Loop). x.number)) (indexed l (l ∷ ls) n (omega arith) ∙ take_all (l ∷ ls))

  numbers_at_last : map at order ≡ rearranged ps numbers
  numbers_at_last = ap (map at) order_is ∙ (map_rearranged at ps (range_with_len 0 n) ∙ ap (rearranged ps) numbers_at_first)

  counted_there : (y : Layout) (s : State) → HoldsNest bits N w s.store → (does (sequential bits) None (nest_statement N y [] N.shape) s).way ≡ Going → AreCounted bits other w [] [] other.shape
  unfolding has_other
  counted_there y s inside go =
      let before : AreCountable has.top has.turns numbers = run_trips_are_countable bits N w l.number (numbers_of ls) ss y s has wide ok shape_here inside go in
      let after : AreCountable has.top has.turns (map at order) =
      moves_counted trips (spans_of [] (l ∷ ls)) has.top has.turns at (constants bits high m g c trips w may l) (turning bits high m g c trips w may l) (equal bits high m g c trips w may l)
      reached.moves (range_with_len 0 n) order reached.lead (subst (AreCountable has.top has.turns) (sym numbers_at_first) before) in
      counted bits other w numbers has_other (rearranged ps numbers) ss (λ k i. In_rearranged k ps numbers i) (subst (AreCountable has.top has.turns) numbers_at_last after)

  -- ---- the statements

  moved : in_order (l ∷ ls) order ≡ rearranged ps (l ∷ ls)
  moved = loops_are_exchanged l ls ps order order_is

  -- with its loops in the other order
  module _ (k : Loop) (ks : List Loop) (others_are : rearranged ps (l ∷ ls) ≡ k ∷ ks) where
    abbrev there : Part
    there = Turns k (in_loops ks body)

    numbers_there : numbers_of (k ∷ ks) ≡ rearranged ps numbers
    numbers_there = ap numbers_of (sym others_are) ∙ map_rearranged (λ (x : Loop). x.number) ps (l ∷ ls)

    single : Distinct numbers
    single = subst Distinct loops_here may.facts.text.nest.single

    single_there : Distinct (numbers_of (loops_of there))
    single_there = subst Distinct (sym (ap numbers_of (loops_of_chain k ks body plain_body) ∙ numbers_there)) (Distinct_rearranged ps numbers single)

    was : (x : Loop) → In x (k ∷ ks) → In x (l ∷ ls)
    was x i = In_rearranged x ps (l ∷ ls) (subst (In x) (sym others_are) i)

    abbrev O : runs.RunNest
    O = nest_of there m.symbols N.linear N.turns_of

    abbrev z : Layout
    z = layout_of m.line there

    numbered : (xs : List Loop) (x : Loop) → Distinct (numbers_of xs) → In x xs → loop_numbered xs x.number ≡ Some x
    numbered [] x d i = absurd i
    numbered (y ∷ xs) x d (inl e) =
        subst (λ (v : Loop). cond (y.number == v.number) (Some y) (loop_numbered xs v.number) ≡ Some v) (sym e)
        (ap (λ b. cond b (Some y) (loop_numbered xs y.number)) (same y.number))
      where
        same : (j : ℕ) → (j == j) ≡ true
        same j = grind arith
    numbered (y ∷ xs) x d (inr i) =
        ap (λ b. cond b (Some y) (loop_numbered xs x.number)) (differ y.number x.number (apart y.number xs d.0 i)) ∙ numbered xs x d.1 i
      where
        differ : (a b : ℕ) → ¬ (a ≡ b) → (a == b) ≡ false
        differ a b h = grind arith

        apart : (a : ℕ) (ys : List Loop) → Each (λ b. ¬ (a ≡ b)) (numbers_of ys) → In x ys → ¬ (a ≡ x.number)
        apart a [] h i = absurd i
        apart a (v ∷ ys) h (inl e) = subst (λ (u : Loop). ¬ (a ≡ u.number)) (sym e) h.0
        apart a (v ∷ ys) h (inr i) = apart a ys h.1 i

    loop_there : (x : Loop) → In x (k ∷ ks) → loop_numbered (loops_of there) x.number ≡ Some x
    loop_there x i = numbered (loops_of there) x single_there (subst (In x) (sym (loops_of_chain k ks body plain_body)) i)

    same_loops : (j : ℕ) → In j (loops_of_shape other.shape) → (other.variable_at j ≡ O.variable_at j) × (other.trip_at j ≡ O.trip_at j)
    same_loops j i =
        let listed : In j (numbers_of (k ∷ ks)) = subst (In j) (chain_loops (rearranged ps numbers) ss (still_has_loop numbers (rearranged ps numbers) first (rearranged_length ps numbers)) ∙ sym numbers_there) i in
        let o = In-map (λ (x : Loop). x.number) j (k ∷ ks) listed in
        let a : loop_numbered (nest_loops m) j ≡ Some o.it = ap (loop_numbered (nest_loops m)) o.is ∙ known bits high m g c trips w may o.it (was o.it o.inside) in
        let b : loop_numbered (loops_of there) j ≡ Some o.it = ap (loop_numbered (loops_of there)) o.is ∙ loop_there o.it o.inside in
        (ap variable_of_loop (a ∙ sym b), ap trip_of_loop (a ∙ sym b))

    same_guarded : (gs : List Guarded) (xs ys : List Loop) (s : ℕ) → guarded_of (nth_of (map (standing_under xs) gs) s) ≡ guarded_of (nth_of (map (standing_under ys) gs) s)
    same_guarded [] xs ys s = refl
    same_guarded (a ∷ gs) xs ys zero = refl
    same_guarded (a ∷ gs) xs ys (suc s) = same_guarded gs xs ys s

    same_statements : (s : ℕ) → other.statement_at s ≡ O.statement_at s
    same_statements s =
        ap (λ xs. guarded_of (nth_of xs s)) (ap statements_of is ∙ statements_of_chain l ls body plain_body)
        ∙ (same_guarded (all_guarded body) (l ∷ ls) (k ∷ ks) s ∙ ap (λ xs. guarded_of (nth_of xs s)) (sym (statements_of_chain k ks body plain_body)))

    plain_there : IsPlain there
    plain_there = chain_plain k ks body plain_body (λ x i. loops_are_normal l ls body (subst IsPlain is may.plain) x (was x i))

    written : nest_statement other z [] other.shape ≡ statement_of_part m.line there
    written =
        same_written other O z [] other.shape same_loops (λ s i. same_statements s)
        ∙ (ap (nest_statement O z []) (sym (shape_of_chain k ks body plain_body ∙ ap (λ xs. shape_chain xs ss) numbers_there))
        ∙ sym (statement_is_of_shape m.line there m.symbols N.linear N.turns_of plain_there single_there))

    kept : (s : State) → HoldsNest bits N w s.store → (does (sequential bits) None (statement_of_part m.line m.body) s).way ≡ Going
        → GoesOnNear N (does (sequential bits) None (statement_of_part m.line m.body) s) (does_all (sequential bits) None (statement (statement_of_part m.line there) no_statements) s)
    kept s inside go =
        let y : Layout = layout_of m.line m.body in
        let single_here : Distinct (numbers_of (loops_of m.body)) = subst Distinct (sym (ap numbers_of (ap loops_of is ∙ loops_of_chain l ls body plain_body))) single in
        let here : statement_of_part m.line m.body ≡ nest_statement N y [] N.shape = statement_is_of_shape m.line m.body m.symbols N.linear N.turns_of may.plain single_here in
        let went : (does (sequential bits) None (nest_statement N y [] N.shape) s).way ≡ Going = subst (λ x. (does (sequential bits) None x s).way ≡ Going) here go in
        let law : GoesOnNear N (does (sequential bits) None (nest_statement N y [] N.shape) s) (does_all (sequential bits) None (statement (nest_statement other z [] other.shape) no_statements) s) =
        exchanged_loops_keep_meaning bits N w l.number (numbers_of ls) ss ps (arcs_of g.edges) y z s wide exchange inside other_ok (counted_there y s inside went) went in
        subst (λ x. GoesOnNear N (does (sequential bits) None x s) (does_all (sequential bits) None (statement (statement_of_part m.line there) no_statements) s)) (sym here)
        (subst (λ x. GoesOnNear N (does (sequential bits) None (nest_statement N y [] N.shape) s) (does_all (sequential bits) None (statement x no_statements) s)) written law)

  pub keeps_meaning : (s : State) → HoldsNest bits N w s.store → (does (sequential bits) None (statement_of_part m.line m.body) s).way ≡ Going
      → GoesOnNear N (does (sequential bits) None (statement_of_part m.line m.body) s) (does_all (sequential bits) None (statement (statement_of_part m.line (moved_body m g c trips)) no_statements) s)
  keeps_meaning s inside go = by (rearranged ps (l ∷ ls)) refl
    where
      by : (xs : List Loop) → rearranged ps (l ∷ ls) ≡ xs
          → GoesOnNear N (does (sequential bits) None (statement_of_part m.line m.body) s) (does_all (sequential bits) None (statement (statement_of_part m.line (moved_body m g c trips)) no_statements) s)
      by [] e = absurd (let f : length (rearranged ps (l ∷ ls)) ≡ suc (length ls) = rearranged_length ps (l ∷ ls) in let h : length (rearranged ps (l ∷ ls)) ≡ 0 = ap length e in omega arith)
      by (k ∷ ks) e =
          subst (λ zs. GoesOnNear N (does (sequential bits) None (statement_of_part m.line m.body) s) (does_all (sequential bits) None (statement (statement_of_part m.line (part_in_loops m.body zs body)) no_statements) s))
          (sym (moved ∙ e)) (kept k ks e s inside go)

pub moved_loops_keep_meaning : MovedLoopsKeepMeaning
moved_loops_keep_meaning bits m g c trips w s wide high may inside go = by (chains_are_loops m.body c may.chain)
  where
    by : IsChainOf m.body c
        → GoesOnNear (run_nest m) (does (sequential bits) None (statement_of_part m.line m.body) s) (does_all (sequential bits) None (statement (statement_of_part m.line (moved_body m g c trips)) no_statements) s)
    by p =
        let e : c ≡ record { loops = p.first ∷ p.rest; body = c.body } = ap (λ xs. let d : Chain = record { loops = xs; body = c.body } in d) p.loops_are in
        subst (λ d. GoesOnNear (run_nest m) (does (sequential bits) None (statement_of_part m.line m.body) s) (does_all (sequential bits) None (statement (statement_of_part m.line (moved_body m g d trips)) no_statements) s)) (sym e)
        (keeps_meaning bits wide high m g p.first p.rest c.body trips w (subst (λ d. MayMove bits m g d trips w) e may) p.is p.body s inside go)
