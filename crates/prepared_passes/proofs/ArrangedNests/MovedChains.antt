-- A nest whose loops were moved: a chain of the same loops in another order, in canonical text.
use Rattle.std.proofs.Common.{◌≡◌, refl, sym, ap, ◌∙◌, subst, inl, inr, ℕ, suc, Bool, true, false, cond, Option, Some, None}
use Rattle.std.proofs.Common.{List, [], ◌∷◌, length, map, arith}
use Rattle.std.specs.List.{range_with_len}
use Rattle.std.specs.Prelude.{slice_get}
use Rattle.subscripts.specs.declared.affine.Dirs.{Dirs}
use Rattle.linear_forms.specs.Canonical.{canonising}
use Rattle.nest.specs.declared.parts.Trip.{Trip}
use Rattle.nest.specs.Plain.{Loop, Nest, Parts, Turns}
use Rattle.nest_order.specs.orders.Lists.{Distinct, In}
use Rattle.nest_order.specs.shapes.Shapes.{numbers_of}
use Rattle.nest_rewrite.specs.Rewritten.{rewritten}
use Rattle.dependence_graph.specs.nest_graph.Spans.{spans_of}
use Rattle.interchange.specs.Arranged.{arranged_by, arranged_chain, body_in, is_loop_free, in_order, is_changed}
use Rattle.interchange.specs.Arranged.{free_trips_of, with_moved_loops, with_order}
use Rattle.interchange.specs.Chains.{Chain, are_statements, chain_of, in_loops, part_in_loops}
use Rattle.interchange.specs.Laws.{IsChainOf}
use Rattle.interchange.specs.Moves.{IsReached, exchanges}
use Rattle.interchange.specs.Orders.{order_of}
use Rattle.interchange.specs.Reads.{read_own_elements}
use Rattle.interchange.proofs.ChainParts.{chains_are_loops}
use Rattle.interchange.proofs.ExchangedLoops.{loops_are_exchanged}
use Rattle.interchange.proofs.Moving.{moves_are_exchanges}
use Rattle.interchange.proofs.Reached.{order_is_reached}
use Rattle.interchange_laws.specs.orders.Moves.{rearranged}
use Rattle.interchange_laws.proofs.orders.Moves.{Distinct_rearranged, In_rearranged, rearranged_length}
use Rattle.interchange_laws.proofs.runs.Acts.{map_rearranged, rearranged_In}
use Rattle.pass_laws.specs.prepared_nests.Loops.{variables_of_loops}
use Rattle.prepared_passes.proofs.ArrangedNests.Known.{trip_at}

none_some : {A : Type 0} (x : A) → ◌≡◌ {A = Option A} None (Some x) → ⊥
none_some x e = cc

some_same : {A : Type 0} (x y : A) → ◌≡◌ {A = Option A} (Some x) (Some y) → x ≡ y
some_same x y e = cc

-- ---- where a loop moves

-- of n's chain with these trips, k has the loops in the order that the vectors ask for
pub record IsMoved (n : Nest) (vectors : List Dirs) (k : Nest) : Type 0 where
  pub chain : Chain
  pub is : chain_of n.body ≡ Some chain
  pub trips : List Trip
  pub are : free_trips_of chain.loops ≡ Some trips
  pub own : read_own_elements n ≡ true
  pub nest : k ≡ record n { body = body_in n chain (order_of trips (spans_of [] chain.loops) vectors (length chain.loops)) }

module _ (n : Nest) (vectors : List Dirs) (k : Nest) where
  abbrev order_by : Chain → List Trip → List ℕ
  order_by c ts = order_of ts (spans_of [] c.loops) vectors (length c.loops)

  abbrev moved_by : Chain → List Trip → Nest
  moved_by c ts = record n { body = body_in n c (order_by c ts) }

  from_order : (c : Chain) (ts : List Trip) → chain_of n.body ≡ Some c → free_trips_of c.loops ≡ Some ts → read_own_elements n ≡ true → with_order n c (order_by c ts) ≡ Some k → IsMoved n vectors k
  from_order c ts is are own e = by (is_changed (order_by c ts)) e
    where
      by : (b : Bool) → cond b (Some (moved_by c ts)) None ≡ Some k → IsMoved n vectors k
      by true f = record { chain = c; is = is; trips = ts; are = are; own = own; nest = sym (some_same (moved_by c ts) k f) }
      by false f = absurd (none_some k f)

  from_trips : (c : Chain) (o : Option (List Trip)) → free_trips_of c.loops ≡ o → chain_of n.body ≡ Some c → read_own_elements n ≡ true
      → arranged_chain n vectors c o ≡ Some k → IsMoved n vectors k
  from_trips c None are is own e = absurd (none_some k e)
  from_trips c (Some ts) are is own e = from_order c ts is are own e

  from_chain : (o : Option Chain) → chain_of n.body ≡ o → arranged_by n vectors o ≡ Some k → IsMoved n vectors k
  from_chain None is e = absurd (none_some k e)
  from_chain (Some c) is e = by (read_own_elements n) refl e
    where
      by : (b : Bool) → read_own_elements n ≡ b → cond b (arranged_chain n vectors c (free_trips_of c.loops)) None ≡ Some k → IsMoved n vectors k
      by true own f = from_trips c (free_trips_of c.loops) refl is own f
      by false own f = absurd (none_some k f)

  pub moved_is : with_moved_loops n vectors ≡ Some k → IsMoved n vectors k
  unfolding with_moved_loops
  moved_is e = from_chain (chain_of n.body) refl e

-- ---- the chain that comes about

pub record IsMovedChain (n k : Nest) : Type 0 where
  -- as it was
  pub first : Loop
  pub rest : List Loop
  pub body : Parts
  pub was : n.body ≡ Turns first (in_loops rest body)
  pub plain : are_statements body ≡ true
  pub free : (l : Loop) → In l (first ∷ rest) → (t : Trip) × (l.trip ≡ Some t) × (is_loop_free t ≡ true)
  -- as it is
  pub outer : Loop
  pub inner : List Loop
  pub among : (l : Loop) → In l (outer ∷ inner) → In l (first ∷ rest)
  pub all : (l : Loop) → In l (first ∷ rest) → In l (outer ∷ inner)
  pub once : Distinct (numbers_of (first ∷ rest)) → Distinct (numbers_of (outer ∷ inner))
  pub size : length (outer ∷ inner) ≡ length (first ∷ rest)
  pub nest : k ≡ record n { body = rewritten (canonising (variables_of_loops (outer ∷ inner)) n.symbols) (Turns outer (in_loops inner body)) }

place_of : (l : Loop) (ls : List Loop) → In l ls → (k : ℕ) × (slice_get ls k ≡ Some l)
place_of l [] i = absurd i
place_of l (m ∷ ls) (inl e) = (0, ap (λ (z : Loop). Some z) (sym e))
place_of l (m ∷ ls) (inr i) = let p = place_of l ls i in (suc p.0, p.1)

module _ (n : Nest) (vectors : List Dirs) (k : Nest) (h : IsMoved n vectors k) where
  abbrev c : Chain
  c = h.chain

  is : IsChainOf n.body c
  is = chains_are_loops n.body c h.is

  abbrev order : List ℕ
  order = order_of h.trips (spans_of [] c.loops) vectors (length c.loops)

  reached : IsReached h.trips (spans_of [] c.loops) vectors (length c.loops) order
  reached = order_is_reached h.trips (spans_of [] c.loops) vectors (length c.loops)

  abbrev ps : List ℕ
  ps = exchanges reached.moves

  order_is : order ≡ rearranged ps (range_with_len 0 (length c.loops))
  order_is = moves_are_exchanges h.trips (spans_of [] c.loops) reached.moves (range_with_len 0 (length c.loops)) order reached.lead

  exchanged : in_order c.loops order ≡ rearranged ps (is.first ∷ is.rest)
  exchanged =
      ap (λ ls. in_order ls order) is.loops_are
      ∙ loops_are_exchanged is.first is.rest ps order (subst (λ ls. order ≡ rearranged ps (range_with_len 0 (length ls))) is.loops_are order_is)

  free : (l : Loop) → In l (is.first ∷ is.rest) → (t : Trip) × (l.trip ≡ Some t) × (is_loop_free t ≡ true)
  free l i =
      let p = place_of l c.loops (subst (In l) (sym is.loops_are) i) in
      let t = trip_at c.loops h.trips p.0 l h.are p.1 in
      (t.0, t.2, t.3)

  from_loops : (ls : List Loop) → in_order c.loops order ≡ ls → IsMovedChain n k
  from_loops [] e =
      let many = rearranged_length ps (is.first ∷ is.rest) in
      let none : length (rearranged ps (is.first ∷ is.rest)) ≡ 0 = ap (λ (zs : List Loop). length zs) (sym exchanged ∙ e) in
      absurd (omega (arith, many, none))
  from_loops (l ∷ ls) e =
      let same : rearranged ps (is.first ∷ is.rest) ≡ l ∷ ls = sym exchanged ∙ e in
      record {
        first = is.first;
        rest = is.rest;
        body = c.body;
        was = is.is;
        plain = is.body;
        free = free;
        outer = l;
        inner = ls;
        among = λ x i. In_rearranged x ps (is.first ∷ is.rest) (subst (In x) (sym same) i);
        all = λ x i. subst (In x) same (rearranged_In x ps (is.first ∷ is.rest) i);
        once = λ d. subst (λ zs. Distinct (numbers_of zs)) same
            (subst Distinct (sym (map_rearranged (λ (x : Loop). x.number) ps (is.first ∷ is.rest))) (Distinct_rearranged ps (numbers_of (is.first ∷ is.rest)) d));
        size = ap (λ (zs : List Loop). length zs) (sym same) ∙ rearranged_length ps (is.first ∷ is.rest);
        nest = h.nest ∙ ap (λ zs. record n { body = rewritten (canonising (map (λ (x : Loop). x.variable) zs) n.symbols) (part_in_loops n.body zs c.body) }) e;
      }

  pub moved_chain : IsMovedChain n k
  moved_chain = from_loops (in_order c.loops order) refl
