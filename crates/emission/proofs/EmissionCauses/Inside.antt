-- The cycles of what is emitted are over statements of the nest, at levels of its loops.
use Rattle.std.proofs.Common.{◌≡◌, ◌⊎◌, inl, inr, sym, ap, subst, ◌∙◌, ℕ, suc, ◌+◌, ◌-◌, ◌<◌, ◌≤◌, Some, List, [], ◌∷◌, length, map, arith}
use Rattle.std.specs.Prelude.{slice_get}
use Rattle.std.specs.List.{range_with_len}
use Rattle.closed_walks.specs.Cycles.{AreCycles}
use Rattle.components.specs.Lists as lists
use Rattle.components.specs.Reachability.{Walk}
use Rattle.components.proofs.ListLaws.{filter-In}
use Rattle.dependence_graph.specs.declared.graphs.Cycle.{Cycle}
use Rattle.dependence_graph.specs.declared.graphs.Edge.{Edge}
use Rattle.dependence_graph.specs.declared.graphs.Hold.{Hold}
use Rattle.nest.specs.Bodies.{nest_statements, statement_number}
use Rattle.nest.specs.Plain.{Loop, Nest}
use Rattle.nest_order.specs.orders.Lists.{In}
use Rattle.nest_order.proofs.orders.Lists.{In-append}
use Rattle.nest_order.proofs.orders.Membership.{In-map}
use Rattle.emission.specs.emission_pieces.Cycles.{AreCyclesAmong, AreCyclesIn, AreCyclesOf, cycle_at, stands_among, statements_among, steps_of}
use Rattle.emission.specs.emission_pieces.Edges.{AreEdgesOf}
use Rattle.emission.specs.emission_pieces.Emission.{AreEmittedFor, IsEmittedFor}
use Rattle.emission.specs.emission_pieces.Nests.{loops_at}
use Rattle.emission.specs.emission_pieces.Pieces.{Piece, Kept, Formed, Turning, Pieces, no_pieces, piece}
use Rattle.emission.proofs.EmissionCauses.Causes.{stand_among_numbers, start_of, within_list}
use Rattle.emission.proofs.EmissionCauses.Steps.{step_within}
use Rattle.emission.proofs.EmissionMarks.Lists.{range_within}
use Rattle.emission.proofs.EmissionPieces.Emitted.{to_in}

-- at a level of the loops of some statement
pub record IsInside (n : Nest) (c : Cycle) : Type 0 where
  pub statement : ℕ
  pub deep : c.level ≤ length (loops_at n statement)
  pub walk : List ℕ
  pub below : lists.Each (λ s. s < length (nest_statements n)) walk
  pub is : c.stmts ≡ map statement_number walk

module _ (n : Nest) (edges : List Edge) (holds : List Hold) (legal : AreEdgesOf n edges) where
  abbrev count : ℕ
  count = length (nest_statements n)

  along : (ps : Pieces) (k s : ℕ) (over : List ℕ) (r : ℕ) → Walk (steps_of (λ q. stands_among q ps) edges k) s over r → lists.Each (λ q. q < count) over
  along ps k s [] r w = tt
  along ps k s (q ∷ over) r w = (step_within n edges k (λ q. stands_among q ps) s q legal w.0, along ps k q over r w.1)

  of_loop : (k : ℕ) (s : ℕ) (l : Loop) (ps : Pieces) (walks : List (List ℕ)) → slice_get (loops_at n s) (k - 1) ≡ Some l
      → AreCycles (steps_of (λ q. stands_among q ps) edges k) (statements_among count ps) walks → (c : Cycle) → In c (map (cycle_at k) walks) → IsInside n c
  of_loop k s l ps walks e w c i =
      let m = In-map (cycle_at k) c walks i in
      let p = start_of (steps_of (λ q. stands_among q ps) edges k) w.starts walks w.each m.it m.inside in
      let among = stand_among_numbers w.starts (statements_among count ps) w.among p.start p.among in
      let range = to_in p.start (range_with_len 0 count) (filter-In (λ q. stands_among q ps) (range_with_len 0 count) p.start among).0 in
      let first : p.start < 0 + count = (range_within 0 count p.start range).1 in
      let inside : k - 1 < length (loops_at n s) = within_list (loops_at n s) (k - 1) l e in
      record {
        statement = s;
        deep = subst (λ z. z ≤ length (loops_at n s)) (sym (ap (λ (x : Cycle). x.level) m.is)) (omega arith);
        walk = p.start ∷ p.over;
        below = (omega arith, along ps k p.start p.over p.start p.least.closed.walk);
        is = ap (λ (x : Cycle). x.stmts) (m.is ∙ ap (cycle_at k) p.is);
      }

  from_either : {A B : Type 0} (x : Cycle) → A ⊎ B → (A → IsInside n x) → (B → IsInside n x) → IsInside n x
  from_either x (inl a) f g = f a
  from_either x (inr b) f g = g b

  mutual
    of_piece : (p : Piece) (k : ℕ) (c : List ℕ) (cs : List Cycle) → IsEmittedFor n edges holds k c p → AreCyclesIn edges count k p cs → (x : Cycle) → In x cs → IsInside n x
    of_piece (Kept s) k c cs h are x i = absurd (subst (In x) are i)
    of_piece (Formed s) k c cs h are x i = absurd (subst (In x) are i)
    of_piece (Turning l ps) k c cs h are x i =
        from_either x (In-append x (map (cycle_at k) are.0) are.1 (subst (In x) are.2 i)) (of_loop k h.0.statement l ps are.0 h.0.loop are.3 x)
        (of_pieces ps (suc k) h.2.0 are.1 h.2.2 are.4 x)

    of_pieces : (ps : Pieces) (k : ℕ) (classes : List (List ℕ)) (cs : List Cycle) → AreEmittedFor n edges holds k classes ps → AreCyclesAmong edges count k ps cs
        → (x : Cycle) → In x cs → IsInside n x
    of_pieces no_pieces k classes cs h are x i = absurd (subst (In x) are i)
    of_pieces (piece p ps) k [] cs h are x i = absurd h
    of_pieces (piece p ps) k (c ∷ classes) cs h are x i =
        from_either x (In-append x are.0 are.1 (subst (In x) are.2 i)) (of_piece p k c are.0 h.0 are.3 x) (of_pieces ps k classes are.1 h.1 are.4 x)

pub cycles_are_inside : (n : Nest) (edges : List Edge) (holds : List Hold) (cs : List Cycle) → AreEdgesOf n edges → AreCyclesOf n edges holds cs → (c : Cycle) → In c cs → IsInside n c
cycles_are_inside n edges holds cs legal h c i = of_pieces n edges holds legal h.pieces 1 h.emitted.classes cs h.emitted.emitted h.cycles c i
