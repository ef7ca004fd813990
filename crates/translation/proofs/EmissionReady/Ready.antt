-- A nest that can be tested has forms of its trips under all loops of a statement.
use Rattle.std.proofs.Common.{inl, inr, ◌⊎◌, sym, subst, ℕ, suc, ◌+◌, ◌<◌, ◌≤◌, Option, Some, None, List, [], ◌∷◌, length, get_or, arith}
use Rattle.std.specs.Prelude.{All, IsSomeAnd}
use Rattle.std.proofs.lemmas.Bool.{cases_lt}
use Rattle.std.proofs.lemmas.List.{get_or_past}
use Rattle.std.proofs.lemmas.List.Elements.{All-cons, All-nil}
use Rattle.emission.specs.emission_pieces.Nests.{loops_at}
use Rattle.emission.specs.graph_edges.Laws.{IsShallow}
use Rattle.emission.proofs.GraphEdges.Leading.{edges_lead}
use Rattle.emission.specs.nest_emission.Given.{HasLoopForms}
use Rattle.dependence_graph.specs.nest_graph.Ready.{HaveTrips, IsReady, IsReadyStatement, IsTripIn}
use Rattle.nest.specs.Bodies.{Standing, nest_statements}
use Rattle.nest.specs.Plain.{Loop, Nest}
use Rattle.nest.specs.declared.parts.Trip.{Trip}
use Rattle.array_form.specs.holds.Statements.{no_statement}
use Rattle.array_form.specs.holds.Surroundings.{known_trip}
use Rattle.subscripts.specs.Shapes.{IsForm}
use Rattle.subscripts.specs.declared.affine.Affine.{Affine}
use Rattle.translation.specs.emission_ready.Laws.{ReadyNestsMayBeEmitted}

deeper : (d m : ℕ) (a : Affine) → d ≤ m → IsForm d a → IsForm m a
deeper d m a more h = record {
  past_depth = λ k g. h.past_depth k (omega arith);
  symbols = h.symbols;
  small_loops = h.small_loops;
  small_symbols = h.small_symbols;
  small_constant = h.small_constant;
}

trip_form : (d m : ℕ) (t : Option Trip) → d ≤ m → IsSomeAnd t (IsTripIn d) → IsForm m (known_trip t).top
trip_form d m (Some t) more h = deeper d m t.top more h.top
trip_form d m None more h = absurd h

trip_forms : (d m : ℕ) (ls : List Loop) → d + length ls ≤ m → HaveTrips d ls → All (λ l. IsForm m (known_trip l.trip).top) ls
trip_forms d m [] more h = All-nil (λ (l : Loop). IsForm m (known_trip l.trip).top)
trip_forms d m (l ∷ ls) more h =
    All-cons (λ (l : Loop). IsForm m (known_trip l.trip).top) l ls (trip_form d m l.trip (omega arith) h.0) (trip_forms (suc d) m ls (omega arith) h.1)

loop_forms : (s : Standing) → IsReadyStatement s → HasLoopForms s
loop_forms s h = record { few = h.depth; trips = trip_forms 0 (length s.loops) s.loops (omega arith) h.trips }

shallow : (n : Nest) → IsReady n → IsShallow n
shallow n h s = by (cases_lt s (length (nest_statements n)))
  where
    by : (s < length (nest_statements n)) ⊎ (length (nest_statements n) ≤ s) → length (loops_at n s) ≤ 7
    by (inl g) = (h.statements s no_statement g).depth
    by (inr g) = subst (λ (x : Standing). length x.loops ≤ 7) (sym (get_or_past (nest_statements n) s no_statement g)) (omega arith)

pub ready_nests_may_be_emitted : ReadyNestsMayBeEmitted
ready_nests_may_be_emitted n g ready symbols graph = record {
  symbols = symbols;
  statements = λ k d h. loop_forms (get_or (nest_statements n) k d) (ready.statements k d h);
  count = graph.statements;
  edges = edges_lead n g (shallow n ready) graph;
}
