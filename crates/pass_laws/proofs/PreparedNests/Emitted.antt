-- Prepared nests may be emitted from.
use Rattle.std.proofs.Common.{ℕ, suc, ◌+◌, ◌≤◌, Option, Some, None, List, [], ◌∷◌, length}
use Rattle.std.proofs.Common.{get_or, arith}
use Rattle.std.specs.Prelude.{All, IsSomeAnd}
use Rattle.std.proofs.lemmas.List.Elements.{All-cons, All-nil}
use Rattle.array_form.specs.holds.Surroundings.{known_trip}
use Rattle.dependence_graph.specs.nest_graph.Ready.{HaveTrips, IsReady, IsReadyStatement, IsTripIn}
use Rattle.emission.proofs.EmissionForms.WrittenTables.{ready_is_shallow}
use Rattle.emission.proofs.GraphEdges.Leading.{edges_lead}
use Rattle.emission.specs.nest_emission.Given.{HasLoopForms}
use Rattle.nest.specs.Bodies.{Standing, nest_statements}
use Rattle.nest.specs.Plain.{Loop}
use Rattle.nest.specs.declared.parts.Trip.{Trip}
use Rattle.subscripts.specs.Shapes.{IsForm}
use Rattle.subscripts.specs.declared.affine.Affine.{Affine}
use Rattle.pass_laws.specs.prepared_nests.Laws.{PreparedNestMayBeEmitted}
use Rattle.pass_laws.proofs.PreparedNests.Ready.{prepared_nest_is_ready}

deeper : (d m : ℕ) (a : Affine) → d ≤ m → IsForm d a → IsForm m a
deeper d m a more h = record {
  past_depth = λ k g. h.past_depth k (omega (arith, more, g));
  symbols = h.symbols;
  small_loops = h.small_loops;
  small_symbols = h.small_symbols;
  small_constant = h.small_constant;
}

trip_form : (d m : ℕ) (t : Option Trip) → d ≤ m → IsSomeAnd t (IsTripIn d) → IsForm m (known_trip t).top
trip_form d m (Some t) more h = deeper d m t.top more h.top
trip_form d m None more h = absurd h

trip_forms : (d m : ℕ) (ls : List Loop) → d + length ls ≤ m → HaveTrips d ls → All (λ l. IsForm m (known_trip l.trip).top) ls
trip_forms d m [] more h = All-nil (λ (l : Loop). IsForm m (known_trip l.trip).top)
trip_forms d m (l ∷ ls) more h =
    All-cons (λ (l : Loop). IsForm m (known_trip l.trip).top) l ls (trip_form d m l.trip (omega (arith, more)) h.0) (trip_forms (suc d) m ls (omega (arith, more)) h.1)

loop_forms : (s : Standing) → IsReadyStatement s → HasLoopForms s
loop_forms s h = record { few = h.depth; trips = trip_forms 0 (length s.loops) s.loops (omega arith) h.trips }

pub prepared_nest_may_be_emitted : PreparedNestMayBeEmitted
prepared_nest_may_be_emitted es around deepest m g are h graph =
    let ready : IsReady m = prepared_nest_is_ready es around deepest m are h in
    let few = h.parts.few in
    record {
      symbols = omega (arith, few);
      statements = λ k d i. loop_forms (get_or (nest_statements m) k d) (ready.statements k d i);
      count = graph.statements;
      edges = edges_lead m g (ready_is_shallow m ready) graph;
    }
