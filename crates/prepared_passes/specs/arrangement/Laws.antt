-- The nest with its loops moved does what the nest does.
use Rattle.std.specs.Prelude.{◌≡◌, ℕ, ◌≤◌, true, Some, None, List, [], length}
use Rattle.tree.specs.Plain.{no_statements, statement}
use Rattle.meaning.specs.Reads.{names_in}
use Rattle.meaning.specs.Run.{State, Going, does, does_all}
use Rattle.meaning.specs.Store.{Cell, Store}
use Rattle.rewrite.specs.Following as rewrite
use Rattle.rewrite.specs.Following.{RunFollows}
use Rattle.linear_forms.specs.Laws.{HoldsSized}
use Rattle.nest.specs.declared.parts.Trip.{Trip}
use Rattle.nest.specs.Blocks.{statement_of_part}
use Rattle.nest.specs.Bodies.{nest_loops}
use Rattle.nest.specs.Plain.{Loop, Nest, Part}
use Rattle.nest_order.specs.facts.Facts.{HasFacts}
use Rattle.nest_order.specs.orders.Lists.{In}
use Rattle.nest_order.specs.runs.Guarded.{sequential}
use Rattle.nest_order.specs.runs.Laws.{GoesOnNear}
use Rattle.nest_order.specs.runs.Stores.{HoldsNest, Setting}
use Rattle.nest_order.specs.shapes.Shapes.{IsPlain}
use Rattle.dependence_graph.specs.declared.graphs.Graph.{Graph}
use Rattle.dependence_graph.specs.nest_graph.Graph.{IsGraphOf}
use Rattle.dependence_graph.specs.nest_graph.Ready.{IsReady}
use Rattle.dependence_graph.specs.nest_graph.Spans.{spans_of}
use Rattle.emission.specs.emission_forms.Written.{HasFormFacts}
use Rattle.emission.specs.graph_orders.Nests.{run_nest}
use Rattle.interchange.specs.Arranged.{body_in, is_loop_free, in_order, free_trips_of, vectors_of}
use Rattle.interchange.specs.Chains.{Chain, chain_of, part_in_loops}
use Rattle.interchange.specs.Orders.{order_of}
use Rattle.interchange.specs.Reads.{read_own_elements}

-- a trip in which no loop's variable counts names symbols alone, as canonical text does
abbrev pub TripsNameSymbols : Nest → Type 0
TripsNameSymbols m =
    (l : Loop) (t : Trip) (x : List ℕ) → In l (nest_loops m) → l.trip ≡ Some t → is_loop_free t ≡ true
    → In x (names_in l.last) → In x m.symbols

-- the loops of the chain in the order that the edges ask for, round its statements as they are
abbrev pub moved_body : Nest → Graph → Chain → List Trip → Part
moved_body m g c trips =
    part_in_loops m.body
    (in_order c.loops (order_of trips (spans_of [] c.loops) (vectors_of g.edges) (length c.loops))) c.body

-- what is asked of the nest in its setting: that it has its facts, and is one whose loops may be moved
pub record MayMove (bits : ℕ) (m : Nest) (g : Graph) (c : Chain) (trips : List Trip) (w : Setting) : Type 0 where
  pub plain : IsPlain m.body
  pub ready : IsReady m
  pub graph : IsGraphOf m g
  pub facts : HasFacts bits (run_nest m) w
  pub forms : HasFormFacts m w
  pub names : TripsNameSymbols m
  pub chain : chain_of m.body ≡ Some c
  pub are : free_trips_of c.loops ≡ Some trips
  pub own : read_own_elements m ≡ true

-- where the nest's sequential run goes on, so does that of the nest with its loops moved, in the same store but for the
-- loop variables
abbrev pub MovedLoopsKeepMeaning : Type 0
MovedLoopsKeepMeaning =
    (bits : ℕ) (m : Nest) (g : Graph) (c : Chain) (trips : List Trip) (w : Setting) (s : State)
    → 31 ≤ bits → bits ≤ 63 → MayMove bits m g c trips w → HoldsNest bits (run_nest m) w s.store
    → (does (sequential bits) None (statement_of_part m.line m.body) s).way ≡ Going
    → GoesOnNear (run_nest m) (does (sequential bits) None (statement_of_part m.line m.body) s)
    (does_all (sequential bits) None
    (statement (statement_of_part m.line (moved_body m g c trips)) no_statements) s)

-- two stores that have all in common, each number of 64 bits; a run stores none of more than its own
pub record SameHeld (bits : ℕ) (s u : Store) : Type 0 where
  pub bounds : (x : List ℕ) → s.bounds x ≡ u.bounds x
  pub held : (c : Cell) → s.held c ≡ u.held c
  pub few : bits ≤ 63
  pub sized : HoldsSized u

-- The moved text is then brought into canonical text again: from stores that have all in common the nest does the same
abbrev pub CanonicalTextFollows : Type 0
CanonicalTextFollows = (bits : ℕ) (m : Nest) (c : Chain) (order : List ℕ)
    → IsPlain m.body → chain_of m.body ≡ Some c
    → RunFollows (rewrite.sequential bits) (SameHeld bits)
    (statement (statement_of_part m.line (part_in_loops m.body (in_order c.loops order) c.body)) no_statements)
    (statement (statement_of_part m.line (body_in m c order)) no_statements)
