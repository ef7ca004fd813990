-- What a listing says of a nest of a program can be listed.
use Rattle.std.proofs.Common.{refl, sym, subst, ℕ, zero, suc, ◌+◌, ◌<◌, ◌≤◌, ◌^◌, Bool, true, false, cond, Option, Some}
use Rattle.std.proofs.Common.{None, List, [], ◌∷◌, ◌++◌, map, length, arith, flat_map}
use Rattle.std.proofs.lemmas.Bool.{cases_lt}
use Rattle.std.proofs.lemmas.List.{get_or_past}
use Rattle.std.specs.List.{AllByRecursion}
use Rattle.std.specs.Prelude.{◌⊎◌, ◌-◌, slice_index_or}
use Rattle.std.proofs.Common.{inl, inr}
use Rattle.components.specs.Lists.{Each}
use Rattle.dependence_graph.specs.declared.graphs.Cycle.{Cycle}
use Rattle.dependence_graph.specs.declared.graphs.Dropped.{Dropped}
use Rattle.dependence_graph.specs.declared.graphs.Edge.{Edge}
use Rattle.dependence_graph.specs.declared.graphs.Graph.{Graph}
use Rattle.dependence_graph.specs.declared.graphs.Hold.{Hold}
use Rattle.dependence_graph.specs.declared.graphs.HoldReason.{HoldReason}
use Rattle.meaning.specs.ArrayValues.{counted}
use Rattle.emission.proofs.EmissionCauses.Inside.{IsInside, cycles_are_inside}
use Rattle.emission.proofs.EmissionForms.WrittenTables.{ready_is_shallow}
use Rattle.emission.proofs.GraphEdges.Leading.{edges_lead}
use Rattle.emission.specs.emission_pieces.Cycles.{AreCyclesOf}
use Rattle.emission.specs.emission_pieces.Edges.{AreEdgesOf}
use Rattle.emission.specs.graph_edges.Laws.{IsShallow}
use Rattle.listing.specs.graphs.Lines.{Entry}
use Rattle.listing.specs.graphs.Listing.{loop_entries, loop_entries_in, loop_entries_under}
use Rattle.listing.specs.graphs.Listing.{statement_entries, answer_entry, edge_entry, dependence_entries}
use Rattle.listing.specs.graphs.Listing.{cycle_entry, hold_entries}
use Rattle.listing.specs.graphs.Order.{Answered, Found, RuledOut, comes_before_edge, before, not_before, entries_in_order}
use Rattle.listing_laws.proofs.notes.Printable.{joined}
use Rattle.listing_laws.specs.reader.Listable.{IsSmall, IsListable, IsListableHold}
use Rattle.dependence_graph.specs.nest_graph.Graph.{IsGraphOf}
use Rattle.dependence_graph.specs.nest_graph.Ready.{IsReady}
use Rattle.nest_order.specs.orders.Lists.{In}
use Rattle.nest.specs.Bodies.{Standing, nest_statements, statement_number}
use Rattle.nest.specs.Plain.{Loop, Nest, Part, Run, Turns, Choice, Label, Jump, Parts, no_parts, part, Branches}
use Rattle.nest.specs.Plain.{no_branches, branch}
use Rattle.pass_laws.proofs.NormalFacts.LoopWalk.{EachLoop, EachLoopIn, EachLoopUnder}
use Rattle.listing.specs.programs.Listing.{tested_entries}
use Rattle.array_form.specs.holds.Bounds.{is_safe}
use Rattle.array_form.specs.holds.Holds.{all_holds, hold_at_level, hold_of, hold_with, holds_of, hold_reason_of}
use Rattle.array_form.specs.holds.Statements.{no_statement, statement_at, surroundings_at}
use Rattle.listing_laws.proofs.read_back.Arcs.{IsListableDrop, graph_edges, graph_drops}
use Rattle.listing_laws.proofs.read_back.Made.{IsTidy, IsTidyIn, IsTidyNest}

abbrev pub AreListable : List Entry → Type 0
AreListable es = AllByRecursion IsListable es

several : (es fs : List Entry) → AreListable es → AreListable fs → AreListable (es ++ fs)
several = joined IsListable

-- ---- loops and statements

mutual
  loops : (round : List Loop) (outer : ℕ) (p : Part) → IsSmall outer → EachLoop IsTidyIn round p
      → AreListable (loop_entries outer p)
  loops round outer (Run s) o h = tt
  loops round outer (Turns l ps) o h =
      ((h.0.number, (h.0.variable, o)), loops_in (round ++ l ∷ []) l.number ps h.0.number h.1)
  loops round outer (Choice bs ps) o h =
      several (loop_entries_under outer bs) (loop_entries_in outer ps) (loops_under round outer bs o h.0)
      (loops_in round outer ps o h.1)
  loops round outer (Label n) o h = tt
  loops round outer (Jump n) o h = tt

  loops_in : (round : List Loop) (outer : ℕ) (ps : Parts) → IsSmall outer → EachLoopIn IsTidyIn round ps
      → AreListable (loop_entries_in outer ps)
  loops_in round outer no_parts o h = tt
  loops_in round outer (part p ps) o h = several (loop_entries outer p) (loop_entries_in outer ps)
      (loops round outer p o h.0) (loops_in round outer ps o h.1)

  loops_under : (round : List Loop) (outer : ℕ) (bs : Branches) → IsSmall outer → EachLoopUnder IsTidyIn round bs
      → AreListable (loop_entries_under outer bs)
  loops_under round outer no_branches o h = tt
  loops_under round outer (branch test ps bs) o h =
      several (loop_entries_in outer ps) (loop_entries_under outer bs) (loops_in round outer ps o h.0)
      (loops_under round outer bs o h.1)

statements : (s : ℕ) (ts : List Standing) → s + length ts ≤ 2 ^ 41 → AllByRecursion IsTidy ts
    → AreListable (statement_entries s ts)
statements s [] l h = tt
statements s (t ∷ ts) l h = ((omega (arith, l), h.0.loops), statements (suc s) ts (omega (arith, l)) h.1)

-- ---- edges and drops

abbrev AreDrops : List Dropped → Type 0
AreDrops ds = AllByRecursion IsListableDrop ds

drops_before : (e : Edge) (ds : List Dropped) → AreDrops ds → AreDrops (before e ds)
drops_before e [] h = tt
drops_before e (d ∷ ds) h = by (comes_before_edge d e) (drops_before e ds h.1)
  where
    by : (b : Bool) → AreDrops (before e ds) → AreDrops (cond b (d ∷ before e ds) [])
    by true more = (h.0, more)
    by false more = tt

drops_behind : (e : Edge) (ds : List Dropped) → AreDrops ds → AreDrops (not_before e ds)
drops_behind e [] h = tt
drops_behind e (d ∷ ds) h = by (comes_before_edge d e) (drops_behind e ds h.1)
  where
    by : (b : Bool) → AreDrops (not_before e ds) → AreDrops (cond b (not_before e ds) (d ∷ ds))
    by true more = more
    by false more = h

module _ (ts : List Standing) where
  abbrev HasEntry : Answered → Type 0
  HasEntry a = IsListable (answer_entry ts a)

  abbrev HasEdge : Edge → Type 0
  HasEdge e = IsListable (edge_entry ts e)

  ruled_out : (ds : List Dropped) → AreDrops ds → AllByRecursion HasEntry (map RuledOut ds)
  ruled_out [] h = tt
  ruled_out (d ∷ ds) h = (h.0, ruled_out ds h.1)

  answers : (es : List Edge) (ds : List Dropped) → AllByRecursion HasEdge es → AreDrops ds
      → AllByRecursion HasEntry (entries_in_order es ds)
  answers [] ds h k = ruled_out ds k
  answers (e ∷ es) ds h k =
      joined HasEntry (map RuledOut (before e ds)) (Found e ∷ entries_in_order es (not_before e ds))
      (ruled_out (before e ds) (drops_before e ds k))
      (h.0, answers es (not_before e ds) h.1 (drops_behind e ds k))

  each_answer : (xs : List Answered) → AllByRecursion HasEntry xs → AreListable (map (answer_entry ts) xs)
  each_answer [] h = tt
  each_answer (a ∷ xs) h = (h.0, each_answer xs h.1)

-- ---- holds

abbrev AreHolds : List Hold → Type 0
AreHolds hs = AllByRecursion IsListableHold hs

held : (s k : ℕ) (o : Option HoldReason) → IsSmall s → IsSmall k → AreHolds (hold_with s k o)
held s k None h l = tt
held s k (Some r) h l = (record { statement = h; level = l }, tt)

-- what comes of each of n numbers from k on
from_each : (f : ℕ → List Hold) (most k n : ℕ) → k + n ≤ most → ((j : ℕ) → j < most → AreHolds (f j))
    → AreHolds (flat_map f (counted k n))
from_each f most k zero l h = tt
from_each f most k (suc n) l h =
    joined IsListableHold (f k) (flat_map f (counted (k + 1) n)) (h k (omega (arith, l)))
    (from_each f most (k + 1) n (omega (arith, l)) h)

module _ (m : Nest) (ready : IsReady m) where
  shallow : (k : ℕ) → length (slice_index_or (nest_statements m) k no_statement).loops ≤ 7
  shallow k = by (cases_lt k (length (nest_statements m)))
    where
      by : (k < length (nest_statements m)) ⊎ (length (nest_statements m) ≤ k)
          → length (slice_index_or (nest_statements m) k no_statement).loops ≤ 7
      by (inl g) = (ready.statements k no_statement g).depth
      by (inr g) =
          subst (λ (x : Standing). length x.loops ≤ 7) (sym (get_or_past (nest_statements m) k no_statement g))
          (omega arith)

  holds_at : (s : ℕ) → IsSmall s → AreHolds (holds_of m s)
  holds_at s h =
      let few = shallow (s - 1) in
      let x = statement_at m s in
      from_each (hold_at_level s (surroundings_at m s) x.statement.guard x.statement.left (is_safe m x)) 8 1
      (length x.loops) (omega (arith, few)) (λ j l. held s j (hold_reason_of (hold_of m x j)) h (omega (arith, l)))

  every_hold : length (nest_statements m) ≤ 2 ^ 40 → AreHolds (all_holds m)
  every_hold few = from_each (holds_of m) (2 ^ 41) 1 (length (nest_statements m)) (omega (arith, few))
      (λ j l. holds_at j (omega (arith, l)))

hold_list : (hs : List Hold) → AreHolds hs → AreListable (hold_entries hs)
hold_list [] h = tt
hold_list (x ∷ hs) h = (h.0, hold_list hs h.1)

-- ---- all entries of a nest

-- ---- cycles

-- over statements of a nest, at levels of its loops
cycle_list : (m : Nest) (cs : List Cycle) → IsShallow m → length (nest_statements m) ≤ 2 ^ 40 → ((c : Cycle) → In c cs → IsInside m c)
    → AreListable (map cycle_entry cs)
cycle_list m [] shallow few of = tt
cycle_list m (c ∷ cs) shallow few of = (one (of c (inl refl)), cycle_list m cs shallow few (λ x i. of x (inr i)))
  where
    small : (walk : List ℕ) → Each (λ s. s < length (nest_statements m)) walk → AllByRecursion IsSmall (map statement_number walk)
    small [] h = tt
    small (s ∷ walk) h =
        let most : length (nest_statements m) ≤ 1099511627776 = few in
        let inside = h.0 in
        (omega (arith, inside, most), small walk h.1)

    one : IsInside m c → IsListable (cycle_entry c)
    one h =
        let deep = h.deep in
        let seven = shallow h.statement in
        (omega (arith, deep, seven), subst (AllByRecursion IsSmall) (sym h.is) (small h.walk h.below))

pub nest_listable : (m : Nest) (number : ℕ) (g : Graph) (cs : List Cycle) → IsSmall number → IsSmall m.line → IsReady m → IsTidyNest m
    → length (nest_statements m) ≤ 2 ^ 40 → IsGraphOf m g → AreCyclesOf m g.edges (all_holds m) cs
    → AreListable (tested_entries number m g cs)
nest_listable m number g cs a b ready tidy few h cycles =
    let legal : AreEdgesOf m g.edges = edges_lead m g (ready_is_shallow m ready) h in
    let ts = nest_statements m in
    let last = hold_entries (all_holds m) ++ map cycle_entry cs in
    let arcs = dependence_entries ts g ++ last in
    let behind = statement_entries 1 ts ++ arcs in (
      (a, b),
      several (loop_entries 0 m.body) behind (loops [] 0 m.body (omega arith) tidy.loops)
          (several (statement_entries 1 ts) arcs (statements 1 ts (omega (arith, few)) tidy.statements)
          (several (dependence_entries ts g) last
          (each_answer ts (entries_in_order g.edges g.dropped)
          (answers ts g.edges g.dropped (graph_edges m ready tidy few g h) (graph_drops m ready tidy few g h)))
          (several (hold_entries (all_holds m)) (map cycle_entry cs) (hold_list (all_holds m) (every_hold m ready few))
          (cycle_list m cs (ready_is_shallow m ready) few (cycles_are_inside m g.edges (all_holds m) cs legal cycles))))),
    )
