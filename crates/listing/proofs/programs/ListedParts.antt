-- The edges, holds and cycles among the entries of a nest are those that it is listed by.
use Rattle.std.proofs.Common.{◌≡◌, refl, ap, ◌∙◌, ℕ, suc, None, List, [], ◌∷◌, ◌++◌, map, append-nil}
use mathlib.Core.Path.{ap₂}
use Rattle.std.specs.List.{flat_map}
use Rattle.std.proofs.lemmas.List.Concat.{flat_map-append}
use Rattle.dependence_graph.specs.declared.graphs.Cycle.{Cycle}
use Rattle.dependence_graph.specs.declared.graphs.Dropped.{Dropped}
use Rattle.dependence_graph.specs.declared.graphs.Edge.{Edge}
use Rattle.dependence_graph.specs.declared.graphs.Graph.{Graph}
use Rattle.dependence_graph.specs.declared.graphs.Hold.{Hold}
use Rattle.nest.specs.Bodies.{Standing, nest_statements}
use Rattle.nest.specs.Plain.{Branches, Choice, Jump, Label, Loop, Nest, Part, Parts, Run, Turns, branch, no_branches, no_parts, part}
use Rattle.listing.specs.graphs.Lines.{Entry}
use Rattle.listing.specs.graphs.Listing.{answer_entry, cycle_entry, dependence_entries, entries_of, hold_entries, loop_entries, loop_entries_in, loop_entries_under, loop_entry, statement_entries, statement_entry}
use Rattle.listing.specs.graphs.Order.{Answered, Found, RuledOut, entries_in_order, before, not_before}
use Rattle.listing.specs.programs.Causes.{cycle_listed, edge_listed, hold_listed, listed_cycles, listed_edges, listed_holds}

-- an edge without its directions and its pair
abbrev pub as_listed : Edge → Edge
as_listed e = record {
  from = e.from;
  to = e.to;
  kind = e.kind;
  array = e.array;
  dirs = record { len = 0; at = [] };
  level = e.level;
  test = e.test;
  pair = None;
}

-- ---- what isn't among loops and statements

module _ {X : Type 0} (pick : Entry → List X) (no_loop : (outer : ℕ) (l : Loop) → pick (loop_entry outer l) ≡ [])
    (no_statement : (s : ℕ) (t : Standing) → pick (statement_entry s t) ≡ []) where
  abbrev picked : List Entry → List X
  picked es = flat_map pick es

  apart : (xs ys : List Entry) → picked xs ≡ [] → picked (xs ++ ys) ≡ picked ys
  apart xs ys h = flat_map-append pick xs ys ∙ ap (λ us. us ++ picked ys) h

  mutual
    of_loops : (outer : ℕ) (p : Part) → picked (loop_entries outer p) ≡ []
    of_loops outer (Run s) = refl
    of_loops outer (Turns l ps) = ap (λ us. us ++ picked (loop_entries_in l.number ps)) (no_loop outer l) ∙ of_loops_in l.number ps
    of_loops outer (Choice bs ps) = apart (loop_entries_under outer bs) (loop_entries_in outer ps) (of_loops_under outer bs) ∙ of_loops_in outer ps
    of_loops outer (Label n) = refl
    of_loops outer (Jump n) = refl

    of_loops_in : (outer : ℕ) (ps : Parts) → picked (loop_entries_in outer ps) ≡ []
    of_loops_in outer no_parts = refl
    of_loops_in outer (part p ps) = apart (loop_entries outer p) (loop_entries_in outer ps) (of_loops outer p) ∙ of_loops_in outer ps

    of_loops_under : (outer : ℕ) (bs : Branches) → picked (loop_entries_under outer bs) ≡ []
    of_loops_under outer no_branches = refl
    of_loops_under outer (branch test ps bs) = apart (loop_entries_in outer ps) (loop_entries_under outer bs) (of_loops_in outer ps) ∙ of_loops_under outer bs

  of_statements : (s : ℕ) (ts : List Standing) → picked (statement_entries s ts) ≡ []
  of_statements s [] = refl
  of_statements s (t ∷ ts) = ap (λ us. us ++ picked (statement_entries (suc s) ts)) (no_statement s t) ∙ of_statements (suc s) ts

  -- so it is among dependences, holds and cycles
  of_entries : (n : Nest) (nest : ℕ) (g : Graph) (hs : List Hold) (cs : List Cycle) → picked (entries_of n nest g hs cs)
      ≡ pick (Rattle.listing.specs.graphs.Lines.NestEntry nest n.line) ++ (picked (dependence_entries (nest_statements n) g) ++ (picked (hold_entries hs) ++ picked (map cycle_entry cs)))
  of_entries n nest g hs cs =
      let ts = nest_statements n in
      let last = hold_entries hs ++ map cycle_entry cs in
      ap (λ us. pick (Rattle.listing.specs.graphs.Lines.NestEntry nest n.line) ++ us)
      (apart (loop_entries 0 n.body) (statement_entries 1 ts ++ (dependence_entries ts g ++ last)) (of_loops 0 n.body)
      ∙ (apart (statement_entries 1 ts) (dependence_entries ts g ++ last) (of_statements 1 ts)
      ∙ (flat_map-append pick (dependence_entries ts g) last ∙ ap (λ us. picked (dependence_entries ts g) ++ us) (flat_map-append pick (hold_entries hs) (map cycle_entry cs)))))

-- ---- edges

module _ (ts : List Standing) where
  abbrev edges_of : List Answered → List Edge
  edges_of xs = listed_edges (map (answer_entry ts) xs)

  no_drops : (ds : List Dropped) (rest : List Answered) → edges_of (map RuledOut ds ++ rest) ≡ edges_of rest
  no_drops [] rest = refl
  no_drops (d ∷ ds) rest = no_drops ds rest

  drops_none : (ds : List Dropped) → edges_of (map RuledOut ds) ≡ []
  drops_none [] = refl
  drops_none (d ∷ ds) = drops_none ds

  edges_are : (es : List Edge) (ds : List Dropped) → edges_of (entries_in_order es ds) ≡ map as_listed es
  edges_are [] ds = drops_none ds
  edges_are (e ∷ es) ds =
      no_drops (before e ds) (Found e ∷ entries_in_order es (not_before e ds)) ∙ ap (λ us. as_listed e ∷ us) (edges_are es (not_before e ds))

  holds_none : (xs : List Answered) → listed_holds (map (answer_entry ts) xs) ≡ []
  holds_none [] = refl
  holds_none (Found e ∷ xs) = holds_none xs
  holds_none (RuledOut d ∷ xs) = holds_none xs

  cycles_none : (xs : List Answered) → listed_cycles (map (answer_entry ts) xs) ≡ []
  cycles_none [] = refl
  cycles_none (Found e ∷ xs) = cycles_none xs
  cycles_none (RuledOut d ∷ xs) = cycles_none xs

edges_of_holds : (hs : List Hold) → listed_edges (hold_entries hs) ≡ []
edges_of_holds [] = refl
edges_of_holds (h ∷ hs) = edges_of_holds hs

edges_of_cycles : (cs : List Cycle) → listed_edges (map cycle_entry cs) ≡ []
edges_of_cycles [] = refl
edges_of_cycles (c ∷ cs) = edges_of_cycles cs

holds_are : (hs : List Hold) → listed_holds (hold_entries hs) ≡ hs
holds_are [] = refl
holds_are (h ∷ hs) = ap (λ us. h ∷ us) (holds_are hs)

holds_of_cycles : (cs : List Cycle) → listed_holds (map cycle_entry cs) ≡ []
holds_of_cycles [] = refl
holds_of_cycles (c ∷ cs) = holds_of_cycles cs

cycles_of_holds : (hs : List Hold) → listed_cycles (hold_entries hs) ≡ []
cycles_of_holds [] = refl
cycles_of_holds (h ∷ hs) = cycles_of_holds hs

cycles_are : (cs : List Cycle) → listed_cycles (map cycle_entry cs) ≡ cs
cycles_are [] = refl
cycles_are (c ∷ cs) = ap (λ us. c ∷ us) (cycles_are cs)

-- ---- of a nest

module _ (n : Nest) (nest : ℕ) (g : Graph) (hs : List Hold) (cs : List Cycle) where
  pub edges_listed : listed_edges (entries_of n nest g hs cs) ≡ map as_listed g.edges
  edges_listed =
      of_entries edge_listed (λ outer l. refl) (λ s t. refl) n nest g hs cs
      ∙ (ap₂ (λ us vs. us ++ vs) (edges_are (nest_statements n) g.edges g.dropped) (ap₂ (λ us vs. us ++ vs) (edges_of_holds hs) (edges_of_cycles cs))
      ∙ append-nil (map as_listed g.edges))

  pub holds_listed : listed_holds (entries_of n nest g hs cs) ≡ hs
  holds_listed =
      of_entries hold_listed (λ outer l. refl) (λ s t. refl) n nest g hs cs
      ∙ (ap₂ (λ us vs. us ++ vs) (holds_none (nest_statements n) (entries_in_order g.edges g.dropped)) (ap₂ (λ us vs. us ++ vs) (holds_are hs) (holds_of_cycles cs))
      ∙ append-nil hs)

  pub cycles_listed : listed_cycles (entries_of n nest g hs cs) ≡ cs
  cycles_listed =
      of_entries cycle_listed (λ outer l. refl) (λ s t. refl) n nest g hs cs
      ∙ ap₂ (λ us vs. us ++ vs) (cycles_none (nest_statements n) (entries_in_order g.edges g.dropped)) (ap₂ (λ us vs. us ++ vs) (cycles_of_holds hs) (cycles_are cs))
