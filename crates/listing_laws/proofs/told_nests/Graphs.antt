-- The entries of a nest tell its graph, and a dropped candidate has no pair.
use Rattle.std.proofs.Common.{◌≡◌, refl, sym, ap, ◌∙◌, subst, ℕ, suc, List, [], ◌∷◌, ◌++◌, length, map, flat_map, append-nil}
use Rattle.std.specs.List.{AllByRecursion}
use Rattle.dependence_graph.specs.declared.graphs.Cycle.{Cycle}
use Rattle.dependence_graph.specs.declared.graphs.Dropped.{Dropped}
use Rattle.dependence_graph.specs.declared.graphs.Graph.{Graph}
use Rattle.dependence_graph.specs.declared.graphs.Hold.{Hold}
use Rattle.dependence_graph.specs.nest_graph.Graph.{IsGraphOf}
use Rattle.dependence_graph.specs.nest_graph.Pair.{HasPair}
use Rattle.dependence_graph.specs.nest_graph.Vectors.{StandsFor}
use Rattle.listing.specs.graphs.Lines.{DropEntry, Entry}
use Rattle.listing.specs.graphs.Listing.{cycle_entry, dependence_entries, drop_entry, entries_of, hold_entries, loop_entries, statement_entries}
use Rattle.listing_laws.proofs.notes.Printable.{joined}
use Rattle.listing_laws.proofs.told_nests.Each.{Gives, each_of, none, of_answers, of_cycles, of_holds, of_loops, of_statements, two}
use Rattle.listing_laws.proofs.told_nests.Reading.{IsToldDrop, IsToldEdge, IsWithoutPair, drops_read, edges_read, every_drop, every_edge}
use Rattle.listing_laws.specs.told_nests.Graphs.{drops_told, edges_told, graph_told, statements_told}
use Rattle.listing_laws.specs.told_nests.Laws.{GraphIsTold}
use Rattle.listing_laws.specs.told_nests.Nests.{candidate_told}
use Rattle.listing_laws.specs.told_nests.Parts.{IsEntryPart, begins_part}
use Rattle.meaning_laws.proofs.profiles.Lists.{all_weaker}
use Rattle.nest.specs.Bodies.{Standing, nest_statements}
use Rattle.nest.specs.Plain.{Nest}
use Rattle.std.specs.Prelude.{false}
use Rattle.subscripts.specs.declared.affine.Dir.{Dir}

same_graph : (g k : Graph) → g.stmts ≡ k.stmts → g.edges ≡ k.edges → g.dropped ≡ k.dropped → g ≡ k
same_graph g k a b c = (λ i. record { stmts = a i; edges = b i; dropped = c i })

numbered : (s : ℕ) (ts : List Standing) → length (flat_map statements_told (statement_entries s ts)) ≡ length ts
numbered s [] = refl
numbered s (t ∷ ts) = ap suc (numbered (suc s) ts)

-- what an entry tells that isn't so for no nest: a drop of what has a pair
abbrev pub IsSound : Nest → Entry → Type 0
IsSound n (DropEntry d w) = (v : List Dir) → StandsFor d.directions v → HasPair n (candidate_told d v) → ⊥
IsSound n e = Unit {0}

module _ (n : Nest) (number : ℕ) (g : Graph) (hs : List Hold) (cs : List Cycle) where
  abbrev ts : List Standing
  ts = nest_statements n

  abbrev loops : List Entry
  loops = loop_entries 0 n.body

  abbrev statements : List Entry
  statements = statement_entries 1 ts

  abbrev arcs : List Entry
  arcs = dependence_entries ts g

  abbrev last : List Entry
  last = hold_entries hs ++ map cycle_entry cs

  -- ---- what is picked

  -- of the entries behind the first one, where loops, holds and cycles give nothing
  picked : {X : Type 0} (pick : Entry → List X) (xs ys : List X) → Gives pick loops [] → Gives pick statements xs
      → Gives pick arcs ys → Gives pick last [] → Gives pick (loops ++ (statements ++ (arcs ++ last))) (xs ++ (ys ++ []))
  picked pick xs ys a b c d =
      two pick loops (statements ++ (arcs ++ last)) [] (xs ++ (ys ++ [])) a
      (two pick statements (arcs ++ last) xs (ys ++ []) b (two pick arcs last ys [] c d))

  statements_are : Gives statements_told (entries_of n number g hs cs) (flat_map statements_told statements)
  statements_are =
      picked statements_told (flat_map statements_told statements) []
      (none statements_told loops (of_loops (λ e. statements_told e ≡ []) (λ outer l. refl) 0 n.body)) refl
      (none statements_told arcs
      (of_answers (λ e. statements_told e ≡ []) ts (λ e. refl) g.edges g.dropped
      (each_of (λ (d : Dropped). statements_told (drop_entry d) ≡ []) (λ d. refl) g.dropped)))
      (none statements_told last
      (joined (λ e. statements_told e ≡ []) (hold_entries hs) (map cycle_entry cs)
      (of_holds (λ e. statements_told e ≡ []) (λ h. refl) hs) (of_cycles (λ e. statements_told e ≡ []) (λ c. refl) cs)))
      ∙ append-nil (flat_map statements_told statements)

  edges_are : AllByRecursion (IsToldEdge n) g.edges → Gives edges_told (entries_of n number g hs cs) g.edges
  edges_are all =
      picked edges_told [] g.edges
      (none edges_told loops (of_loops (λ e. edges_told e ≡ []) (λ outer l. refl) 0 n.body))
      (none edges_told statements (of_statements (λ e. edges_told e ≡ []) (λ s t. refl) 1 ts))
      (edges_read n g.edges g.dropped all)
      (none edges_told last
      (joined (λ e. edges_told e ≡ []) (hold_entries hs) (map cycle_entry cs)
      (of_holds (λ e. edges_told e ≡ []) (λ h. refl) hs) (of_cycles (λ e. edges_told e ≡ []) (λ c. refl) cs)))
      ∙ append-nil g.edges

  drops_are : AllByRecursion IsToldDrop g.dropped → Gives drops_told (entries_of n number g hs cs) g.dropped
  drops_are all =
      picked drops_told [] g.dropped
      (none drops_told loops (of_loops (λ e. drops_told e ≡ []) (λ outer l. refl) 0 n.body))
      (none drops_told statements (of_statements (λ e. drops_told e ≡ []) (λ s t. refl) 1 ts))
      (drops_read n g.edges g.dropped all)
      (none drops_told last
      (joined (λ e. drops_told e ≡ []) (hold_entries hs) (map cycle_entry cs)
      (of_holds (λ e. drops_told e ≡ []) (λ h. refl) hs) (of_cycles (λ e. drops_told e ≡ []) (λ c. refl) cs)))
      ∙ append-nil g.dropped

  -- ---- what holds of each

  -- it holds of all entries behind the first one, where it does of each kind
  each_behind : (P : Entry → Type 0) → AllByRecursion P loops → AllByRecursion P statements → AllByRecursion P arcs
      → AllByRecursion P last → AllByRecursion P (loops ++ (statements ++ (arcs ++ last)))
  each_behind P a b c d =
      joined P loops (statements ++ (arcs ++ last)) a (joined P statements (arcs ++ last) b (joined P arcs last c d))

  -- they are one part
  pub are_part : IsEntryPart (entries_of n number g hs cs)
  are_part = (
    refl,
    each_behind (λ e. begins_part e ≡ false) (of_loops (λ e. begins_part e ≡ false) (λ outer l. refl) 0 n.body)
        (of_statements (λ e. begins_part e ≡ false) (λ s t. refl) 1 ts)
        (of_answers (λ e. begins_part e ≡ false) ts (λ e. refl) g.edges g.dropped
        (each_of (λ (d : Dropped). begins_part (drop_entry d) ≡ false) (λ d. refl) g.dropped))
        (joined (λ e. begins_part e ≡ false) (hold_entries hs) (map cycle_entry cs)
        (of_holds (λ e. begins_part e ≡ false) (λ h. refl) hs) (of_cycles (λ e. begins_part e ≡ false) (λ c. refl) cs)),
  )

  module _ (is : IsGraphOf n g) where
    abbrev IsWhole : Dropped → Type 0
    IsWhole d = IsToldDrop d × IsWithoutPair n d

    drops_whole : AllByRecursion IsWhole g.dropped
    drops_whole = subst (AllByRecursion IsWhole) (sym is.dropped) (every_drop n is.couples is.each)

    pub graph_is : graph_told (entries_of n number g hs cs) ≡ g
    graph_is =
        same_graph (graph_told (entries_of n number g hs cs)) g
        (ap length statements_are ∙ (numbered 1 ts ∙ sym is.statements))
        (edges_are (subst (AllByRecursion (IsToldEdge n)) (sym is.edges) (every_edge n is.couples is.each)))
        (drops_are (all_weaker IsWhole IsToldDrop (λ d h. h.0) g.dropped drops_whole))

    pub are_sound : AllByRecursion (IsSound n) (entries_of n number g hs cs)
    are_sound = (
      tt,
      each_behind (IsSound n) (of_loops (IsSound n) (λ outer l. tt) 0 n.body)
          (of_statements (IsSound n) (λ s t. tt) 1 ts)
          (of_answers (IsSound n) ts (λ e. tt) g.edges g.dropped
          (all_weaker IsWhole (IsWithoutPair n) (λ d h. h.1) g.dropped drops_whole))
          (joined (IsSound n) (hold_entries hs) (map cycle_entry cs) (of_holds (IsSound n) (λ h. tt) hs)
          (of_cycles (IsSound n) (λ c. tt) cs)),
    )

pub graph_is_told : GraphIsTold
graph_is_told n number g holds cycles is = graph_is n number g holds cycles is
