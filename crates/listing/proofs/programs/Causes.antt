-- The loops of the nests that are listed have causes.
use Rattle.std.proofs.Common.{ℕ, List, [], ◌∷◌, Contains, map, sym, subst}
use Rattle.array_form.specs.holds.Holds.{all_holds}
use Rattle.components.specs.Lists.{Distinct}
use Rattle.dependence_graph.specs.declared.graphs.Cycle.{Cycle}
use Rattle.dependence_graph.specs.declared.graphs.Edge.{Edge}
use Rattle.dependence_graph.specs.declared.graphs.Graph.{Graph}
use Rattle.dependence_graph.specs.declared.graphs.Hold.{Hold}
use Rattle.dependence_graph.specs.nest_graph.Graph.{IsGraphOf}
use Rattle.emission.proofs.EmissionCauses.Causes.{loops_have_causes}
use Rattle.emission.proofs.EmissionForms.WrittenTables.{ready_is_shallow}
use Rattle.emission.proofs.GraphEdges.Leading.{edges_lead}
use Rattle.emission.specs.emission_causes.Causes.{HaveCauses}
use Rattle.emission.specs.emission_pieces.Cycles.{AreCyclesOf}
use Rattle.find_nests.specs.Found.{Found, InNest, Kept, found_in}
use Rattle.meaning.specs.Dialect.{fortran77}
use Rattle.tree.specs.declared.width.Width.{Width}
use Rattle.meaning.specs.Profile77.{IsProgram77}
use Rattle.meaning_laws.proofs.profiles.Lists.{here, there}
use Rattle.nest.specs.Bodies.{loops_of}
use Rattle.nest.specs.Plain.{Nest}
use Rattle.nest_order.specs.shapes.Shapes.{IsPlain, numbers_of}
use Rattle.tree.specs.Plain.{Program}
use Rattle.listing.proofs.programs.CausesByEntries.{causes_by_entries}
use Rattle.listing.proofs.programs.ListedParts.{as_listed, cycles_listed, edges_listed, holds_listed}
use Rattle.listing.proofs.programs.Sources.{listed_nest_is_testable, prepared_for}
use Rattle.listing.proofs.programs.Stages.{listed_is_made}
use Rattle.listing.specs.declared.programs.counts.Counts.{Counts}
use Rattle.listing.specs.graphs.Lines.{Entry}
use Rattle.listing.specs.programs.Causes.{AreCaused, listed_cycles, listed_edges, listed_holds}
use Rattle.listing.specs.programs.Laws.{ListedNestsHaveCauses}
use Rattle.listing.specs.programs.Listing.{HasCycleEntries, HaveEntries, counts_of, no_counts, tested_entries}
use Rattle.listing.specs.programs.Stages.{IsListedFrom}

module _ (width : Width) (p : Program) (is : IsProgram77 (fortran77 width) p) where
  have_causes : (counts : Counts) (n m : Nest) (g : Graph) (cs : List Cycle) → Contains (found_in p) (InNest n) → IsListedFrom counts n m
      → IsGraphOf m g → AreCyclesOf m g.edges (all_holds m) cs → HaveCauses m g.edges (all_holds m) cs
  have_causes counts n m g cs c listed graph cycles =
      let w = listed_is_made counts n m listed in
      let prepared = prepared_for width p counts n w.nest is c w.made in
      let shallow = ready_is_shallow m (listed_nest_is_testable width p counts n m is c listed) in
      loops_have_causes m g.edges (all_holds m) cs (subst (λ (k : Nest). IsPlain k.body) (sym w.same) prepared.plain)
      (subst (λ (k : Nest). Distinct (numbers_of (loops_of k.body))) (sym w.same) prepared.parts.once)
      (edges_lead m g shallow graph) cycles

  -- by the entries
  listed_causes : (number : ℕ) (m : Nest) (g : Graph) (es : List Entry) (h : HasCycleEntries number m g es) → HaveCauses m g.edges (all_holds m) h.cycles
      → HaveCauses m (listed_edges es) (listed_holds es) (listed_cycles es)
  listed_causes number m g es h causes =
      let entries = tested_entries number m g h.cycles in
      subst (λ (xs : List Entry). HaveCauses m (listed_edges xs) (listed_holds xs) (listed_cycles xs)) (sym h.entries_are)
      (subst (λ (xs : List Edge). HaveCauses m xs (listed_holds entries) (listed_cycles entries)) (sym (edges_listed m number g (all_holds m) h.cycles))
      (subst (λ (xs : List Hold). HaveCauses m (map as_listed g.edges) xs (listed_cycles entries)) (sym (holds_listed m number g (all_holds m) h.cycles))
      (subst (λ (xs : List Cycle). HaveCauses m (map as_listed g.edges) (all_holds m) xs) (sym (cycles_listed m number g (all_holds m) h.cycles))
      (causes_by_entries g.edges m (all_holds m) h.cycles causes))))

  all_caused : (counts : Counts) (fs : List Found) (es : List Entry) → ((f : Found) → Contains fs f → Contains (found_in p) f)
      → (h : HaveEntries counts fs es) → AreCaused counts fs es h
  all_caused counts [] es c h = tt
  all_caused counts (InNest n ∷ fs) es c h = (
    listed_causes n.number h.3.0 h.3.2.0 h.0 h.3.2.2
        (have_causes counts n h.3.0 h.3.2.0 h.3.2.2.cycles (c (InNest n) (here (InNest n) fs)) h.3.1 h.3.2.1 h.3.2.2.cycles_are),
    all_caused (counts_of h.3.0) fs h.1 (λ g i. c g (there (InNest n) fs g i)) h.4,
  )
  all_caused counts (Kept line r ∷ fs) es c h =
      all_caused counts fs h.1 (λ g i. c g (there (Kept line r) fs g i)) h.4

pub listed_nests_have_causes : (width : Width) → ListedNestsHaveCauses width
listed_nests_have_causes width p lines is l = all_caused width p is no_counts (found_in p) l.entries (λ f c. c) l.are
