-- What is listed of any prepared nest.
use Rattle.std.specs.Prelude.{◌≡◌, ℕ, ◌^◌, ◌<◌, ◌≤◌, Some, All, List, length, map}
use Rattle.std.specs.List.{AllByRecursion}
use Rattle.dependence_graph.specs.declared.graphs.Graph.{Graph}
use Rattle.dependence_graph.specs.nest_graph.Graph.{IsGraphOf}
use Rattle.dependence_graph.specs.nest_graph.References.{references_of}
use Rattle.f90_grammar.specs.PrintedText.{IsNote}
use Rattle.listing.specs.graphs.Listing.{lines_of_entries}
use Rattle.listing.specs.graphs.Lines.{Entry}
use Rattle.listing.specs.programs.Listing.{HasCycleEntries}
use Rattle.listing_laws.specs.reader.Reader.{read_listing}
use Rattle.meaning.specs.Profile90.{AreDeclarations}
use Rattle.nest.specs.Bodies.{Standing, nest_statements}
use Rattle.nest.specs.Plain.{Nest}
use Rattle.pass_laws.specs.prepared_nests.Nests.{IsPrepared}
use Rattle.tree.specs.Plain.{Declaration}

-- by a graph of it, its lines may stand as notes before a printed program
abbrev pub PreparedNestIsPrintable : Type 0
PreparedNestIsPrintable = (es : List Declaration) (around : List (List ℕ)) (deepest : ℕ) (m : Nest) (number : ℕ)
    (g : Graph) (entries : List Entry) → AreDeclarations es → IsPrepared es around deepest m → IsGraphOf m g
    → HasCycleEntries number m g entries → AllByRecursion IsNote (lines_of_entries entries)

-- statements and references have numbers that a listing shows whole
pub record AreCounted (m : Nest) : Type 0 where
  pub statements : length (nest_statements m) ≤ 2 ^ 40
  pub references : All (λ (x : Standing). length (references_of x) ≤ 2 ^ 63) (nest_statements m)

-- and from them its entries are read
abbrev pub PreparedNestIsTidy : Type 0
PreparedNestIsTidy = (es : List Declaration) (around : List (List ℕ)) (deepest : ℕ) (m : Nest) (number : ℕ)
    (g : Graph) (entries : List Entry) → AreDeclarations es → IsPrepared es around deepest m → AreCounted m
    → number < 2 ^ 63 → IsGraphOf m g → HasCycleEntries number m g entries
    → read_listing (lines_of_entries entries) ≡ map Some entries
