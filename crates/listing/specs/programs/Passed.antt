-- What the passes make of a nest that was found, which both commands list and by which one of them translates.
use Rattle.std.specs.Prelude.{◌≡◌, ◌<◌, ◌^◌, ℕ, Some, map}
use Rattle.dependence_graph.specs.declared.graphs.Graph.{Graph}
use Rattle.dependence_graph.specs.nest_graph.Graph.{IsGraphOf}
use Rattle.f90_print.specs.Notes.{line_text}
use Rattle.if_convert.specs.Converted.{converted_nest}
use Rattle.inductions.specs.Nests.{inductions_substituted}
use Rattle.interchange.specs.Arranged.{arranged, vectors_of}
use Rattle.nest.specs.Plain.{Nest}
use Rattle.nest.specs.View.{nest_of}
use Rattle.normal_loops.specs.Normalised.{normalised}
use Rattle.scalar_expand.specs.Expanded.{expanded}
use Rattle.scalar_rename.specs.Ranges.{HaveFewRanges}
use Rattle.scalar_rename.specs.Renamed.{renamed}
use Rattle.symbols_anew.specs.Nests.{with_symbols_found}
use Rattle.listing.specs.declared.programs.counts.Counts.{Counts}
use Rattle.listing.specs.declared.programs.nests.Passed.{Passed}
use Rattle.listing.specs.programs.Counted.{AreCounted}
use Rattle.listing.specs.programs.Stages.{IsLastGraph, IsSplitBy, with_copies_before}
use Rattle.listing.specs.programs.Testable.{AreTestsOf}

-- The nest k is made of one with loops from 1 by 1, where so many masks were made before in the program: its IFs,
-- labels and jumps are masks, and what isn't written any more is among its symbols
abbrev pub IsAnewOf : ℕ → Nest → Nest → Type 0
IsAnewOf masks normal k =
    (converted : Nest) × (converted_nest masks normal ≡ Some converted) × (k ≡ with_symbols_found normal converted)

-- of that one the nest k, in which forms of the counter stand for inductions
abbrev pub IsSubstitutedOf : ℕ → Nest → Nest → Type 0
IsSubstitutedOf masks normal k = (anew : Nest) × IsAnewOf masks normal anew × (k ≡ inductions_substituted anew)

-- of that one the nest k, in which each range of a scalar's values has a name of its own
abbrev pub IsUnexpanded : ℕ → Nest → Nest → Type 0
IsUnexpanded masks normal k =
    (substituted : Nest) × IsSubstitutedOf masks normal substituted × (k ≡ renamed substituted)
    × HaveFewRanges substituted

-- and of that one the nest m, whose private scalars are arrays
abbrev pub IsExpandedOf : ℕ → Nest → Nest → Type 0
IsExpandedOf masks normal m = (k : Nest) × IsUnexpanded masks normal k × (m ≡ expanded k)

-- of that one the nest m with its graph h, in which reads are copied by a graph of the nest before
pub record IsSplitOf (counts : Counts) (normal m : Nest) (h : Graph) : Type 0 where
  pub expanded : Nest
  pub is_expanded : IsExpandedOf counts.masks normal expanded
  pub split_graph : Graph
  pub is_split_graph : IsGraphOf (with_copies_before counts.copies expanded) split_graph
  pub is_split : IsSplitBy (with_copies_before counts.copies expanded) split_graph m h

-- Of the nest k loops are moved by this graph of it. What is made is in r, with its tests under this number
pub record IsArrangedAs (number : ℕ) (k : Nest) (g : Graph) (r : Passed) : Type 0 where
  pub is_arranged : nest_of r.nest.value ≡ arranged k (vectors_of g.edges)
  pub kept : IsLastGraph k g r.tests.graph
  pub tests : AreTestsOf number (nest_of r.nest.value) r.tests.graph r.tests.holds (map line_text r.tests.lines)

-- So is m made of n, whose loops go from 1 by 1 first: a nest for each pass, and the link to the nest before; last
-- reads are copied by a graph, and loops are moved by one. Its statements and references are counted, and so are all
-- masks and copies of the program so far and the ranges of each scalar
pub record IsPassedAs (counts : Counts) (n m : Nest) : Type 0 where
  pub normal : Nest
  pub made : normalised n ≡ Some normal
  pub converted : Nest
  pub is_converted : converted_nest counts.masks normal ≡ Some converted
  pub anew : Nest
  pub is_anew : anew ≡ with_symbols_found normal converted
  pub substituted : Nest
  pub is_substituted : substituted ≡ inductions_substituted anew
  pub named : Nest
  pub is_named : named ≡ renamed substituted
  pub few : HaveFewRanges substituted
  pub split_graph : Graph
  pub is_split_graph : IsGraphOf (with_copies_before counts.copies (expanded named)) split_graph
  pub split : Nest
  pub graph : Graph
  pub is_split : IsSplitBy (with_copies_before counts.copies (expanded named)) split_graph split graph
  pub is_arranged : m ≡ arranged split (vectors_of graph.edges)
  pub counted : m.masks < 2 ^ 32
  pub copied : m.copies < 2 ^ 32
  pub numbered : AreCounted m

-- with its tests, under the number of the nest as it was found
pub record IsPassed (counts : Counts) (n : Nest) (r : Passed) : Type 0 where
  pub passed : IsPassedAs counts n (nest_of r.nest.value)
  pub kept : IsLastGraph passed.split passed.graph r.tests.graph
  pub tests : AreTestsOf n.number (nest_of r.nest.value) r.tests.graph r.tests.holds (map line_text r.tests.lines)
