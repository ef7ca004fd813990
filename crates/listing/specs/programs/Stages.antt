-- The nests that passes make of a nest that was found, one after another. The last one is listed, and translated. Each
-- link is a relation between nests, on loops, trips and statements; what stands behind them is free.
use Rattle.std.specs.Prelude.{◌≡◌, ◌<◌, ◌^◌, ℕ, Option, None, Some, unwrap_or}
use Rattle.dependence_graph.specs.declared.graphs.Graph.{Graph}
use Rattle.dependence_graph.specs.nest_graph.Graph.{IsGraphOf}
use Rattle.if_convert.specs.Converted.{converted_nest}
use Rattle.inductions.specs.Nests.{inductions_substituted}
use Rattle.interchange.specs.Arranged.{arranged, vectors_of, with_moved_loops}
use Rattle.nest.specs.Plain.{Nest}
use Rattle.node_splitting.specs.Split.{IsSplitNest}
use Rattle.listing.specs.declared.programs.counts.Counts.{Counts}
use Rattle.listing.specs.programs.Counted.{AreCounted}
use Rattle.normal_loops.specs.Listed.{HasNormalLoops}
use Rattle.scalar_expand.specs.Expanded.{expanded}
use Rattle.scalar_rename.specs.Ranges.{HaveFewRanges}
use Rattle.scalar_rename.specs.Renamed.{renamed}
use Rattle.symbols_anew.specs.Nests.{with_symbols_found}

-- so many copies were made before the nest
abbrev pub with_copies_before : ℕ → Nest → Nest
with_copies_before copies n = record n { copies = copies }

-- By the graph g of the nest n reads of what is overwritten are copied: m is what it becomes, and h a graph of that.
-- Where nothing is copied, both stay
pub record IsSplitBy (n : Nest) (g : Graph) (m : Nest) (h : Graph) : Type 0 where
  pub new : Option Nest
  pub is : IsSplitNest n g new
  pub nest : m ≡ unwrap_or new n
  pub graph : IsGraphOf m h
  pub kept : new ≡ None → h ≡ g

-- what each pass makes
pub record Stages : Type 0 where
  -- loops go from 1 by 1
  pub normal : Nest
  -- masks stand for IFs, labels and jumps
  pub converted : Nest
  -- INTEGER scalars that get no value since then are symbols
  pub anew : Nest
  -- forms of the counter stand for inductions, scalars that grow by a constant in each turn of the outermost loop
  pub substituted : Nest
  -- each range of a scalar's values has a name of its own
  pub named : Nest
  -- arrays stand for private scalars; copies are counted from here
  pub expanded : Nest
  -- a graph of this one, by which reads are copied
  pub split_graph : Graph
  -- what is overwritten within a component is read from copies
  pub split : Nest
  -- a graph of this one, by which its loops are moved
  pub graph : Graph
  pub arranged : Nest

-- Each link: what a pass makes comes from what the passes before it made, and the first one from n. So many masks
-- and copies were made before in the program; with those of n there are at most 2^32-1 of each, and so many statements
-- and references. A scalar has at most 100,000 ranges, so that their names are short enough
pub record AreStagesOf (counts : Counts) (n : Nest) (k : Stages) : Type 0 where
  pub normal : HasNormalLoops n k.normal
  pub converted : converted_nest counts.masks k.normal ≡ Some k.converted
  pub is_anew : k.anew ≡ with_symbols_found k.normal k.converted
  pub is_substituted : k.substituted ≡ inductions_substituted k.anew
  pub is_named : k.named ≡ renamed k.substituted
  pub few : HaveFewRanges k.substituted
  pub is_expanded : k.expanded ≡ with_copies_before counts.copies (expanded k.named)
  pub is_split_graph : IsGraphOf k.expanded k.split_graph
  pub is_split : IsSplitBy k.expanded k.split_graph k.split k.graph
  pub is_arranged : k.arranged ≡ arranged k.split (vectors_of k.graph.edges)
  pub counted : k.arranged.masks < 2 ^ 32
  pub copied : k.arranged.copies < 2 ^ 32
  pub numbered : AreCounted k.arranged

abbrev pub last_stage : Stages → Nest
last_stage k = k.arranged

-- Of the nest that is made of k by the graph g this graph is listed: where no loop of k moves, it is g itself
abbrev pub IsLastGraph : Nest → Graph → Graph → Type 0
IsLastGraph k g last = with_moved_loops k (vectors_of g.edges) ≡ None → last ≡ g

-- m is the last of them
pub record IsListedFrom (counts : Counts) (n m : Nest) : Type 0 where
  pub stages : Stages
  pub are : AreStagesOf counts n stages
  pub last : m ≡ last_stage stages
