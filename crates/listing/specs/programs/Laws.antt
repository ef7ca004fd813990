-- A nest that is listed with a graph can be tested, and has neither private scalars nor inductions.
use Rattle.std.specs.Prelude.{◌≡◌, ◌<◌, ◌^◌, ℕ, Some, Contains, List}
use Rattle.tree.specs.Plain.{Program}
use Rattle.meaning.specs.Dialect.{fortran77}
use Rattle.tree.specs.declared.width.Width.{Width}
use Rattle.meaning.specs.Profile77.{IsProgram77}
use Rattle.dependence_graph.specs.declared.graphs.Graph.{Graph}
use Rattle.dependence_graph.specs.nest_graph.Graph.{IsGraphOf}
use Rattle.dependence_graph.specs.nest_graph.Ready.{IsReady}
use Rattle.find_nests.specs.Found.{InNest, found_in}
use Rattle.if_convert.specs.Converted.{converted_nest}
use Rattle.interchange.specs.Arranged.{arranged, vectors_of}
use Rattle.nest.specs.Plain.{Nest}
use Rattle.normal_loops.specs.Listed.{HasNormalLoops}
use Rattle.scalar_expand.specs.Expanded.{expanded}
use Rattle.scalar_rename.specs.Ranges.{HaveFewRanges}
use Rattle.prepared_passes.specs.expansion.Unexpanded.{substituted, unexpanded}
use Rattle.listing.specs.declared.programs.counts.Counts.{Counts}
use Rattle.listing.specs.programs.Causes.{AreCaused}
use Rattle.listing.specs.programs.Counted.{AreCounted}
use Rattle.listing.specs.programs.Inductions.{AreSubstituted}
use Rattle.listing.specs.programs.Listing.{IsListing, no_counts}
use Rattle.listing.specs.programs.Private.{AreExpanded}
use Rattle.listing.specs.programs.Stages.{IsListedFrom, IsSplitBy, with_copies_before}

-- the nest that is made of one of a program of FORTRAN 77, after so many masks and copies
abbrev pub ListedNestIsTestable : (width : Width) → Type 0
ListedNestIsTestable width = (p : Program) (counts : Counts) (n m : Nest) → IsProgram77 (fortran77 width) p
    → Contains (found_in p) (InNest n) → IsListedFrom counts n m → IsReady m

-- a nest whose loops can be listed, and for which masks and copies can be made, is listed with these loops and
-- statements, where reads are copied by any graph of it, and loops are moved by any graph of that one, where no scalar
-- has too many ranges
abbrev pub LoopsAreListed : Type 0
LoopsAreListed = (counts : Counts) (n m k s : Nest) (f g : Graph) → HasNormalLoops n m
    → converted_nest counts.masks m ≡ Some k → k.masks < 2 ^ 32 → HaveFewRanges (substituted m k)
    → IsGraphOf (with_copies_before counts.copies (expanded (unexpanded m k))) f
    → IsSplitBy (with_copies_before counts.copies (expanded (unexpanded m k))) f s g → s.copies < 2 ^ 32
    → AreCounted (arranged s (vectors_of g.edges)) → IsListedFrom counts n (arranged s (vectors_of g.edges))

-- its private scalars are arrays, in each listing of a program of FORTRAN 77
abbrev pub ListedNestsAreExpanded : (width : Width) → Type 0
ListedNestsAreExpanded width = (p : Program) (lines : List (List ℕ)) → IsProgram77 (fortran77 width) p
    → (l : IsListing p lines)
    → AreExpanded no_counts (found_in p) l.entries l.are

-- its inductions aren't written, in each listing of a program of FORTRAN 77
abbrev pub ListedNestsAreSubstituted : (width : Width) → Type 0
ListedNestsAreSubstituted width = (p : Program) (lines : List (List ℕ)) → IsProgram77 (fortran77 width) p
    → (l : IsListing p lines)
    → AreSubstituted no_counts (found_in p) l.entries l.are

-- its loops have causes, in each listing of a program of FORTRAN 77
abbrev pub ListedNestsHaveCauses : (width : Width) → Type 0
ListedNestsHaveCauses width = (p : Program) (lines : List (List ℕ)) → IsProgram77 (fortran77 width) p
    → (l : IsListing p lines)
    → AreCaused no_counts (found_in p) l.entries l.are
