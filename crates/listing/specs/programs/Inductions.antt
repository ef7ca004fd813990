-- Which inductions are left in the nests that are listed: none.
use Rattle.std.specs.Prelude.{⊤, All, List, [], ◌∷◌}
use Rattle.find_nests.specs.Found.{Found, InNest, Kept}
use Rattle.inductions.specs.Found.{inductions_of}
use Rattle.inductions.specs.Laws.{IsWrittenNowhere}
use Rattle.inductions.specs.Nests.{induction_names}
use Rattle.nest.specs.Plain.{Nest}
use Rattle.listing.specs.declared.programs.counts.Counts.{Counts}
use Rattle.listing.specs.graphs.Lines.{Entry}
use Rattle.listing.specs.programs.Listing.{HaveEntries, counts_of}

-- no statement of m writes an induction of n
abbrev pub NoInductionIsLeft : Nest → Nest → Type 0
NoInductionIsLeft n m = All (IsWrittenNowhere m) (induction_names (inductions_of n))

-- no nest that is listed with a graph writes an induction of the nest before substitution
abbrev pub AreSubstituted : (counts : Counts) (fs : List Found) (entries : List Entry) → HaveEntries counts fs entries
    → Type 0
AreSubstituted counts [] entries h = ⊤
AreSubstituted counts (InNest n ∷ fs) entries h =
    NoInductionIsLeft h.3.1.stages.anew h.3.0 × AreSubstituted (counts_of h.3.0) fs h.1 h.4
AreSubstituted counts (Kept line r ∷ fs) entries h = AreSubstituted counts fs h.1 h.4
