-- Which private scalars are left in the nests that are listed: none.
use Rattle.std.specs.Prelude.{⊤, List, [], ◌∷◌}
use Rattle.find_nests.specs.Found.{Found, InNest, Kept}
use Rattle.prepared_passes.specs.expansion.Left.{NoPrivateScalarIsLeft}
use Rattle.listing.specs.declared.programs.counts.Counts.{Counts}
use Rattle.listing.specs.graphs.Lines.{Entry}
use Rattle.listing.specs.programs.Listing.{HaveEntries, counts_of}

-- In no nest that is listed with a graph a scalar is left that was private before expansion, but where its element is
-- copied to it
abbrev pub AreExpanded : (counts : Counts) (fs : List Found) (entries : List Entry) → HaveEntries counts fs entries
    → Type 0
AreExpanded counts [] entries h = ⊤
AreExpanded counts (InNest n ∷ fs) entries h =
    NoPrivateScalarIsLeft h.3.1.stages.named h.3.0 × AreExpanded (counts_of h.3.0) fs h.1 h.4
AreExpanded counts (Kept line r ∷ fs) entries h = AreExpanded counts fs h.1 h.4
