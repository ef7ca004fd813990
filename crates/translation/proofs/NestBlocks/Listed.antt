-- What answers list is a listing of the program, with their graphs.
use Rattle.std.proofs.Common.{◌≡◌, refl, ap, subst, List, [], ◌∷◌, map}
use Rattle.dependence_graph.specs.declared.graphs.Graph.{Graph}
use Rattle.emission.specs.emission_pieces.Pieces.{Pieces}
use Rattle.find_nests.specs.Found.{Found}
use Rattle.nest.specs.Plain.{Nest}
use Rattle.listing.specs.declared.programs.counts.Counts.{Counts}
use Rattle.listing.specs.graphs.Lines.{Entry}
use Rattle.listing.proofs.programs.Stages.{passed_is_listed}
use Rattle.listing.specs.programs.Listing.{HasCycleEntries, HasNestEntries, HaveEntries, ListedNest, counts_of, listed_nests}
use Rattle.listing.specs.programs.Listing.{no_counts}
use Rattle.translation.specs.nest_blocks.Answers.{AreAllEntriesBy, AreRight, nests_by}
use Rattle.translation.specs.nest_blocks.Laws.{AnswersAreListed}
use Rattle.translation.specs.nest_blocks.LoopAnswers.{LoopAnswer, IsTranslation, Kept, Translated, found_by}

-- ---- one answer

nest_entries : (counts : Counts) (n m : Nest) (g : Graph) (ps : Pieces) (es : List Entry) → IsTranslation counts n m g ps
    → HasCycleEntries n.number m g es → HasNestEntries counts n es
nest_entries counts n m g ps es right listed =
    (m, passed_is_listed counts n m right.passed, (g, right.graph, listed, right.kept))

-- ---- one after the other

abbrev ListAll : Counts → List LoopAnswer → List Entry → List Found → Type 0
ListAll counts answers es fs = (h : HaveEntries counts fs es) × (listed_nests counts fs es h ≡ nests_by answers)

all_listed : (counts : Counts) (answers : List LoopAnswer) (es : List Entry) → AreRight counts answers → AreAllEntriesBy answers es
    → ListAll counts answers es (map found_by answers)
unfolding nest_entries
all_listed counts [] es right listed = (listed, refl)
all_listed counts (Translated n m g ps ∷ rest) es right listed =
    let more = all_listed (counts_of m) rest listed.1 right.1 listed.4 in (
      (
        listed.0,
        listed.1,
        listed.2,
        nest_entries counts n m g ps listed.0 right.0 listed.3,
        more.0,
      ),
      ap (λ (ts : List ListedNest). record { found = n; normal = m; graph = g } ∷ ts) more.1,
    )
all_listed counts (Kept line r ∷ rest) es right listed =
    let more = all_listed counts rest listed.1 right.1 listed.4 in
    ((listed.0, listed.1, listed.2, listed.3, more.0), more.1)

pub answers_are_listed : AnswersAreListed
answers_are_listed p lines blocks made h =
    let all = subst (ListAll no_counts h.answers h.entries) h.are.found (all_listed no_counts h.answers h.entries h.are.right h.listed) in
    (record { entries = h.entries; are = all.0; lines_are = h.lines_are }, all.1)
