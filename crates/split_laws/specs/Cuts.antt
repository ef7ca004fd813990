-- What the points of a nest do to the pairs of subscripts that gave them.
use Rattle.std.specs.Prelude.{◌≡◌, ◌≤◌, ℕ, ℤ, pos, List, [], ◌∷◌}
use Rattle.components.specs.Lists.{IsMember}
use Rattle.dependence_graph.specs.declared.nest_references.occurrences.Occurrence.{Occurrence}
use Rattle.index_split.specs.Points.{AreCutPoints, CoupleGives, IsConsidered}
use Rattle.index_split.specs.declared.points.Sides.{Sides}
use Rattle.nest.specs.Plain.{Nest}
use Rattle.split_laws.specs.Points.{IsPiece}
use Rattle.subscripts.specs.Forms.{value_at}

-- no two different iterations of a piece make the two subscripts equal, the first one at the one iteration and the
-- second at the other, whatever the symbols are
abbrev pub NeverMeet : Sides → ℕ → ℕ → Type 0
NeverMeet s from to = (v : ℕ → ℤ) (i j : ℕ) → from ≤ i → i ≤ to → from ≤ j → j ≤ to → ¬ (i ≡ j)
    → ¬ (value_at s.first v (pos i ∷ []) ≡ value_at s.second v (pos j ∷ []))

-- of a pair that gave a point of the nest; a piece goes from behind one point, or from the first iteration, to the next
-- point, or to the last iteration
abbrev pub CutPairsNeverMeet : Type 0
CutPairsNeverMeet = (n : Nest) (points : List ℕ) (t x from to : ℕ) (first second : Occurrence)
    → (cut : AreCutPoints n points) → IsConsidered n t → IsMember first cut.references → IsMember second cut.references
    → (gave : CoupleGives t first second x) → IsPiece points t from to → NeverMeet gave.pair from to
