-- The pieces of a loop that is cut, by the turns with which they end, and what they do to the pairs of subscripts that
-- gave its points.
use Rattle.std.specs.Prelude.{◌≡◌, ◌⊎◌, ℕ, ◌+◌, List, [], ◌∷◌, ◌++◌}
use Rattle.components.specs.Lists.{IsMember}
use Rattle.dependence_graph.specs.declared.nest_references.occurrences.Occurrence.{Occurrence}
use Rattle.index_split.specs.Points.{AreCutPoints, CoupleGives, IsConsidered}
use Rattle.nest.specs.Plain.{Nest}
use Rattle.split_laws.specs.Cuts.{NeverMeet}

-- one of the pieces behind so many turns that end with these: it has the turns from behind the piece before it up to
-- its own end
abbrev pub IsPieceOf : ℕ → List ℕ → ℕ → ℕ → Type 0
IsPieceOf before [] from to = ⊥
IsPieceOf before (end ∷ ends) from to = ((from ≡ before + 1) × (to ≡ end)) ⊎ IsPieceOf end ends from to

-- Where a nest is cut behind its points, no two different iterations of one of its pieces make the sides of a pair
-- equal that gave one of them
abbrev pub PiecesPartPairs : Type 0
PiecesPartPairs = (n : Nest) (points : List ℕ) (t x from to : ℕ) (first second : Occurrence)
    → (cut : AreCutPoints n points) → IsConsidered n t → IsMember first cut.references → IsMember second cut.references
    → (gave : CoupleGives t first second x) → IsPieceOf 0 (points ++ t ∷ []) from to → NeverMeet gave.pair from to
