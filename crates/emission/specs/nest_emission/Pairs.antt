-- The pairs that a dependence gives.
use Rattle.std.specs.Prelude.{◌≡◌, ◌↔◌, ◌⊎◌, ◌<◌, ℕ, true, List, length, slice_index}
use Rattle.components.specs.Lists.{IsMember}
use Rattle.dependence_graph.specs.declared.graphs.Edge.{Edge}
use Rattle.emission.specs.emission_pieces.Levels.{joins}

-- to the old pairs come the places of the two statements of the part that it joins, where there are such
abbrev pub AddsPairOf : ℕ → List ℕ → Edge → List (ℕ × ℕ) → List (ℕ × ℕ) → Type 0
AddsPairOf k part e old new =
    (i j : ℕ)
    → IsMember (i, j) new
    ↔ (IsMember (i, j) old
    ⊎ ((i < length part) × (j < length part) × (joins k (slice_index part i) (slice_index part j) e ≡ true)))
