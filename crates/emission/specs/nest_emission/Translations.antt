-- The statements round what is emitted for a nest.
use Rattle.std.specs.Prelude.{ℕ, List, [], ◌∷◌}
use Rattle.tree.specs.Plain.{Expression, Statement, Allocate, Deallocate, Block, expressions}
use Rattle.nest.specs.Allocations.{allocations_then, block_then, deallocations}
use Rattle.nest.specs.Plain.{Made, Nest}

-- those of one made array; a scalar has none
abbrev pub allocation_with : ℕ → List ℕ → List Expression → List Statement
allocation_with line x [] = []
allocation_with line x (e ∷ es) = Allocate line x (expressions (e ∷ es)) ∷ []

abbrev pub allocation : ℕ → Made → List Statement
allocation line m = allocation_with line m.name m.extents

abbrev pub deallocation_with : ℕ → List ℕ → List Expression → List Statement
deallocation_with line x [] = []
deallocation_with line x (e ∷ es) = Deallocate line x ∷ []

abbrev pub deallocation : ℕ → Made → List Statement
deallocation line m = deallocation_with line m.name m.extents

abbrev pub translation_of : Nest → Block → Block
translation_of n body =
    allocations_then n.line n.made (block_then body (block_then n.after (deallocations n.line n.made)))
