-- ALLOCATE and DEALLOCATE for the arrays that passes have made for a nest, and blocks one behind the other.
use Rattle.std.specs.Prelude.{ℕ, List, [], ◌∷◌}
use Rattle.tree.specs.Plain.{Expression, expressions, Allocate, Deallocate, Block, no_statements, statement}
use Rattle.nest.specs.Plain.{Made}

-- by the nest's line
module _ (line : ℕ) where
  -- ALLOCATE and DEALLOCATE of a made array with these extents; a scalar has neither
  abbrev pub allocation_then : List ℕ → List Expression → Block → Block
  allocation_then x [] b = b
  allocation_then x (e ∷ es) b = statement (Allocate line x (expressions (e ∷ es))) b

  abbrev pub deallocation_then : List ℕ → List Expression → Block → Block
  deallocation_then x [] b = b
  deallocation_then x (e ∷ es) b = statement (Deallocate line x) b

  -- one of each for each made array, in the order of making
  abbrev pub allocations_then : List Made → Block → Block
  allocations_then [] b = b
  allocations_then (m ∷ ms) b = allocation_then m.name m.extents (allocations_then ms b)

  abbrev pub deallocations : List Made → Block
  deallocations [] = no_statements
  deallocations (m ∷ ms) = deallocation_then m.name m.extents (deallocations ms)

abbrev pub block_then : Block → Block → Block
block_then no_statements b = b
block_then (statement c cs) b = statement c (block_then cs b)
