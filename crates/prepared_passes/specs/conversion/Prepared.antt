-- What a nest that is prepared with its IFs and jumps needs, so that it is prepared without them.
use Rattle.std.specs.Prelude.{◌≡◌, ℕ, ◌<◌, ◌≤◌, ◌^◌, IsSomeAnd, Some, None, All, List}
use Rattle.tree.specs.Plain.{Declaration}
use Rattle.meaning.specs.Typed.{declared}
use Rattle.nest.specs.Plain.{Nest}
use Rattle.pass_laws.specs.prepared_nests.Nests.{IsBranched, IsPrepared}
use Rattle.pass_laws.specs.prepared_nests.Statements.{made_names}
use Rattle.if_convert.specs.Converted.{converted_nest}
use Rattle.if_convert.specs.Masks.{mask_name}
use Rattle.prepared_passes.specs.conversion.Branching.{IsBranching, IsNoMask, IsUnguarded}
use Rattle.prepared_passes.specs.conversion.Places.{IsMask}

-- A conjunction of at most 2^32 masks by halves: one operator, and one in parentheses, for each halving
abbrev pub conjunction_depth : ℕ
conjunction_depth = 65

-- with the masks declared, and with conjunctions as deep as the nest's expressions may be, or less
abbrev pub ConvertedNestIsPrepared : Type 0
ConvertedNestIsPrepared = (es : List Declaration) (around : List (List ℕ)) (deepest masks : ℕ) (n m : Nest)
    → converted_nest masks n ≡ Some m → m.masks ≤ 2 ^ 32 → conjunction_depth ≤ deepest
    → IsBranching n → All IsNoMask (made_names n) → IsBranched es around deepest n
    → ((i : ℕ) → masks ≤ i → i < m.masks → IsSomeAnd (declared es (mask_name i)) IsMask)
    → IsPrepared es around deepest m

-- by declarations that have no masks, no mask stands in a nest that is prepared with its IFs and jumps
abbrev pub BranchedNestIsBranching : Type 0
BranchedNestIsBranching = (es : List Declaration) (around : List (List ℕ)) (deepest : ℕ) (n : Nest)
    → IsBranched es around deepest n → IsUnguarded n.body → ((i : ℕ) → declared es (mask_name i) ≡ None)
    → IsBranching n

-- the same of such a nest by further declarations, which have the masks
abbrev pub ConvertedBranchedNestIsPrepared : Type 0
ConvertedBranchedNestIsPrepared = (ds es : List Declaration) (around : List (List ℕ)) (deepest masks : ℕ)
    (n m : Nest) → IsBranched ds around deepest n → ((i : ℕ) → declared ds (mask_name i) ≡ None)
    → IsUnguarded n.body → converted_nest masks n ≡ Some m → m.masks ≤ 2 ^ 32 → conjunction_depth ≤ deepest
    → IsBranched es around deepest n
    → ((i : ℕ) → masks ≤ i → i < m.masks → IsSomeAnd (declared es (mask_name i)) IsMask)
    → IsPrepared es around deepest m
