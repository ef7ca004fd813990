-- Whether a loop that a statement is, or one in it, leaves the limits, statement by statement.
use Rattle.std.specs.Prelude.{ℕ, Bool, false, ◌||◌, List, [], ◌∷◌, ◌++◌}
use Rattle.tree.specs.Plain.{Statement, Assignment, Where, If, Do, Label, GoTo, Stop, Read, Print, Allocate, Deallocate}
use Rattle.tree.specs.Plain.{Arms, no_arms, arm, Block, no_statements, statement}
use Rattle.find_nests.specs.bound_limits.Composed.{Outer}
use Rattle.find_nests.specs.bound_limits.Loops.{as_outer, leaves_limits}

module _ (symbols : List (List ℕ)) where
  abbrev mutual
    -- a loop that the statement is, or one in it, leaves them
    pub any_leaves : List Outer → Statement → Bool
    any_leaves around (Assignment line mark left right) = false
    any_leaves around (Where line mark mask left right) = false
    any_leaves around (If line arms other) = any_leaves_arms around arms || any_leaves_block around other
    any_leaves around (Do line x first last step body) =
        leaves_limits symbols around first last step
        || any_leaves_block (around ++ as_outer symbols around x first step ∷ []) body
    any_leaves around (Label n) = false
    any_leaves around (GoTo line n) = false
    any_leaves around (Stop line) = false
    any_leaves around (Read line is) = false
    any_leaves around (Print line is) = false
    any_leaves around (Allocate line x es) = false
    any_leaves around (Deallocate line x) = false

    pub any_leaves_arms : List Outer → Arms → Bool
    any_leaves_arms around no_arms = false
    any_leaves_arms around (arm e body arms) = any_leaves_block around body || any_leaves_arms around arms

    pub any_leaves_block : List Outer → Block → Bool
    any_leaves_block around no_statements = false
    any_leaves_block around (statement c cs) = any_leaves around c || any_leaves_block around cs
