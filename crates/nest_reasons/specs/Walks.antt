-- Whether a loop that a statement is, or one in it, has what is tested, statement by statement.
use Rattle.std.specs.Prelude.{ℕ, Bool, false, ◌||◌, List, [], ◌∷◌, ◌++◌}
use Rattle.tree.specs.Plain.{Expression, Statement, Assignment, Where, If, Do, Label, GoTo, Stop, Read, Print, Allocate}
use Rattle.tree.specs.Plain.{Deallocate, Arms, no_arms, arm, Block, no_statements, statement}

-- a loop that the statement is, or one in it, has what is tested
module _ (test : List (List ℕ) → Expression → Expression → Expression → Block → Bool) where
  abbrev mutual
    pub any_loop : List (List ℕ) → Statement → Bool
    any_loop around (Assignment line mark left right) = false
    any_loop around (Where line mark mask left right) = false
    any_loop around (If line arms other) = any_in_arms around arms || any_in_block around other
    any_loop around (Do line x first last step body) =
        test around first last step body || any_in_block (around ++ x ∷ []) body
    any_loop around (Label n) = false
    any_loop around (GoTo line n) = false
    any_loop around (Stop line) = false
    any_loop around (Read line is) = false
    any_loop around (Print line is) = false
    any_loop around (Allocate line x es) = false
    any_loop around (Deallocate line x) = false

    pub any_in_arms : List (List ℕ) → Arms → Bool
    any_in_arms around no_arms = false
    any_in_arms around (arm e body arms) = any_in_block around body || any_in_arms around arms

    pub any_in_block : List (List ℕ) → Block → Bool
    any_in_block around no_statements = false
    any_in_block around (statement c cs) = any_loop around c || any_in_block around cs
