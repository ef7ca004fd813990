-- The label that a statement names in a GO TO.
use Rattle.std.specs.Prelude.{ℕ, ◌==◌, Bool, false, Option, Some, None}
use Rattle.tree.specs.Plain.{Statement, GoTo}
use Rattle.tree.specs.View.{statement_of}
use Rattle.f90_blocks.specs.declared.statement_trees.nodes.StatementTree.{StatementTree}
use Rattle.f90_blocks.specs.declared.statement_trees.nodes.StatementTree.TheVariants.{Simple, Test}
use Rattle.f90_blocks.specs.declared.nodes.Treed.{Treed}

-- a statement without others in it
abbrev pub target_of : Statement → Option ℕ
target_of (GoTo line n) = Some n
target_of s = None

-- a logical IF names what the statement names that it does
abbrev pub target_in : StatementTree → Option ℕ
target_in (Simple s) = target_of (statement_of s)
target_in (Test e (Some s)) = target_of (statement_of s)
target_in t = None

abbrev pub target_if : Option StatementTree → Option ℕ
target_if (Some t) = target_in t
target_if None = None

abbrev pub target_at : Treed → Option ℕ
target_at t = target_if t.tree

abbrev pub names : Option ℕ → ℕ → Bool
names None n = false
names (Some m) n = n == m
