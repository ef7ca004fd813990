-- The last values that stand behind all loops.
use Rattle.std.specs.Prelude.{ℕ, Option, Some, None, if◌then◌else◌, List, [], length}
use Rattle.std.specs.List.{flat_map}
use Rattle.tree.specs.Plain.{Statement, Block, block}
use Rattle.nest.specs.Plain.{Part}
use Rattle.last_values.specs.declared.behind.NestedLoop.{NestedLoop}
use Rattle.last_values.specs.Endings.{after_statements}
use Rattle.last_values.specs.Behind.{stands_behind}

abbrev pub statements_or_none : Option (List Statement) → List Statement
statements_or_none None = []
statements_or_none (Some cs) = cs

-- what a loop leaves behind all loops
abbrev pub left_behind : List (List ℕ) → ℕ → List NestedLoop → Part → NestedLoop → List Statement
left_behind symbols line ls p l =
    if stands_behind (length symbols) ls p l.turns.variable
    then statements_or_none (after_statements symbols line l.round l.turns) else []

-- the last values behind all loops, in the order of these loops
unfoldable pub values_behind : List (List ℕ) → ℕ → List NestedLoop → Part → Block
values_behind symbols line ls p = block (flat_map (left_behind symbols line ls p) ls)
