-- Lists of statements and of arms of block IFs: the number of the last loop in them, and the parts of a nest that they
-- are.
use Rattle.std.specs.Prelude.{ℕ, List, [], ◌∷◌, ◌++◌}
use Rattle.tree.specs.Plain.{Statement}
use Rattle.tree.specs.View.{Tested}
use Rattle.find_nests.specs.nest_parts.Numbers.{number_after, after_block}
use Rattle.nest.specs.Plain.{Part, parts}
use Rattle.nest.specs.View.{Branch}
use Rattle.find_nests.specs.nest_parts.Statements.{parts_of, parts_of_block}

abbrev pub after_each : ℕ → List Tested → ℕ
after_each k [] = k
after_each k (t ∷ ts) = after_each (after_block k t.body) ts

abbrev pub after_list : ℕ → List Statement → ℕ
after_list k [] = k
after_list k (c ∷ cs) = after_list (number_after k c) cs

-- lists of statements, and arms of a block IF
abbrev pub parts_list : ℕ → List Statement → List Part
parts_list k [] = []
parts_list k (c ∷ cs) = parts_of k c ++ parts_list (number_after k c) cs

abbrev pub branch_at : ℕ → Tested → Branch
branch_at k t = record { test = t.test; body = parts (parts_of_block k t.body) }

abbrev pub branch_list : ℕ → List Tested → List Branch
branch_list k [] = []
branch_list k (t ∷ ts) = branch_at k t ∷ branch_list (after_block k t.body) ts
