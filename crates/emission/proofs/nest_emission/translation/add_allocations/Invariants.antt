-- The arrays so far are allocated.
use Rattle.std.proofs.Common.{◌≡◌, ◌++◌, map, take}
use Rattle.std.specs.List.{flat_map}
use Rattle.tree.specs.View.{statement_of}
use Rattle.nest.specs.View.{made_of}
use Rattle.emission.specs.nest_emission.Translations.{allocation}
use Rattle.emission.proofs.nest_emission.translation.add_allocations.Given as goal

abbrev pub invariant-loop-array : goal.invariant-loop-array
invariant-loop-array l = map statement_of l.stmts.items ≡ map statement_of l.initial.stmts.items ++ flat_map (allocation l.line) (map made_of (take l.array-index l.made))
