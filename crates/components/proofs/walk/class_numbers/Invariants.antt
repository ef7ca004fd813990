use Rattle.std.proofs.Common.{◌≡◌, ◌<◌, ℕ, []}
use Rattle.components.specs.declared.walk.NodeState.TheVariants.{New}
use Rattle.components.specs.Walking.{mark, IsWalking}
use Rattle.components.proofs.walk.class_numbers.Given as goal

abbrev pub invariant-loop-start : goal.invariant-loop-start
invariant-loop-start l = record {
  walk : IsWalking l.rows.items [] l.walk;
  path : l.walk.path.items ≡ [];
  met : (v : ℕ) → v < l.start → mark l.walk.marks.items v ≡ New → ⊥;
}
