-- Where the labels stand that a GO TO may name.
use Rattle.std.specs.Prelude.{ℕ, Option}
use Rattle.std.specs.BTreeMap.{get}
use Rattle.std.specs.Ordering.{nat_cmp}
use Rattle.f77_structure.specs.declared.jumps.targets.LabelTargets.{LabelTargets}
use Rattle.f77_structure.specs.declared.jumps.targets.Target.{Target}

abbrev pub target_in : LabelTargets → ℕ → Option Target
target_in m n = get nat_cmp m.targets n
