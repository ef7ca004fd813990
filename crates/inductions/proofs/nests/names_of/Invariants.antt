use Rattle.std.proofs.Common.{◌≡◌, take}
use Rattle.inductions.specs.Nests.{induction_names}
use Rattle.inductions.proofs.nests.names_of.Given as goal

abbrev pub invariant-loop-induction : goal.invariant-loop-induction
invariant-loop-induction l = l.names.items ≡ induction_names (take l.induction-index l.induction-items)
