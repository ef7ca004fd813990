use Rattle.std.proofs.Common.{◌≡◌, take}
use Rattle.rewrite.specs.Names.{names_standing, without_repeats}
use Rattle.rewrite.proofs.names.names_standing.Given as goal

abbrev pub invariant-loop-used : goal.invariant-loop-used
invariant-loop-used l = l.names.keys ≡ without_repeats (names_standing l.way (take l.used-index l.uses))
