use Rattle.std.proofs.Common.{take}
use Rattle.components.specs.Rest.{Releases}
use Rattle.components.proofs.rest.Rest.release.Given as goal

abbrev pub invariant-loop-target : goal.invariant-loop-target
invariant-loop-target l = Releases l.tables (take l.target-index l.targets) l.fn.self l.self
