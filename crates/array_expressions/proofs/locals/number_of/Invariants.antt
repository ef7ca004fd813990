use Rattle.std.proofs.Common.{take}
use Rattle.array_expressions.specs.Locals.{Holds}
use Rattle.array_expressions.proofs.locals.number_of.Given as goal

abbrev pub invariant-loop-local : goal.invariant-loop-local
invariant-loop-local l = Holds (take l.local-index l.locals) l.name l.found
