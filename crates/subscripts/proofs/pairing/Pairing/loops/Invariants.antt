use Rattle.subscripts.specs.Found.{IsFoundAmong}
use Rattle.subscripts.proofs.Loops.{IsBefore}
use Rattle.subscripts.proofs.pairing.Pairing.loops.Given as goal

abbrev pub invariant-loop-k : goal.invariant-loop-k
invariant-loop-k l = IsFoundAmong l.self (IsBefore l.k) l.found
