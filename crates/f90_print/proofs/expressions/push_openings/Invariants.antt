use Rattle.std.proofs.Common.{◌≡◌, ◌++◌, replicate}
use Rattle.f90_print.proofs.expressions.push_openings.Given as goal

abbrev pub invariant-loop-written : goal.invariant-loop-written
invariant-loop-written l = l.text.items ≡ l.fn.text.items ++ replicate l._written 40
