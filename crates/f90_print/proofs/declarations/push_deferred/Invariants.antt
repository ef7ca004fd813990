use Rattle.std.proofs.Common.{◌≡◌, ◌++◌}
use Rattle.f90_print.proofs.DeclarationTexts.{further_colons}
use Rattle.f90_print.proofs.declarations.push_deferred.Given as goal

-- the colons so far are written
abbrev pub invariant-loop-written : goal.invariant-loop-written
invariant-loop-written l = l.text.items ≡ l.initial.text.items ++ further_colons l._written
