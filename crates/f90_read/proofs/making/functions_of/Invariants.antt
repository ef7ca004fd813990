use Rattle.std.proofs.Common.{drop}
use Rattle.f90_names.proofs.calls.HidingLaws.{NamesLeft}
use Rattle.f90_read.proofs.HiddenLaws.{all_declared}
use Rattle.f90_read.proofs.making.functions_of.Given as goal

abbrev pub invariant-hiding : goal.invariant-hiding
invariant-hiding l = NamesLeft (all_declared l.text) (all_declared (drop l.placed-index l.text)) l.functions
