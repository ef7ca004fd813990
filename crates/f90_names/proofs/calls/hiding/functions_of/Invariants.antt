use Rattle.std.proofs.Common.{drop}
use Rattle.f90_names.proofs.calls.HidingLaws.{NamesLeft, declared_names}
use Rattle.f90_names.proofs.calls.hiding.functions_of.Given as goal

abbrev pub invariant-hiding : goal.invariant-hiding
invariant-hiding l = NamesLeft (declared_names l.forms) (declared_names (drop l.form-index l.forms)) l.functions
