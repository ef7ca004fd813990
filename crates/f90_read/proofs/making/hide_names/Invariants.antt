use Rattle.std.proofs.Common.{ℕ, List, ◌++◌, drop}
use Rattle.f90_names.specs.calls.Hiding.{IsWithout, names_of}
use Rattle.f90_names.proofs.calls.HidingLaws.{NamesLeft}
use Rattle.f90_read.proofs.making.hide_names.Given as goal

abbrev pub invariant-hiding : goal.invariant-hiding
invariant-hiding l =
    (xs : List (List ℕ)) → IsWithout xs l.initial.functions
    → NamesLeft (xs ++ names_of l.entities) (names_of (drop l.entity-index l.entities)) l.functions
