use Rattle.std.proofs.Common.{◌≡◌, map, drop}
use Rattle.f77_grammar.specs.program.Tree.{first_of_names}
use Rattle.f77_grammar.specs.program.Uses.{is_title_role, names_that}
use Rattle.f77_names.specs.UsesView.{plain_use}
use Rattle.f77_tree.proofs.programs.title.Given as goal

abbrev pub invariant-loop-used : goal.invariant-loop-used
invariant-loop-used l = first_of_names (names_that is_title_role (map plain_use l.uses)) ≡ first_of_names (names_that is_title_role (map plain_use (drop l.used-index l.uses)))
