use Rattle.std.proofs.Common.{◌≡◌, List, map, drop}
use Rattle.std.specs.List.{filter, fold}
use Rattle.f77_grammar.specs.program.Uses.{Use77, is_variable}
use Rattle.f77_grammar.specs.program.Tree.{with_name}
use Rattle.f77_names.specs.UsesView.{plain_use}
use Rattle.f77_names.specs.constants.Declarations.{Ascends, AreFacts, variables_from}
use Rattle.f77_names.proofs.constants.declarations.variables.Given as goal

abbrev pub invariant-loop-used : goal.invariant-loop-used
invariant-loop-used l = record {
  noted : (us : List Use77) → AreFacts l.names us
      → variables_from us (map plain_use l.uses) ≡ fold (λ names x. with_name x names) l.variables.items (filter (is_variable us) (map (λ (u : Use77). u.name) (map plain_use (drop l.used-index l.uses))));
  ascends : (us : List Use77) → AreFacts l.names us → Ascends l.variables.items;
}
