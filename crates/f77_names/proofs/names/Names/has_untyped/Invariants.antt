use Rattle.std.proofs.Common.{◌≡◌, map, drop}
use Rattle.std.specs.List.{list_any}
use Rattle.f77_names.specs.UsesView.{plain_use}
use Rattle.f77_names.specs.NameFacts.{is_untyped_use}
use Rattle.f77_names.proofs.names.Names.has_untyped.Given as goal

abbrev pub invariant-loop-used : goal.invariant-loop-used
invariant-loop-used l = list_any (is_untyped_use l.self) (map plain_use l.uses) ≡ list_any (is_untyped_use l.self) (map plain_use (drop l.used-index l.uses))
