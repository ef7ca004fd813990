use Rattle.std.proofs.Common.{◌≡◌, map, drop}
use Rattle.std.specs.List.{list_any}
use Rattle.f77_names.specs.UsesView.{plain_use}
use Rattle.f77_names.specs.Seen.{bears_title_by}
use Rattle.f77_names.proofs.names.Names.bear_title.Given as goal

abbrev pub invariant-loop-used : goal.invariant-loop-used
invariant-loop-used l =
    list_any (bears_title_by l.self l.names) (map plain_use l.uses)
    ≡ list_any (bears_title_by l.self l.names) (map plain_use (drop l.used-index l.uses))
