use Rattle.std.proofs.Common.{◌≡◌, map, drop}
use Rattle.std.specs.List.{list_any}
use Rattle.f77_grammar.specs.program.Kinds as kinds
use Rattle.f77_names.specs.UsesView.{plain_use}
use Rattle.f77_checks.specs.kinds.KnownUses.{known_uses}
use Rattle.f77_checks.proofs.kinds.kind_check.KindCheck.call_hidden.Given as goal

abbrev pub invariant-loop-used : goal.invariant-loop-used
invariant-loop-used l =
    list_any (kinds.calls_hidden (known_uses l.self)) (map plain_use l.uses)
    ≡ list_any (kinds.calls_hidden (known_uses l.self)) (map plain_use (drop l.used-index l.uses))
