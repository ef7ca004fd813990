use Rattle.std.proofs.Common.{◌≡◌, List, map, drop}
use Rattle.f77_grammar.specs.program.Uses.{Use77}
use Rattle.f77_names.specs.UsesView.{plain_use}
use Rattle.f77_names.specs.Seen.{HaveSeen, seen_after, declares_again}
use Rattle.f77_names.proofs.names.Names.declares_again.Given as goal

abbrev pub invariant-loop-used : goal.invariant-loop-used
invariant-loop-used l = record {
  seen : (seen : List Use77) → HaveSeen l.initial.self seen → HaveSeen l.self (seen_after l.uses l.used-index seen);
  again : (seen : List Use77) → HaveSeen l.initial.self seen
      → declares_again seen (map plain_use l.uses) ≡ declares_again (seen_after l.uses l.used-index seen) (map plain_use (drop l.used-index l.uses));
}
