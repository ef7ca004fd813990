use Rattle.std.proofs.Common.{◌≡◌, ℕ, List, map, take}
use Rattle.f77_names.specs.UsesView.{plain_use}
use Rattle.f77_names.specs.NameFacts.{nothing_known, facts_in, facts_of}
use Rattle.f77_names.proofs.names.names_of.Given as goal

abbrev pub invariant-loop-used : goal.invariant-loop-used
invariant-loop-used l = record { known : (x : List ℕ) → facts_in l.names x ≡ facts_of nothing_known (map plain_use (take l.used-index l.uses)) x }
