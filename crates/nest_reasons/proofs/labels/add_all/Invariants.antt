use Rattle.std.proofs.Common.{◌≡◌, ◌||◌, ℕ, nat_eq, take}
use Rattle.std.specs.List.{list_any}
use Rattle.nest_reasons.proofs.labels.add_all.Given as goal

abbrev pub invariant-loop-label : goal.invariant-loop-label
invariant-loop-label l = (n : ℕ) → list_any (nat_eq n) l.labels.keys ≡ (list_any (nat_eq n) l.initial.labels.keys || list_any (nat_eq n) (take l.label-index l.more))
