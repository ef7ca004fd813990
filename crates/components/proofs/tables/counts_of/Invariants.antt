use Rattle.std.proofs.Common.{◌≡◌, ℕ, length, take}
use Rattle.components.specs.Counts.{times_to}
use Rattle.components.specs.Labels.{at}
use Rattle.components.proofs.tables.counts_of.Given as goal

abbrev pub invariant-loop-to : goal.invariant-loop-to
invariant-loop-to l = record {
  size : length l.counts.items ≡ l.count;
  each : (c : ℕ) → at l.counts.items c ≡ times_to c (take l.to-index l.between);
}
