use Rattle.std.proofs.Common.{◌≡◌, ℕ, take}
use Rattle.std.specs.BTreeSet.{contains}
use Rattle.std.specs.List.{list_any}
use Rattle.std.specs.Ordering.{nat_cmp}
use Rattle.f90_blocks.specs.declared.nodes.Treed.{Treed}
use Rattle.f90_blocks.specs.Targets.{target_at, names}
use Rattle.f90_blocks.proofs.targets.targets.Given as goal

abbrev pub invariant-loop-treed : goal.invariant-loop-treed
invariant-loop-treed l = record {
  has : (n : ℕ) → contains nat_cmp l.labels n
      ≡ list_any (λ (t : Treed). names (target_at t) n) (take l.treed-index l.trees);
}
