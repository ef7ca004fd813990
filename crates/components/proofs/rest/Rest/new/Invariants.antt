use Rattle.std.proofs.Common.{◌≡◌, ◌↔◌, ℕ, true}
use Rattle.components.specs.Rest.{IsFreeFirst, has}
use Rattle.components.proofs.rest.Rest.new.Given as goal

abbrev pub invariant-loop-class : goal.invariant-loop-class
invariant-loop-class l = record {
  counts : l.rest.counts.items ≡ l.fn.counts.items;
  ready : (v : ℕ) → (has l.rest.ready v ≡ true) ↔ IsFreeFirst l.tables l.rest.counts.items l.class v;
}
