use Rattle.std.proofs.Common.{◌≡◌, ◌↔◌, true, refl, sym, subst, ◌∙◌, length, arith}
use Rattle.components.specs.Rest.{AreFilled, IsFreeFirst, has}
use Rattle.components.proofs.Releasing.{free_more, free_none}
use Rattle.components.proofs.rest.Rest.new.Goals as goal

pub loop-class-init : goal.loop-class-init
loop-class-init c = record {
  counts = refl;
  ready = free_none c.args.tables.now (record { counts = c.args.counts; ready = c.new.result }) c.new.ensures;
}

pub add_if_free-requires-clause-tables : goal.add_if_free-requires-clause-tables
add_if_free-requires-clause-tables c = subst (λ z. AreFilled (length z) c.args.tables.now) (sym c.loop-class.invariant.counts) c.requires

pub loop-class-preserved : goal.loop-class-preserved
loop-class-preserved c = record {
  counts = c.in_ok-add_if_free.ensures.counts ∙ c.loop-class.invariant.counts;
  ready = free_more c.args.tables.now c.loop-class.rest c.add_if_free.new.self c.loop-class.class c.in_ok-add_if_free.ensures c.loop-class.invariant.ready;
}

pub returns-clause-ready : goal.returns-clause-ready
returns-clause-ready c =
    let r = c.loop-class.rest in
    let t = c.args.tables.now in
    let counts = c.args.counts.items in
    let end : c.loop-class.class ≡ length counts = omega (arith, c.args.counts.ok) in
    λ v.
    subst (λ z. (has r.ready v ≡ true) ↔ IsFreeFirst t z (length counts) v) c.loop-class.invariant.counts
    (subst (λ z. (has r.ready v ≡ true) ↔ IsFreeFirst t r.counts.items z v) end (c.loop-class.invariant.ready v))
