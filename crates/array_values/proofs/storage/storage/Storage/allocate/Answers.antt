use Rattle.std.proofs.Common.{◌≡◌, sym, ◌∙◌, subst, Some, None}
use Rattle.array_values.specs.Counts.{ranges_in}
use Rattle.array_values.specs.storage.Allocation.{Opens}
use Rattle.array_values.specs.storage.Stored.{slots_in}
use Rattle.array_values.proofs.storage.AllocationLaws.{opened, opened_parts, slot_names, slot_kinds}
use Rattle.array_values.proofs.storage.storage.Storage.allocate.Goals as goal

pub returns-in_default-clause-allocated : goal.returns-in_default-clause-allocated
returns-in_default-clause-allocated c = λ k ns g e. absurd (let both : None ≡ Some k = sym c.in_default.ensures.kind ∙ g in cc)

pub invariant_of-self : goal.invariant_of-self
invariant_of-self c =
    let vs = slots_in c.args.self.now in
    let parts = opened_parts vs c.args.name c.in-Some.slot c.in-Some.ensures c.index_mut.result.now c.allocate.new.self c.index_mut.ensures.value (ranges_in c.args.ranges) c.allocate.result c.allocate.ensures in
    record { named = c.args.self.now.named ∙ sym (slot_names vs c.args.name c.in-Some.slot c.in-Some.ensures c.index_mut.result.now c.allocate.new.self c.index_mut.ensures.value parts.0) }

pub returns-clause-allocated : goal.returns-clause-allocated
returns-clause-allocated c = λ k ns g e.
    opened (slots_in c.args.self.now) c.args.name c.in-Some.slot c.in-Some.ensures c.index_mut.result.now c.allocate.new.self c.index_mut.ensures.value k ns g c.allocate.result
    (subst (λ bs. Opens c.index_mut.result.now c.allocate.new.self bs c.allocate.result) e c.allocate.ensures)

pub returns-clause-kinds : goal.returns-clause-kinds
returns-clause-kinds c =
    let vs = slots_in c.args.self.now in
    let parts = opened_parts vs c.args.name c.in-Some.slot c.in-Some.ensures c.index_mut.result.now c.allocate.new.self c.index_mut.ensures.value (ranges_in c.args.ranges) c.allocate.result c.allocate.ensures in
    slot_kinds vs c.args.name c.in-Some.slot c.in-Some.ensures c.index_mut.result.now c.allocate.new.self c.index_mut.ensures.value parts.0 parts.1
