use Rattle.std.proofs.Common.{refl, sym, ◌∙◌}
use Rattle.array_values.specs.storage.Stored.{slots_in}
use Rattle.array_values.proofs.storage.AllocationLaws.{closed, closed_parts, slot_names, slot_kinds, unknown_bounds}
use Rattle.array_values.proofs.storage.storage.Storage.deallocate.Goals as goal

pub returns-in_default-clause-deallocated : goal.returns-in_default-clause-deallocated
returns-in_default-clause-deallocated c = (unknown_bounds (slots_in c.args.self.now) c.args.name c.in_default.ensures.bounds, refl)

pub invariant_of-self : goal.invariant_of-self
invariant_of-self c =
    let vs = slots_in c.args.self.now in
    let parts = closed_parts vs c.args.name c.in-Some.slot c.in-Some.ensures c.index_mut.result.now c.deallocate.new.self c.index_mut.ensures.value c.deallocate.result c.deallocate.ensures in
    record { named = c.args.self.now.named ∙ sym (slot_names vs c.args.name c.in-Some.slot c.in-Some.ensures c.index_mut.result.now c.deallocate.new.self c.index_mut.ensures.value parts.0) }

pub returns-clause-deallocated : goal.returns-clause-deallocated
returns-clause-deallocated c =
    closed (slots_in c.args.self.now) c.args.name c.in-Some.slot c.in-Some.ensures c.index_mut.result.now c.deallocate.new.self c.index_mut.ensures.value c.deallocate.result c.deallocate.ensures

pub returns-clause-kinds : goal.returns-clause-kinds
returns-clause-kinds c =
    let vs = slots_in c.args.self.now in
    let parts = closed_parts vs c.args.name c.in-Some.slot c.in-Some.ensures c.index_mut.result.now c.deallocate.new.self c.index_mut.ensures.value c.deallocate.result c.deallocate.ensures in
    slot_kinds vs c.args.name c.in-Some.slot c.in-Some.ensures c.index_mut.result.now c.deallocate.new.self c.index_mut.ensures.value parts.0 parts.1
