use Rattle.std.proofs.Common.{◌∙◌, sym, ap, subst, map, length, take, replicate, refl, ◌++◌, ◌+◌, ◌-◌, arith}
use Rattle.std.specs.Map.{values_of as variables_of}
use Rattle.std.specs.Vec.Iter.{into_iter_items}
use Rattle.tree.specs.View.{declaration_of}
use Rattle.meaning.specs.Extents.{elements_of}
use Rattle.machine.specs.Storage.{declared, AreArrays, AreBounds, bounds_list}
use Rattle.machine.proofs.OpeningStore.{opens_with}
use Rattle.machine.proofs.OpeningLaws.{AreKept, absent, bounds_placed, keep_more, all_placed, nothing, few_placed, resized, as_many}
use Rattle.machine.proofs.storage.Storage.new.Goals as goal

bounds : (c : goal.After-dims_of) → AreBounds (bounds_list c.dims_of.result.now)
bounds c =
    subst AreBounds (sym c.dims_of.ensures) (bounds_placed (map declaration_of c.args.decls) (variables_of c.loop-decl.variables.entries) c.loop-decl.values.items c.in-Some.decl (into_iter_items c.next.new.self) c.requires.sound (subst (AreKept (map declaration_of c.args.decls) c.loop-decl.variables.entries c.loop-decl.values.items) c.in-Some.ensures.steps.0 c.loop-decl.invariant.0).placed)

pub elements-requires : goal.elements-requires
elements-requires c = bounds c

pub overflow_add-start : goal.overflow_add-start
overflow_add-start c =
    let few = few_placed _ c.elements.result (bounds c.before) c.elements.ensures in
    let room = c.loop-decl.values.small in
    let within = c.loop-decl.values.ok.1 in
    let start = c.len-start.ensures in
    omega arith

pub declare-requires : goal.declare-requires
declare-requires c = absent (map declaration_of c.args.decls) c.loop-decl.variables.entries c.loop-decl.values.items c.in-Some.decl (into_iter_items c.next.new.self) c.requires.distinct
    (subst (AreKept (map declaration_of c.args.decls) c.loop-decl.variables.entries c.loop-decl.values.items) c.in-Some.ensures.steps.0 c.loop-decl.invariant.0)

pub loop-decl-preserved : goal.loop-decl-preserved
loop-decl-preserved c =
    let at = c.loop-decl in
    let kept = subst (AreKept (map declaration_of c.args.decls) at.variables.entries at.values.items) c.in-Some.ensures.steps.0 at.invariant.0 in
    let gone = c.in-Some.ensures.steps.1 in
    let was = at.invariant.1 in
    let short = ap length c.in-Some.ensures.steps.0 in
    let values = resized at.values.items c.resize.new.self.items c.len-start.result (c.len-start.result + c.elements.result) c.elements.result c.nought.result (sym (c.len-start.ensures ∙ at.values.ok.0)) refl
    (c.in_ok-resize.ensures.items ∙ ap (λ n. take (c.len-start.result + c.elements.result) at.values.items ++ replicate (c.len-start.result + c.elements.result - n) c.nought.result) (sym c.len-start.ensures)) in
    let more = keep_more (map declaration_of c.args.decls) at.variables.entries c.declare.new.variables.entries at.values.items (record { decl = c.in-Some.decl; start = c.len-start.result }) (into_iter_items c.next.new.self) c.elements.result c.nought.result
    kept (c.len-start.ensures ∙ at.values.ok.0) (c.elements.ensures ∙ ap elements_of c.dims_of.ensures) c.nought.ensures c.in_ok-declare.ensures in
    (rw values more, omega arith)

pub invariant_of-result : goal.invariant_of-result
invariant_of-result c =
    let at = c.loop-decl in
    let ds = map declaration_of c.args.decls in
    let empty = nothing (into_iter_items at.decl-iterator) (at.invariant.1 ∙ c.in-None.ensures.steps.0) in
    let kept = subst (AreKept ds at.variables.entries at.values.items) empty at.invariant.0 in
    let vs = variables_of at.variables.entries in
    record {
      named = kept.named;
      starts = kept.placed.starts;
      filled = at.values.ok.0 ∙ ap length kept.placed.noughts ∙ as_many (declared vs);
      sound = subst AreArrays (sym (all_placed ds vs at.values.items kept.placed)) c.requires.sound;
    }

pub returns-clause-opened : goal.returns-clause-opened
returns-clause-opened c = opens_with _ _ c.loop-decl.invariant.0.placed.noughts
