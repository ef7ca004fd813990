use Rattle.std.proofs.Common.{◌≡◌, ◌∙◌, ap, length, subst, sym, Some, map}
use Rattle.tree.specs.Plain.{Reference}
use Rattle.tree.specs.View.{declaration_of, reference_of}
use Rattle.tree.specs.declared.exprs.Ref.{out-Ref}
use Rattle.tree.proofs.Equations.{reference_of-is}
use Rattle.dependence_graph.specs.nest_references.Occurrences.{AreFormsIn}
use Rattle.nest.specs.View.{nest_of}
use Rattle.array_form.specs.holds.Bounds.{bounded_subscripts, is_made}
use Rattle.array_form.specs.holds.Noted.{AreFound}
use Rattle.array_form.proofs.holds.NotedLaws.{found_ok, made_subscripts}
use Rattle.array_form.proofs.holds.noted.bounded_subscripts.Goals as goal

pub returns-then-is_made : goal.returns-then-is_made
returns-then-is_made c =
    let n = nest_of c.args.nest.now in
    let named : (out-Ref c.args.item.now).name ≡ (reference_of c.args.item.now).name = sym (ap (λ (q : Reference). q.name) (reference_of-is c.args.item.now)) in
    subst (λ bs. AreFound (length c.args.loops.now) (bounded_subscripts n c.args.loops.now (reference_of c.args.item.now)) (Some bs)) (sym c.new.ensures)
    (made_subscripts n c.args.loops.now (reference_of c.args.item.now) c.is_made.result (c.is_made.ensures ∙ ap (is_made n) named) c.if-is_made.true)

pub returns : goal.returns
returns c =
    let n = nest_of c.args.nest.now in
    let named : (out-Ref c.args.item.now).name ≡ (reference_of c.args.item.now).name = sym (ap (λ (q : Reference). q.name) (reference_of-is c.args.item.now)) in
    let forms : AreFormsIn c.args.loops.now n.symbols (reference_of c.args.item.now).subscripts c.as_slice.result.now =
    subst (AreFormsIn c.args.loops.now n.symbols (reference_of c.args.item.now).subscripts) (sym c.as_slice.ensures) c.in_ok-forms.ensures.forms in
    found_ok n c.as_slice-2.result.now c.args.loops.now c.args.item.now (out-Ref c.args.item.now).name c.is_made.result c.as_slice.result.now c.sized_as_declared.result named
    (ap (map declaration_of) (sym c.as_slice-2.ensures)) c.is_made.ensures c.if-is_made.false forms c.sized_as_declared.ensures
