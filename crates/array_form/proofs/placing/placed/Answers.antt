use Rattle.std.proofs.Common.{◌≡◌, ◌∙◌, ap, arith, rules}
use Rattle.std.proofs.lemmas.Grind.{common_steps}
use Rattle.tree.specs.Plain.{Named, Transpose}
use Rattle.tree.specs.View.{expression_of, reference_of}
use Rattle.tree.proofs.Equations.{expression_of-transpose}
use Rattle.array_form.proofs.PlacingLaws.{last_ok, turned_is}
use Rattle.array_form.proofs.placing.placed.Goals as goal

pub returns-then-are_exchanged : goal.returns-then-are_exchanged
returns-then-are_exchanged c =
    let boxed : c.in_ok-new.field-0.value ≡ c.args.plain = first_of (cc, search rules, grind (arith, common_steps)) in
    expression_of-transpose c.in_ok-new.field-0 ∙ ap (λ e. Transpose (expression_of e)) boxed
    ∙ turned_is c.args.a.now c.args.over.now c.args.here.now c.same_loops.result c.in_ok-may_widen.field-0 c.are_exchanged.result c.same_loops.ensures c.if-same_loops.false c.in_ok-may_widen.ensures c.if-branch.false c.are_exchanged.ensures
    (expression_of c.args.plain) (Named (reference_of c.args.item.now).name (reference_of c.args.item.now).subscripts) c.if-are_exchanged.true

pub returns : goal.returns
returns c =
    last_ok c.args.a.now c.args.over.now c.args.here.now c.same_loops.result c.in_ok-may_widen.field-0 c.are_exchanged.result c.same_loops.ensures c.if-same_loops.false c.in_ok-may_widen.ensures c.if-branch.false c.are_exchanged.ensures
    (expression_of c.args.plain) c.in_ok-copy_ref.field-0 c.args.item.now c.constructed.result c.if-are_exchanged.false c.in_ok-copy_ref.ensures c.constructed.ensures
