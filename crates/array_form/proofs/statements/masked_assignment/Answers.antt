use Rattle.std.proofs.Common.{◌≡◌, Some, subst}
use Rattle.std.specs.Prelude.{IfOk}
use Rattle.tree.specs.View.{expression_of}
use Rattle.array_form.specs.forms.Forms.{form}
use Rattle.array_form.specs.holds.View.{surroundings_view}
use Rattle.array_form.specs.Loops.{viewed}
use Rattle.array_form.proofs.AnswerLaws.{masked_is}
use Rattle.array_form.proofs.statements.masked_assignment.Goals as goal

pub returns : goal.returns
returns c =
    let a = c.args.a.now in
    let mask : expression_of c.in_ok-mask.mask ≡ form (surroundings_view a) (viewed a c.args.over.now) (expression_of c.args.guard.now) =
    subst (λ o. IfOk o (λ e. expression_of e ≡ form (surroundings_view a) (viewed a c.args.over.now) (expression_of c.args.guard.now))) c.in_ok-mask.ensures.first c.form.ensures in
    let right : expression_of c.in_ok-mask.right ≡ form (surroundings_view a) (viewed a c.args.over.now) (expression_of c.args.stmt.now.right) =
    subst (λ o. IfOk o (λ e. expression_of e ≡ form (surroundings_view a) (viewed a c.args.over.now) (expression_of c.args.stmt.now.right))) c.in_ok-mask.ensures.second c.form-2.ensures in
    masked_is a c.args.stmt.now.line (Some c.args.mark) c.args.over.now (expression_of c.args.guard.now) c.args.stmt.now.left (expression_of c.args.stmt.now.right) c.in_ok-mask.mask c.in_ok-mask.right c.in_ok-subscript_forms.field-0
    c.in_ok-subscript_forms.ensures mask right
