use Rattle.std.proofs.Common.{subst}
use Rattle.linear_forms.proofs.PartLaws.{sign_part, SignClause}
use Rattle.linear_forms.proofs.forms.sign_part.Goals as goal

pub returns : goal.returns
returns c =
    sign_part c.args.op c.args.a (record { constant = c.sign_value-constant.result; form = c.sign_form-form.result }) c.sign_value-constant.ensures
    (subst (λ w. SignClause c.args.op w c.args.a.form c.sign_form-form.result) c.integer.ensures c.sign_form-form.ensures)
