use Rattle.std.proofs.Common.{◌≡◌, sym, subst, None, rules}
use Rattle.linear_forms.proofs.PartLaws.{SignClause, sign_neg}
use Rattle.linear_forms.proofs.forms.sign_form.Goals as goal

pub returns : goal.returns
returns c =
    let none : c.args.whole ≡ None = search rules in
    subst (λ op. SignClause op c.args.whole c.args.form c.combined.result) (sym c.in-Neg.is)
    (sign_neg c.args.whole c.args.form c.in-Some-form.form c.combined.result none c.in-Some-form.is c.combined.ensures)
