use Rattle.std.proofs.Common.{subst}
use Rattle.linear_forms.specs.Linear.{as_constant}
use Rattle.linear_forms.proofs.PartLaws.{pair_part, PairClause}
use Rattle.linear_forms.proofs.forms.pair_part.Goals as goal

pub returns : goal.returns
returns c =
    pair_part c.args.op c.args.a c.args.b (record { constant = c.pair_value-constant.result; form = c.pair_form-form.result }) c.pair_value-constant.ensures
    (subst (λ w. PairClause c.args.op w (as_constant c.args.a.constant) (as_constant c.args.b.constant) c.args.a.form c.args.b.form c.pair_form-form.result) c.integer.ensures c.pair_form-form.ensures)
