use Rattle.std.proofs.Common.{◌≡◌, sym, subst, None, rules}
use Rattle.linear_forms.specs.Linear.{as_constant}
use Rattle.linear_forms.proofs.PartLaws.{PairClause, ProductClause, pair_add, pair_mul}
use Rattle.linear_forms.proofs.forms.pair_form.Goals as goal

pub returns-in-Add : goal.returns-in-Add
returns-in-Add c =
    let a = c.args.a in
    let b = c.args.b in
    let none : c.args.whole ≡ None = search rules in
    subst (λ op. PairClause op c.args.whole (as_constant a.constant) (as_constant b.constant) a.form b.form c.combined.result) (sym c.in-Add.is)
    (pair_add c.args.whole (as_constant a.constant) (as_constant b.constant) a.form b.form c.in-Some-form.f c.in-Some-form-2.g c.combined.result none c.in-Some-form.is c.in-Some-form-2.is c.combined.ensures)

pub returns-in-Mul : goal.returns-in-Mul
returns-in-Mul c =
    let a = c.args.a in
    let b = c.args.b in
    let f = c.in-Some-form.f in
    let g = c.in-Some-form-2.g in
    let r = c.product_form.result in
    let none : c.args.whole ≡ None = search rules in
    subst (λ op. PairClause op c.args.whole (as_constant a.constant) (as_constant b.constant) a.form b.form r) (sym c.in-Mul.is)
    (pair_mul c.args.whole (as_constant a.constant) (as_constant b.constant) a.form b.form f g r none c.in-Some-form.is c.in-Some-form-2.is
    (subst (λ k. ProductClause k (as_constant b.constant) f g r) c.integer.ensures (subst (λ l. ProductClause c.integer.result l f g r) c.integer-in-Mul.ensures c.product_form.ensures)))
