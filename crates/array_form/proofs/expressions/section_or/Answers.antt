use Rattle.std.proofs.Common.{◌≡◌, Some, None, length, rules, subst}
use Rattle.std.specs.Prelude.{slice_get}
use Rattle.tree.specs.View.{expression_of, subscript_of}
use Rattle.linear_forms.specs.Linear.{form_of}
use Rattle.linear_forms.specs.Affines.{IsFound}
use Rattle.array_form.specs.holds.View.{loop_names}
use Rattle.array_form.proofs.SubscriptLaws.{becomes, remains, stays}
use Rattle.array_form.proofs.expressions.section_or.Goals as goal

pub returns-in_default : goal.returns-in_default
returns-in_default c = λ formed.
    let none : slice_get c.args.here.now 0 ≡ None = search rules in
    stays c.args.a.now c.args.here.now c.in_ok-copy.field-0 (expression_of c.args.expr.now) formed none c.in_ok-copy.ensures

pub returns-in_ok-section-in-Some-2 : goal.returns-in_ok-section-in-Some-2
returns-in_ok-section-in-Some-2 c = λ formed.
    let first : slice_get c.args.here.now 0 ≡ Some c.in-Some.first.now = search rules in
    becomes c.args.a.now c.args.here.now c.in-Some.first.now (expression_of c.args.expr.now) formed c.in-Some-2.form (subscript_of c.in_ok-section-in-Some-2.field-0) first
    (subst (IsFound (length c.args.a.now.loops) (form_of (loop_names c.args.a.now.loops) c.args.a.now.symbols (expression_of c.args.expr.now))) c.in-Some-2.is c.in_ok-form.ensures)
    c.in_ok-section-in-Some-2.ensures

pub returns-in-None : goal.returns-in-None
returns-in-None c = λ formed.
    let first : slice_get c.args.here.now 0 ≡ Some c.in-Some.first.now = search rules in
    remains c.args.a.now c.args.here.now c.in-Some.first.now (expression_of c.args.expr.now) formed first
    (subst (IsFound (length c.args.a.now.loops) (form_of (loop_names c.args.a.now.loops) c.args.a.now.symbols (expression_of c.args.expr.now))) c.in-None.is c.in_ok-form.ensures)
