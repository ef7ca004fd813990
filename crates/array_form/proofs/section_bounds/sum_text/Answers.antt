use Rattle.std.proofs.Common.{◌≡◌, Some, arith, rules, subst}
use Rattle.std.proofs.lemmas.Grind.{common_steps}
use Rattle.tree.specs.View.{expression_of}
use Rattle.linear_forms.specs.Linear.{limited, sum}
use Rattle.linear_forms.specs.Affines.{IsFound}
use Rattle.array_form.specs.holds.View.{loop_names}
use Rattle.array_form.proofs.SectionLaws.{none_ok, some_ok}
use Rattle.array_form.proofs.section_bounds.sum_text.Goals as goal

pub returns-in-Some : goal.returns-in-Some
returns-in-Some c = λ f r h is.
    let a = c.args.a.now in
    let names : c.as_slice-in-Some.result.now ≡ loop_names a.loops = first_of (cc, search rules, grind (arith, common_steps)) in
    let trips : c.as_slice-in-Some-2.result.now ≡ c.args.trips.now = first_of (cc, search rules) in
    some_ok a c.args.trips.now (expression_of c.args.first) f r c.in-Some.form c.as_slice-in-Some.result.now c.as_slice-in-Some-2.result.now c.express.result names trips
    (subst (IsFound _ (limited _ (Some (sum f r)))) c.in-Some.is h) c.express.ensures

pub returns-in_ok-rest-in-None : goal.returns-in_ok-rest-in-None
returns-in_ok-rest-in-None c = λ f r h is.
    let a = c.args.a.now in
    let names : c.as_slice-in-None.result.now ≡ loop_names a.loops = first_of (cc, search rules, grind (arith, common_steps)) in
    let trips : c.as_slice-in-None-2.result.now ≡ c.args.trips.now = first_of (cc, search rules) in
    none_ok a c.args.trips.now (expression_of c.args.first) c.in_ok-rest-in-None.rest f r c.args.rest.now c.as_slice-in-None.result.now c.as_slice-in-None-2.result.now c.two.result names trips
    (subst (IsFound _ (limited _ (Some (sum f r)))) c.in-None.is h) is c.in_ok-rest-in-None.ensures c.two.ensures
