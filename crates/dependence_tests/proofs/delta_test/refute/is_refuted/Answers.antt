use Rattle.std.proofs.Common.{rules, ◌∙◌, sym}
use Rattle.std.specs.Prelude.{FitsSigned}
use Rattle.std.proofs.lemmas.Int.{to_z-of_z}
use mir.Syntax.{w128}
use Rattle.dependence_tests.proofs.delta_test.Refuting.{same_region, one_side_alone}
use Rattle.dependence_tests.proofs.delta_test.refute.is_refuted.Goals as goal

pub returns : goal.returns
returns c = λ t x y k r e.
    let f : FitsSigned w128 c.reduced_by-reduced.result.constant = search rules in
    let h = simp to_z-of_z at c.range_refutes_with.ensures in
    one_side_alone c.reduced_by-reduced.result.pairing c.args.d.now c.reduced_by-reduced.result.constant e.0 x y (h.0 t)
    (same_region c.args.p.now c.reduced_by-reduced.result.pairing c.args.d.now x y c.reduced_by-reduced.ensures.alike r) (sym (c.reduced_by-reduced.ensures.same e.0 x y k) ∙ e.1)
