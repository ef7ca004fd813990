use Rattle.std.proofs.Common.{rules, ◌≡◌, ◌∙◌, ap, arith, refl}
use Rattle.std.specs.Prelude.{ℤ, pos, ◌*ℤ◌, FitsSigned}
use Rattle.std.proofs.lemmas.Int.{to_z-of_z}
use Rattle.std.proofs.Math.IntN.{zero-*ℤ}
use mir.Syntax.{w128}
use Rattle.dependence_tests.proofs.loop_lines.LinePoints.Ring.{linear}
use Rattle.dependence_tests.specs.loop_lines.line_points.Lines.{OnLine}
use Rattle.dependence_tests.specs.declared.loop_lines.line_points.points.Line.{Line}
use Rattle.dependence_tests.specs.loop_lines.OneLoop.{first_at, second_at}
use Rattle.dependence_tests.specs.loop_lines.Places.{loop_at}
use Rattle.dependence_tests.specs.delta_test.Learned.{IsValue}
use Rattle.dependence_tests.proofs.delta_test.learn.constraint_along.Goals as goal

first_value : (line : Line) (v i j : ℤ) → line.second ≡ pos 0 → IsValue line.first line.constant v → OnLine line i j → i ≡ v
first_value line v i j z h o =
    let e : line.second *ℤ j ≡ pos 0 = ap (λ (t : ℤ). t *ℤ j) z ∙ zero-*ℤ j in
    h.alone i (omega (arith, linear, o.equal))

second_value : (line : Line) (v i j : ℤ) → line.first ≡ pos 0 → IsValue line.second line.constant v → OnLine line i j → j ≡ v
second_value line v i j z h o =
    let e : line.first *ℤ i ≡ pos 0 = ap (λ (t : ℤ). t *ℤ i) z ∙ zero-*ℤ i in
    h.alone j (omega (arith, linear, o.equal))

pub returns-in-Some-clause-kept : goal.returns-in-Some-clause-kept
returns-in-Some-clause-kept c x y o =
    let fa : FitsSigned w128 c.args.line.first = search rules in
    let fc : FitsSigned w128 c.args.line.constant = search rules in
    let fv : FitsSigned w128 c.in-Some.value = search rules in
    let h : IsValue c.args.line.first c.args.line.constant c.in-Some.value = simp to_z-of_z at c.in-Some.ensures in
    let w : c.args.line.second ≡ pos 0 = rw c.in-First.is at c.requires.own in
    let e : first_at (loop_at c.args.at) x ≡ c.in-Some.value = first_value c.args.line c.in-Some.value (first_at (loop_at c.args.at) x) (second_at (loop_at c.args.at) y) w h o in
    simp to_z-of_z (e, rw c.in-First.is refl)

pub returns-in-Some-value_of-clause-kept : goal.returns-in-Some-value_of-clause-kept
returns-in-Some-value_of-clause-kept c x y o =
    let fa : FitsSigned w128 c.args.line.second = search rules in
    let fc : FitsSigned w128 c.args.line.constant = search rules in
    let fv : FitsSigned w128 c.in-Some-value_of.value = search rules in
    let h : IsValue c.args.line.second c.args.line.constant c.in-Some-value_of.value = simp to_z-of_z at c.in-Some-value_of.ensures in
    let w : c.args.line.first ≡ pos 0 = rw c.in-Second.is at c.requires.own in
    let e : second_at (loop_at c.args.at) y ≡ c.in-Some-value_of.value = second_value c.args.line c.in-Some-value_of.value (first_at (loop_at c.args.at) x) (second_at (loop_at c.args.at) y) w h o in
    simp to_z-of_z (rw c.in-Second.is refl, e)
