use Rattle.std.proofs.Common.{rules, ◌≡◌, ◌↔◌, subst}
use Rattle.std.specs.Prelude.{ℤ, FitsSigned, ◌+ℤ◌}
use Rattle.std.proofs.lemmas.Int.{to_z-of_z}
use mir.Syntax.{w128}
use Rattle.dependence_tests.specs.loop_lines.line_points.Lines.{OnLine}
use Rattle.dependence_tests.proofs.delta_test.constraint.meet_of.Goals as goal

pub along_both-requires-clause-same : goal.along_both-requires-clause-same
along_both-requires-clause-same c i j =
    let f : FitsSigned w128 c.in-AtDistance.distance = search rules in
    simp to_z-of_z at (c.line_of_distance.ensures.line i j)

pub along_both-requires-in-AtDistance-other-2-clause-same : goal.along_both-requires-in-AtDistance-other-2-clause-same
along_both-requires-in-AtDistance-other-2-clause-same c i j =
    let f : FitsSigned w128 c.in-AtDistance-other-2.distance = search rules in
    simp to_z-of_z at (c.line_of_distance-in-AtDistance-other-2.ensures.line i j)

pub returns-in-AlongLine-other-clause-meet : goal.returns-in-AlongLine-other-clause-meet
returns-in-AlongLine-other-clause-meet c i j =
    let f : FitsSigned w128 c.in-AtDistance.distance = search rules in
    let d : (j ≡ i +ℤ c.in-AtDistance.distance) ↔ OnLine c.line_of_distance.result i j = simp to_z-of_z at (c.line_of_distance.ensures.line i j) in
    let m = c.along_both.ensures.meet i j in
    rw (c.in-AtDistance.is, c.in-AlongLine-other.is) (λ a. (d.1 (m.0 a).0, (m.0 a).1), λ p. m.1 (d.0 p.0, p.1))

pub returns-else-allows-3-clause-meet : goal.returns-else-allows-3-clause-meet
returns-else-allows-3-clause-meet c i j = (
  λ x. absurd x,
  λ p. let f : FitsSigned w128 c.in-AtPoint-other-2.i = search rules in
      let g : FitsSigned w128 c.in-AtPoint-other-2.j = search rules in
      let n = simp to_z-of_z at c.if-allows-3.ensures in
      let a : OnLine c.in-AlongLine.line i j = rw c.in-AlongLine.is at p.0 in
      let e : (i ≡ c.in-AtPoint-other-2.i) × (j ≡ c.in-AtPoint-other-2.j) = rw c.in-AtPoint-other-2.is at p.1 in
      let b : OnLine c.in-AlongLine.line c.in-AtPoint-other-2.i c.in-AtPoint-other-2.j =
      subst (λ (z : ℤ). OnLine c.in-AlongLine.line c.in-AtPoint-other-2.i z) e.1 (subst (λ (z : ℤ). OnLine c.in-AlongLine.line z j) e.0 a) in
      let z = n.1 b in cc,
)

pub returns-in-AtDistance-other-2-clause-meet : goal.returns-in-AtDistance-other-2-clause-meet
returns-in-AtDistance-other-2-clause-meet c i j =
    let f : FitsSigned w128 c.in-AtDistance-other-2.distance = search rules in
    let d : (j ≡ i +ℤ c.in-AtDistance-other-2.distance) ↔ OnLine c.line_of_distance-in-AtDistance-other-2.result i j = simp to_z-of_z at (c.line_of_distance-in-AtDistance-other-2.ensures.line i j) in
    let m = c.along_both-in-AtDistance-other-2.ensures.meet i j in
    rw (c.in-AlongLine.is, c.in-AtDistance-other-2.is) (λ a. ((m.0 a).1, d.1 (m.0 a).0), λ p. m.1 (d.0 p.1, p.0))
