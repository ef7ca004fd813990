use Rattle.std.proofs.Common.{rules, ◌≡◌, ◌↔◌, Some, ap, subst, sym, ◌∙◌}
use Rattle.std.specs.Prelude.{ℤ, List, FitsSigned}
use Rattle.std.proofs.lemmas.Int.{to_z-of_z}
use mir.Syntax.{w64}
use Rattle.subscripts.specs.Classes.{Shared}
use Rattle.subscripts.specs.declared.affine.Span.{Span}
use Rattle.subscripts.specs.declared.pairing.Pairing.{Pairing}
use Rattle.dependence_tests.specs.delta_test.Constraints.{Allows}
use Rattle.direction_vectors.proofs.vector_tests.LeastMeetings.{each_direction}
use Rattle.direction_vectors.specs.vector_tests.Places.{LeavesSome, SolvesEach, loop_span}
use Rattle.subscripts.specs.declared.affine.Dir.{Dir}
use Rattle.subscripts.specs.declared.affine.Dir.TheVariants.{Lt, Eq, Gt}
use Rattle.direction_vectors.proofs.vector_tests.refs.RefPair.has_each_direction.Goals as goal

pub returns : goal.returns
returns c =
    let r = c.args.self.now in
    let l = Shared c.args.place in
    let same : (i j : ℤ) → Allows c.left_at-left.result i j ↔ SolvesEach r.subs l i j =
    subst (λ (ps : List Pairing). (i j : ℤ) → Allows c.left_at-left.result i j ↔ SolvesEach ps l i j) c.as_slice.ensures c.left_at-left.ensures.same in
    let ends : (loop_span r l).last ≡ Some c.in-Some.trip = ap (λ (s : Span). s.last) (sym c.span_at.ensures) ∙ c.in-Some.is in
    let fits : FitsSigned w64 c.in-Some.trip = search rules in
    let less : LeavesSome c.left_at-left.result c.in-Some.trip Lt = simp to_z-of_z at c.leaves_some.ensures c.if-not-leaves_some.false in
    let equal : LeavesSome c.left_at-left.result c.in-Some.trip Eq = simp to_z-of_z at c.leaves_some-2.ensures c.if-not-leaves_some-2.false in
    λ e.
    let greater : LeavesSome c.left_at-left.result c.in-Some.trip Gt = simp to_z-of_z at c.leaves_some-3.ensures e in
    each_direction r c.args.place c.left_at-left.result c.in-Some.trip same ends less equal greater
