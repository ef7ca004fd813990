use Rattle.std.proofs.Common.{rules, ◌≡◌, ◌↔◌, Some, ap, subst, sym, ◌∙◌}
use Rattle.std.specs.Prelude.{ℤ, List, FitsSigned}
use Rattle.std.proofs.lemmas.Int.{to_z-of_z}
use mir.Syntax.{w64, w128}
use Rattle.subscripts.specs.declared.affine.Dir.{Dir}
use Rattle.subscripts.specs.declared.affine.Span.{Span}
use Rattle.subscripts.specs.declared.pairing.Pairing.{Pairing}
use Rattle.dependence_tests.specs.delta_test.Constraints.{Allows}
use Rattle.dependence_tests.specs.delta_test.IterationsLeft.{IsLeastLeft, IsNoneLeft}
use Rattle.dependence_tests.specs.loop_lines.OneLoop.{dir_of}
use Rattle.dependence_tests.specs.loop_lines.Places.{loop_at}
use Rattle.dependence_tests.proofs.delta_test.OneLoops.{iteration_fits}
use Rattle.dependence_tests.specs.loop_lines.line_points.Least.{WithinTrip}
use Rattle.direction_vectors.proofs.vector_tests.LeastMeetings.{least_solution, no_solution, some_solution}
use Rattle.direction_vectors.specs.vector_tests.Places.{IsLeastSolution, SolvesEach, loop_span}
use Rattle.direction_vectors.proofs.vector_tests.refs.RefPair.least_of.Goals as goal

pub unreachable-requires-in_default-least_left : goal.unreachable-requires-in_default-least_left
unreachable-requires-in_default-least_left c =
    let r = c.args.self.now in
    let l = loop_at c.args.at in
    let same : (i j : ℤ) → Allows c.left_at-left.result i j ↔ SolvesEach r.subs l i j =
    subst (λ (ps : List Pairing). (i j : ℤ) → Allows c.left_at-left.result i j ↔ SolvesEach ps l i j) c.as_slice.ensures c.left_at-left.ensures.same in
    let ft : FitsSigned w64 c.in-Some.trip = search rules in
    let ff : FitsSigned w128 c.from.result = search rules in
    let et : c.from.result ≡ c.in-Some.trip = simp to_z-of_z at c.from.ensures in
    let ends : (loop_span r l).last ≡ Some c.in-Some.trip = ap (λ (s : Span). s.last) (sym c.requires.span) ∙ c.in-Some.is in
    let none : IsNoneLeft c.left_at-left.result c.from.result c.args.dir = simp to_z-of_z at c.in_default-least_left.ensures in
    some_solution r c.args.d.now l c.requires.refs c.requires.vector c.requires.exact c.requires.at c.requires.left
    (no_solution r c.args.d.now l c.left_at-left.result c.in-Some.trip same ends
    (subst (λ (z : ℤ). IsNoneLeft c.left_at-left.result z (dir_of c.args.d.now l)) et (subst (λ (z : Dir). IsNoneLeft c.left_at-left.result c.from.result z) c.requires.dir none)))

pub returns : goal.returns
returns c =
    let r = c.args.self.now in
    let l = loop_at c.args.at in
    let same : (i j : ℤ) → Allows c.left_at-left.result i j ↔ SolvesEach r.subs l i j =
    subst (λ (ps : List Pairing). (i j : ℤ) → Allows c.left_at-left.result i j ↔ SolvesEach ps l i j) c.as_slice.ensures c.left_at-left.ensures.same in
    let ft : FitsSigned w64 c.in-Some.trip = search rules in
    let ff : FitsSigned w128 c.from.result = search rules in
    let fi : FitsSigned w128 c.in-Some-least_left.both.i = search rules in
    let fj : FitsSigned w128 c.in-Some-least_left.both.j = search rules in
    let et : c.from.result ≡ c.in-Some.trip = simp to_z-of_z at c.from.ensures in
    let ends : (loop_span r l).last ≡ Some c.in-Some.trip = ap (λ (s : Span). s.last) (sym c.requires.span) ∙ c.in-Some.is in
    let least : IsLeastLeft c.left_at-left.result c.from.result c.args.dir c.in-Some-least_left.both.i c.in-Some-least_left.both.j = simp to_z-of_z at c.in-Some-least_left.ensures in
    let gi : FitsSigned w64 c.in-Some-least_left.both.i = iteration_fits c.in-Some.trip c.in-Some-least_left.both.i ft (subst (λ (z : ℤ). WithinTrip z c.in-Some-least_left.both.i) et least.within.first) in
    let gj : FitsSigned w64 c.in-Some-least_left.both.j = iteration_fits c.in-Some.trip c.in-Some-least_left.both.j ft (subst (λ (z : ℤ). WithinTrip z c.in-Some-least_left.both.j) et least.within.second) in
    let there : IsLeastSolution r c.args.d.now l c.in-Some-least_left.both.i c.in-Some-least_left.both.j =
    least_solution r c.args.d.now l c.left_at-left.result c.in-Some.trip c.in-Some-least_left.both.i c.in-Some-least_left.both.j same ends
    (subst (λ (z : ℤ). IsLeastLeft c.left_at-left.result z (dir_of c.args.d.now l) c.in-Some-least_left.both.i c.in-Some-least_left.both.j) et
    (subst (λ (z : Dir). IsLeastLeft c.left_at-left.result c.from.result z c.in-Some-least_left.both.i c.in-Some-least_left.both.j) c.requires.dir least)) in
    simp to_z-of_z there
