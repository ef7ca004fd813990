use Rattle.std.proofs.Common.{◌≡◌, ◌+◌, ◌↔◌, take, sym, subst, arith}
use Rattle.std.specs.Prelude.{ℤ}
use Rattle.std.proofs.lemmas.Bool.{both_ways}
use Rattle.std.proofs.lemmas.List.{take_all}
use Rattle.dependence_tests.specs.delta_test.Constraints.{Allows, IsConstraint}
use Rattle.dependence_tests.specs.declared.delta_test.constraint.Constraint.{Constraint}
use Rattle.dependence_tests.specs.loop_lines.Places.{loop_at}
use Rattle.direction_vectors.proofs.vector_tests.Steps.{solves_more, solves_still}
use Rattle.direction_vectors.specs.vector_tests.Places.{SolvesEach}
use Rattle.direction_vectors.proofs.vector_tests.least.left_at.Goals as goal
use Rattle.direction_vectors.proofs.vector_tests.least.left_at.Goals.{then-has_loop, else-has_loop}

pub loop-p-preserved : goal.loop-p-preserved
loop-p-preserved c =
    elim c.if-has_loop.branch [
      | then-has_loop w ↦ record {
        constraint = subst (λ (z : Constraint). IsConstraint z) (sym w.left-is) w.meet_of-left.ensures.constraint;
        same = λ i j. subst (λ (z : Constraint). Allows z i j ↔ SolvesEach (take (c.loop-p.p-index + 1) c.args.ps.now) (loop_at c.args.at) i j) (sym w.left-is)
            (solves_more c.args.ps.now (loop_at c.args.at) c.loop-p.p-index _ w.line_of.result c.loop-p.left w.constraint_of.result w.meet_of-left.result i j c.loop-p-test.true
            (c.has_loop.ensures.0 w.if-has_loop.true) w.line_of.ensures.line (c.loop-p.invariant.same i j) (w.constraint_of.ensures.same i j) (w.meet_of-left.ensures.meet i j));
      }
      | else-has_loop w ↦ record {
        constraint = subst (λ (z : Constraint). IsConstraint z) (sym w.left-is) c.loop-p.invariant.constraint;
        same = λ i j. subst (λ (z : Constraint). Allows z i j ↔ SolvesEach (take (c.loop-p.p-index + 1) c.args.ps.now) (loop_at c.args.at) i j) (sym w.left-is)
            (solves_still c.args.ps.now (loop_at c.args.at) c.loop-p.p-index _ c.loop-p.left i j c.loop-p-test.true (λ o. both_ways c.has_loop.result w.if-has_loop.false (c.has_loop.ensures.1 o))
            (c.loop-p.invariant.same i j));
      }
    ]

pub returns-clause-same : goal.returns-clause-same
returns-clause-same c =
    let t : take c.loop-p.p-index c.args.ps.now ≡ c.args.ps.now = take_all c.loop-p.p-index c.args.ps.now c.loop-p-test.false in
    rw t at c.loop-p.invariant.same
