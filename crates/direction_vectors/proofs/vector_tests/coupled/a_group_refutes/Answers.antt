use Rattle.std.proofs.Common.{◌≡◌, arith}
use Rattle.std.specs.Prelude.{slice_index}
use borrow.Author.Count.{below_more}
use Rattle.direction_vectors.proofs.vector_tests.GroupTests.{left_of_first}
use Rattle.direction_vectors.specs.vector_tests.Places.{IsGroupLeft}
use Rattle.direction_vectors.specs.vector_tests.Words.{IsSeparable}
use Rattle.direction_vectors.proofs.vector_tests.coupled.a_group_refutes.Goals as goal

pub loop-place-preserved : goal.loop-place-preserved
loop-place-preserved c =
    below_more (λ k. slice_index c.partition-groups.result.of k ≡ k → (IsSeparable c.args.ps.now k → ⊥) → IsGroupLeft c.args.ps.now c.args.d.now k) c.loop-place.place c.loop-place.invariant
    (c.group_refutes.ensures.complete c.if-group_refutes.false)

pub returns-clause-complete : goal.returns-clause-complete
returns-clause-complete c =
    λ e. left_of_first c.args.ps.now c.partition-groups.result.of c.args.d.now c.partition-groups.ensures c.requires.count (λ k b. c.loop-place.invariant k (omega arith))
