use Rattle.std.proofs.Common.{◌≡◌, refl, arith}
use Rattle.std.proofs.lemmas.Bool.{both_ways, false≢true}
use borrow.Author.Count.{below_more}
use Rattle.subscripts.specs.Partitions.{AreCoupled}
use Rattle.subscripts.proofs.Coupling.{coupled_from, coupled_to, second_within}
use Rattle.direction_vectors.proofs.vector_tests.words.is_separable.Goals as goal
use Rattle.direction_vectors.proofs.vector_tests.words.is_separable.Goals.{else-other-place-via-then-other-place+else-shares_loop, else-other-place-via-else-other-place}

pub returns-then-shares_loop : goal.returns-then-shares_loop
returns-then-shares_loop c = (
  λ t. absurd (false≢true t),
  λ s. absurd
      (c.if-other-place.true
      (s c.loop-other.other (coupled_from c.args.ps.now c.args.place c.loop-other.other _ _ c.requires.place c.loop-other-test.true (c.shares_loop.ensures.0 c.if-shares_loop.true)))),
)

pub loop-other-preserved : goal.loop-other-preserved
loop-other-preserved c =
    let here : AreCoupled c.args.ps.now c.args.place c.loop-other.other → c.loop-other.other ≡ c.args.place =
    elim c.else-other-place.branch [
      | else-other-place-via-then-other-place+else-shares_loop w ↦
          λ h. absurd (both_ways w.shares_loop.result w.if-shares_loop.false (w.shares_loop.ensures.1 (coupled_to c.args.ps.now c.args.place c.loop-other.other _ _ h)))
      | else-other-place-via-else-other-place w ↦ λ h. w.if-other-place.false
    ] in
    below_more (λ j. AreCoupled c.args.ps.now c.args.place j → j ≡ c.args.place) c.loop-other.other c.loop-other.invariant here

pub returns : goal.returns
returns c = (
  λ t j h. let b = second_within c.args.ps.now c.args.place j h in c.loop-other.invariant j (omega arith) h,
  λ s. refl,
)
