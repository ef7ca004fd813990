use borrow.Author.Count.{below_more}
use Rattle.direction_vectors.specs.vector_tests.Places.{IsMivLeft}
use Rattle.direction_vectors.proofs.vector_tests.siv.miv_word.Goals as goal

pub loop-place-preserved : goal.loop-place-preserved
loop-place-preserved c = below_more (λ k. IsMivLeft c.args.ps.now c.args.d.now k) c.loop-place.place c.loop-place.invariant c.in_default.ensures
