use Rattle.std.proofs.Common.{rules, ◌≡◌, length, arith, sym, ◌∙◌}
use Rattle.std.proofs.lemmas.List.{ext_get_or}
use Rattle.subscripts.specs.Iterations.{once}
use Rattle.direction_vectors.proofs.vector_tests.Meetings.{padded_at, padded_length}
use Rattle.direction_vectors.specs.vector_tests.Refs.{padded}
use Rattle.direction_vectors.proofs.vector_tests.shapes.are_padded.Goals as goal

pub returns : goal.returns
returns c =
    let n : length c.args.spans.now ≡ 7 = search rules in
    λ t. ext_get_or once c.args.spans.now (padded c.args.loops.now) (n ∙ sym (padded_length c.args.loops.now c.requires))
    (λ k b. c.loop-place.invariant k (omega arith) ∙ sym (padded_at c.args.loops.now k))
