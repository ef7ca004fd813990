use Rattle.std.proofs.Common.{inl, inr}
use Rattle.direction_vectors.proofs.vector_tests.Steps.{one_left}
use Rattle.direction_vectors.proofs.vector_tests.siv.refuted_siv.Goals as goal

pub returns-in-Pair : goal.returns-in-Pair
returns-in-Pair c =
    one_left c.args.p.now c.args.d.now c.test_siv.result c.requires.pairing c.requires.dirs c.requires.places c.test_siv.ensures.pair c.test_siv.ensures.assumed
    (λ w e. elim c.in-Pair.is [ inl b ↦ cc | inr b ↦ cc ])
