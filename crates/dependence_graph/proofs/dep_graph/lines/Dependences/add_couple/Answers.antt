use Rattle.std.proofs.Common.{◌≡◌, ◌++◌, ◌∷◌, [], List, sym, subst}
use Rattle.direction_vectors.specs.Candidates.{Answer}
use Rattle.dependence_graph.specs.dep_graph.Joined.{AreJoined, AreVectors, all_drops_at, all_edges_at, ref_pair_of}
use Rattle.direction_vectors.specs.declared.vector_tests.refs.RefPair.{RefPair}
use Rattle.dependence_graph.proofs.dep_graph.Joining.{ends_of, joined_one, names_alike}
use Rattle.dependence_graph.proofs.dep_graph.PairLaws.{both_ok}
use Rattle.dependence_graph.proofs.dep_graph.lines.Dependences.add_couple.Goals as goal

pub returns : goal.returns
returns c =
    let a = c.args.from.now in let b = c.args.to.now in let k = c.in-Some.kind in let answers = c.as_slice.result.now in
    let old = c.args.self.now in let new = c.add_answers.new.self in
    let v : AreVectors (ref_pair_of a b) answers =
    subst (λ (r : RefPair). AreVectors r answers) c.in_ok-refs.ensures
    (subst (λ (as' : List Answer). AreVectors c.in_ok-refs.refs as') (sym c.as_slice.ensures) c.in_ok-answers.ensures) in
    both_ok (new.edges ≡ old.edges ++ all_edges_at (ends_of a b k) answers) (new.dropped ≡ old.dropped ++ all_drops_at (ends_of a b k) answers)
    (AreJoined ((a, b) ∷ []) old new) c.add_answers.result (λ h g. joined_one a b k answers old new (c.requires.refs (names_alike a b k c.in-Some.ensures)) c.in-Some.ensures v h g) c.add_answers.ensures.edges c.add_answers.ensures.dropped
