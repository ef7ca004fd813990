use Rattle.std.proofs.Common.{◌≡◌, ◌+◌, ◌≤◌, List, length, take, subst, sym}
use Rattle.std.specs.Prelude.{All}
use Rattle.std.proofs.lemmas.List.{take_all}
use Rattle.std.proofs.lemmas.List.Elements.{All-more}
use Rattle.subscripts.specs.declared.pairing.Pairing.{Pairing}
use Rattle.direction_vectors.specs.vector_tests.Refs.{IsSubscriptOf}
use Rattle.direction_vectors.proofs.vector_tests.refs.RefPair.has_subscripts.Goals as goal

pub loop-p-preserved : goal.loop-p-preserved
loop-p-preserved c =
    let same = c.as_slice-p-items.ensures in
    subst (λ (ps : List Pairing). All (IsSubscriptOf c.args.self.now) (take (c.loop-p.p-index + 1) ps)) same
    (All-more (IsSubscriptOf c.args.self.now) c.as_slice-p-items.result.now c.loop-p.p-index _ c.loop-p-test.true
    (subst (λ (ps : List Pairing). All (IsSubscriptOf c.args.self.now) (take c.loop-p.p-index ps)) (sym same) c.loop-p.invariant) (c.has_subscript.ensures c.if-not-has_subscript.false))

pub returns : goal.returns
returns c = λ t.
    let few : length c.args.self.now.subs ≤ c.loop-p.p-index = subst (λ (ps : List Pairing). length ps ≤ c.loop-p.p-index) c.as_slice-p-items.ensures c.loop-p-test.false in
    subst (λ (ps : List Pairing). All (IsSubscriptOf c.args.self.now) ps) (take_all c.loop-p.p-index c.args.self.now.subs few) c.loop-p.invariant
