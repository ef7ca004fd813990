use Rattle.std.proofs.Common.{◌≡◌, take, subst}
use Rattle.std.specs.Prelude.{All, IsTrue, List}
use Rattle.std.proofs.lemmas.List.{take_all}
use Rattle.std.proofs.lemmas.List.Elements.{All-more}
use Rattle.dependence_tests.specs.loop_lines.OneLoop.{HasNoneAt}
use Rattle.subscripts.specs.declared.pairing.Pairing.{Pairing}
use Rattle.direction_vectors.proofs.splitting.is_named.Goals as goal

pub loop-p-preserved : goal.loop-p-preserved
loop-p-preserved c =
    All-more (λ p. IsTrue p.known → HasNoneAt p c.args.place) c.args.ps.now c.loop-p.p-index _ c.loop-p-test.true c.loop-p.invariant (c.names.ensures c.if-names.false)

pub returns : goal.returns
returns c =
    let t : take c.loop-p.p-index c.args.ps.now ≡ c.args.ps.now = take_all c.loop-p.p-index c.args.ps.now c.loop-p-test.false in
    λ e. subst (λ (ps : List Pairing). All (λ p. IsTrue p.known → HasNoneAt p c.args.place) ps) t c.loop-p.invariant
