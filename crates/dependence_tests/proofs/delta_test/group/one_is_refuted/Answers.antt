use Rattle.std.proofs.Common.{◌≡◌, take, false, IsTrue, arith, subst}
use Rattle.std.proofs.lemmas.List.Elements.{All-more}
use Rattle.subscripts.specs.Refutations.{IsRefutedByGcd, IsOneSided}
use Rattle.dependence_tests.specs.delta_test.Groups.{AreNotRefuted}
use Rattle.dependence_tests.proofs.delta_test.Folding.{take_all}
use Rattle.dependence_tests.proofs.delta_test.group.one_is_refuted.Goals as goal

pub loop-p-preserved : goal.loop-p-preserved
loop-p-preserved c =
    All-more (λ p. (IsRefutedByGcd p → ⊥) × (IsOneSided p c.args.d.now → ⊥)) c.args.ps.now c.loop-p.p-index _ c.loop-p-test.true c.loop-p.invariant
    (λ g. let t : IsTrue false = c.if-gcd_refutes.ensures.exact.1 g in cc, λ r. let t : IsTrue false = c.if-range_refutes.ensures.exact.1 r in cc)

pub returns-clause-complete : goal.returns-clause-complete
returns-clause-complete c =
    let t : take c.loop-p.p-index c.args.ps.now ≡ c.args.ps.now = take_all c.loop-p.p-index c.args.ps.now (omega arith) c.loop-p-test.false in
    λ e. subst (λ z. AreNotRefuted z c.args.d.now) t c.loop-p.invariant
