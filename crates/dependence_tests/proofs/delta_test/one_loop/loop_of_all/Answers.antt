use Rattle.std.proofs.Common.{rules, ◌≡◌, take, arith, subst}
use Rattle.std.proofs.lemmas.List.Elements.{All-more}
use Rattle.subscripts.specs.Classes.{HasOneLoop}
use Rattle.dependence_tests.proofs.delta_test.Folding.{take_all}
use Rattle.dependence_tests.specs.delta_test.Groups.{HasOneLoopOfAll}
use Rattle.dependence_tests.specs.loop_lines.Places.{loop_at}
use Rattle.dependence_tests.proofs.delta_test.one_loop.loop_of_all.Goals as goal

pub loop-p-preserved : goal.loop-p-preserved
loop-p-preserved c =
    let same : c.in_ok-only_loop_of.field-0 ≡ c.in_ok-at.at = search rules in
    All-more (λ p. HasOneLoop p (loop_at c.in_ok-at.at)) c.args.ps.now c.loop-p.p-index _ c.loop-p-test.true c.loop-p.invariant
    (rw same at c.in_ok-only_loop_of.ensures)

pub returns : goal.returns
returns c =
    let t : take c.loop-p.p-index c.args.ps.now ≡ c.args.ps.now = take_all c.loop-p.p-index c.args.ps.now (omega arith) c.loop-p-test.false in
    subst (λ z. HasOneLoopOfAll z (loop_at c.in_ok-at.at)) t c.loop-p.invariant
