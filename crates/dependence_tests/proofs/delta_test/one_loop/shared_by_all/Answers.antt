use Rattle.std.proofs.Common.{◌≡◌, take, arith, subst}
use Rattle.std.specs.Prelude.{All}
use Rattle.std.proofs.lemmas.List.Elements.{All-more}
use Rattle.dependence_tests.specs.loop_lines.OneLoop.{HasSevenLists}
use Rattle.dependence_tests.specs.loop_lines.Places.{loop_at}
use Rattle.dependence_tests.proofs.delta_test.Folding.{take_all, line_more}
use Rattle.dependence_tests.proofs.delta_test.one_loop.shared_by_all.Goals as goal

pub loop-p-preserved : goal.loop-p-preserved
loop-p-preserved c = record {
  constraint = c.meet_of-shared.ensures.constraint;
  same = λ i j. line_more c.args.ps.now (loop_at c.args.at) c.loop-p.p-index _ c.line_of.result c.loop-p.shared c.constraint_of.result c.meet_of-shared.result i j
      c.loop-p-test.true c.line_of.ensures.line (c.loop-p.invariant.same i j) (c.constraint_of.ensures.same i j) (c.meet_of-shared.ensures.meet i j);
  places = All-more HasSevenLists c.args.ps.now c.loop-p.p-index _ c.loop-p-test.true c.loop-p.invariant.places c.line_of.ensures.places;
}

pub returns-clause-same : goal.returns-clause-same
returns-clause-same c =
    let t : take c.loop-p.p-index c.args.ps.now ≡ c.args.ps.now = take_all c.loop-p.p-index c.args.ps.now (omega arith) c.loop-p-test.false in
    rw t at c.loop-p.invariant.same

pub returns-clause-places : goal.returns-clause-places
returns-clause-places c =
    let t : take c.loop-p.p-index c.args.ps.now ≡ c.args.ps.now = take_all c.loop-p.p-index c.args.ps.now (omega arith) c.loop-p-test.false in
    subst (λ z. All HasSevenLists z) t c.loop-p.invariant.places
