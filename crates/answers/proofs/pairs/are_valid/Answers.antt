use Rattle.std.proofs.Common.{◌≡◌, take, arith, subst}
use Rattle.std.specs.Prelude.{All}
use Rattle.std.proofs.lemmas.List.{take_all}
use Rattle.std.proofs.lemmas.List.Elements.{All-more}
use Rattle.subscripts.specs.Shapes.{AreDirsOf, IsPairing}
use Rattle.answers.proofs.pairs.are_valid.Goals as goal

pub loop-p-preserved : goal.loop-p-preserved
loop-p-preserved c = record {
  pairings = All-more IsPairing c.args.ps.now c.loop-p.p-index _ c.loop-p-test.true c.loop-p.invariant.pairings (c.is_valid.ensures c.if-not-is_valid.false);
  dirs = All-more (λ p. AreDirsOf p c.args.d.now) c.args.ps.now c.loop-p.p-index _ c.loop-p-test.true c.loop-p.invariant.dirs (c.suit.ensures.0 c.if-not-suit.false);
}

pub returns-clause-pairings : goal.returns-clause-pairings
returns-clause-pairings c = λ t. let e = take_all c.loop-p.p-index c.args.ps.now (omega arith) in rw e at c.loop-p.invariant.pairings

pub returns-clause-dirs : goal.returns-clause-dirs
returns-clause-dirs c = λ t. let e = take_all c.loop-p.p-index c.args.ps.now (omega arith) in rw e at c.loop-p.invariant.dirs
