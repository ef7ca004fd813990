use Rattle.std.proofs.Common.{◌<◌, [], ℕ, length, get_or, take, subst, sym, arith}
use Rattle.std.proofs.lemmas.List.{take_all, take_more}
use Rattle.components.specs.Classes.{ArePairsBetween}
use Rattle.components.proofs.Grouping.{between_none, between_step}
use Rattle.components.proofs.tables.pairs_between.Goals as goal

pub loop-from-init : goal.loop-from-init
loop-from-init c = subst (ArePairsBetween [] c.args.labels.now) (sym c.new-between.ensures.items) (between_none c.args.labels.now)

pub loop-from-preserved : goal.loop-from-preserved
loop-from-preserved c =
    let inside : c.loop-from.from-index < length c.args.pairs.now = omega arith in
    let pair : ℕ × ℕ = get_or c.args.pairs.now c.loop-from.from-index (0, 0) in
    subst (λ ps. ArePairsBetween ps c.args.labels.now c.add_between.new.between.items) (sym (take_more c.args.pairs.now c.loop-from.from-index (0, 0) inside))
    (between_step (take c.loop-from.from-index c.args.pairs.now) c.args.labels.now c.loop-from.between.items c.add_between.new.between.items pair.0 pair.1
    c.loop-from.invariant c.in_ok-add_between.ensures)

pub returns : goal.returns
returns c =
    subst (λ ps. ArePairsBetween ps c.args.labels.now c.loop-from.between.items) (take_all c.loop-from.from-index c.args.pairs.now c.loop-from-test.false) c.loop-from.invariant
