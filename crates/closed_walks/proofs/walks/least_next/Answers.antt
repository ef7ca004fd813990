use Rattle.std.proofs.Common.{◌<◌, ℕ, length, get_or, take, sym, subst, arith}
use Rattle.std.proofs.lemmas.List.{take_more}
use Rattle.closed_walks.specs.Distances.{IsLeastNext}
use Rattle.closed_walks.proofs.Loops.{taken_more}
use Rattle.closed_walks.proofs.walks.least_next.Goals as goal

pub loop-pair-preserved : goal.loop-pair-preserved
loop-pair-preserved c =
    let inside : c.loop-pair.pair-index < length c.args.pairs.now = omega arith in
    let pair : ℕ × ℕ = get_or c.args.pairs.now c.loop-pair.pair-index (0, 0) in
    subst (λ ps. IsLeastNext ps c.args.steps.now c.args.from c.args.count c.taken-least.result) (sym (take_more c.args.pairs.now c.loop-pair.pair-index (0, 0) inside))
    (taken_more (take c.loop-pair.pair-index c.args.pairs.now) c.args.steps.now c.args.from c.args.count pair.0 pair.1 c.loop-pair.least c.taken-least.result c.loop-pair.invariant c.taken-least.ensures)
