use Rattle.std.proofs.Common.{◌≡◌, subst, [], ◌∷◌, ◌++◌}
use Rattle.closed_walks.specs.Cycles.{Adds}
use Rattle.closed_walks.specs.Walks.{IsAnswer}
use Rattle.closed_walks.proofs.MoreWalks.{adds_walk, on_ok}
use Rattle.closed_walks.proofs.member_walks.add_cycle.Goals as goal

pub returns-in_ok-with_start-in-Some : goal.returns-in_ok-with_start-in-Some
returns-in_ok-with_start-in-Some c =
    on_ok c.push.result (c.push.new.self ≡ c.args.walks.now ++ c.in_ok-with_start-in-Some.field-0 ∷ []) (Adds c.args.pairs.now (c.args.start ∷ []) c.args.walks.now c.push.new.self)
    (λ e. adds_walk c.args.pairs.now c.args.start c.in-Some.over c.in_ok-with_start-in-Some.field-0 c.args.walks.now c.push.new.self
    (subst (IsAnswer c.args.pairs.now c.args.start) c.in-Some.is c.in_ok-over.ensures) c.in_ok-with_start-in-Some.ensures e)
    c.push.ensures.ok
