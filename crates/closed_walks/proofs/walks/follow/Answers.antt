use Rattle.std.proofs.Common.{◌≡◌, ◌+◌, ◌-◌, ◌<◌, ℕ, None, [], subst, sym, ◌∙◌, append-nil, arith}
use Rattle.closed_walks.specs.Distances.{AreChosen, IsLeastNext, LeadsTo}
use Rattle.closed_walks.proofs.walks.follow.Goals as goal

pub returns-in_default : goal.returns-in_default
returns-in_default c =
    let some : 0 < c.loop-left.left = omega arith in
    let most = c.loop-left.invariant.most in
    let n : ℕ = c.loop-left.left - 1 in
    let is : n + 1 ≡ c.loop-left.left = omega arith in
    let leads : LeadsTo c.args.pairs.now c.args.steps.now n c.loop-left.at = c.requires.leads c.loop-left.at n (omega arith)
    (λ e. c.loop-left.invariant.first (sym is ∙ e)) (λ l. subst (λ z. Rattle.closed_walks.specs.Distances.at c.args.steps.now c.loop-left.at ≡ Rattle.std.specs.Prelude.Some z) (sym is) (c.loop-left.invariant.later (omega arith))) in
    let none : IsLeastNext c.args.pairs.now c.args.steps.now c.loop-left.at n None = subst (IsLeastNext c.args.pairs.now c.args.steps.now c.loop-left.at n) c.in_default.is c.least_next.ensures in
    absurd (none leads.0 leads.1 leads.2)

pub returns : goal.returns
returns c =
    let zero : c.loop-left.left ≡ 0 = omega arith in
    subst (AreChosen c.args.pairs.now c.args.steps.now c.args.from (c.args.count + 1)) (append-nil c.loop-left.over) (c.loop-left.invariant.chosen [] zero)
